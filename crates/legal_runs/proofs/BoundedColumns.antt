-- Distinct pairs that are among those of a list are no more than the list has distinct ones.
use Rattle.std.proofs.Common.{◌≡◌, ◌≤◌, ◌⊎◌, inl, inr, ℕ, Bool, true, false, cond, List, [], ◌∷◌, length, refl, ◌∙◌, ap, arith}
use Rattle.std.specs.List.{IsDistinct}
use Rattle.std.specs.Set.{is_member, unique_keys, distinct_count}
use Rattle.std.proofs.lemmas.Bool.{or_cases, or_left, or_right}
use Rattle.std.proofs.lemmas.Map.Made.{length-le_from_is_member}
use Rattle.session_core.specs.Demands.{is_pair, Has, HasAll, script_demand}
use Rattle.session_core.specs.Transcripts.{script_ground}
use Rattle.session_core.proofs.PairLemmas.{is_pair-eq, is_pair-equivalence}
use Rattle.legal_runs.specs.Columns.{ColumnsAreBounded}

-- the pairs of a list are among its distinct ones
among_unique : (pairs : List (ℕ × ℕ)) → HasAll (unique_keys is_pair pairs) pairs
among_unique [] q h = h
among_unique (x ∷ pairs) q h =
    by (is_member is_pair pairs x) refl (among_unique pairs) (or_cases (is_pair q x) (is_member is_pair pairs q) h)
  where
    by : (t : Bool) → is_member is_pair pairs x ≡ t → HasAll (unique_keys is_pair pairs) pairs → (is_pair q x ≡ true) ⊎ Has pairs q
        → Has (cond t (unique_keys is_pair pairs) (x ∷ unique_keys is_pair pairs)) q
    by true there all (inl same) = all q (ap (λ (k : ℕ × ℕ). is_member is_pair pairs k) (is_pair-eq q x same) ∙ there)
    by true there all (inr later) = all q later
    by false absent all (inl same) = or_left (is_pair q x) (is_member is_pair (unique_keys is_pair pairs) q) same
    by false absent all (inr later) = or_right (is_pair q x) (is_member is_pair (unique_keys is_pair pairs) q) (all q later)

pub distinct_bound : (pairs demanded : List (ℕ × ℕ)) → IsDistinct is_pair pairs → HasAll demanded pairs
    → length pairs ≤ distinct_count is_pair demanded
distinct_bound pairs demanded distinct only =
    length-le_from_is_member is_pair-equivalence pairs (unique_keys is_pair demanded) distinct
    (λ q h. among_unique demanded q (only q h))

-- so the columns of a legal run are bounded
pub columns_bounded : ColumnsAreBounded
columns_bounded script t run =
    let demanded = script_demand (script_ground script) script.sessions in
    omega (arith, run.columns.counted, distinct_bound run.columns.pairs demanded run.columns.distinct run.columns.only)
