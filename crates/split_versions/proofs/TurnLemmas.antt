-- What a turn hands out is of the space of the board, and its list begins with what was seen.
use Rattle.std.proofs.Common.{◌≡◌, ◌≤◌, ℕ, List, [], ◌∷◌, ◌++◌, length, take, sym, subst}
use mathlib.Core.List.{IsPrefix}
use Rattle.std.proofs.lemmas.List.{take-append-le}
use Rattle.op_polynomials.specs.declared.entry.SplitEntry.{SplitEntry}
use Rattle.quotient_coords.specs.Quotient.{Ground}
use Rattle.split_state.specs.Decomposition.{Decomposition}
use Rattle.split_state.specs.Versions.{IsVersion}
use Rattle.split_versions.specs.Histories.{AreVersions}

same_ground : (a b : Ground) → a.level ∷ a.characteristic ∷ [] ≡ b.level ∷ b.characteristic ∷ [] → a ≡ b
same_ground a b same =
    let level : a.level ≡ b.level = cc in
    let characteristic : a.characteristic ≡ b.characteristic = cc in
    λ i. record { level = level i; characteristic = characteristic i }

-- versions are those of the space of the board
pub versions_of_label : (a b : Ground) (entries : List SplitEntry) → a.level ∷ a.characteristic ∷ [] ≡ b.level ∷ b.characteristic ∷ []
    → AreVersions a entries → AreVersions b entries
versions_of_label a b entries same h = subst (λ g. AreVersions g entries) (same_ground a b same) h

-- a version of what was seen is one of the list that is handed out
pub version_in_turn : (a b : Ground) (seen log : List SplitEntry) (n : ℕ) (e : SplitEntry) (s : Decomposition)
    → b.level ∷ b.characteristic ∷ [] ≡ a.level ∷ a.characteristic ∷ [] → IsPrefix seen log → n ≤ length seen
    → IsVersion a (take n seen ++ e ∷ []) s → IsVersion b (take n log ++ e ∷ []) s
version_in_turn a b seen log n e s same begins within h =
    subst (λ xs. IsVersion b (take n xs ++ e ∷ []) s) begins.1
    (subst (λ xs. IsVersion b (xs ++ e ∷ []) s) (sym (take-append-le n seen begins.0 within))
    (subst (λ g. IsVersion g (take n seen ++ e ∷ []) s) (same_ground a b (sym same)) h))
