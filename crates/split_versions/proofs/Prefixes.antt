-- Versions of the first entries of a list.
use Rattle.std.proofs.Common.{◌≡◌, ◌⊎◌, ◌+◌, ◌<◌, ◌≤◌, ℕ, zero, suc, List, [], ◌∷◌, ◌++◌, length, length-append, take, sym, ◌∙◌, ap, subst, arith, inl, inr, add-one}
use Rattle.std.proofs.Math.Seq.{take-suc}
use Rattle.std.proofs.lemmas.Bool.{cases_lt}
use Rattle.std.proofs.lemmas.List.{take_all, take-append-le}
use Rattle.field_table.specs.Table.{IsListed}
use Rattle.op_polynomials.specs.declared.entry.SplitEntry.{SplitEntry}
use Rattle.quotient_coords.specs.Quotient.{Ground}
use Rattle.split_state.specs.Decomposition.{Decomposition, IsSplitting}
use Rattle.split_state.specs.Refinement.{Refines}
use Rattle.split_state.specs.Versions.{IsVersion, IsVersionFrom, unchanged, stepped}
use Rattle.split_state.proofs.Versions.{version_characteristic, version_last, version_once}
use Rattle.split_state.proofs.VersionSplittings.{entry_refines}
use Rattle.split_versions.specs.Histories.{AreVersions, IsSplittingVersion}

-- the first i + 1 elements are the first i and one more
next_element : {A : Type 0} (xs : List A) (i : ℕ) → i < length xs → (x : A) × (take (i + 1) xs ≡ take i xs ++ x ∷ [])
next_element [] i l = absurd (omega (arith, l))
next_element {A = A} (x ∷ xs) i l = (_, ap (λ n. take n (let ys : List A = x ∷ xs in ys)) (add-one i) ∙ take-suc (x ∷ xs) i x l)

from_prefix : {g : Ground} {s r : Decomposition} {entries : List SplitEntry} (i : ℕ) → IsVersionFrom g s entries r
    → (t : Decomposition) × IsVersionFrom g s (take i entries) t
from_prefix {s = s} zero h = (s, unchanged)
from_prefix {s = s} (suc i) unchanged = (s, unchanged)
from_prefix (suc i) (stepped h a) = let (t, b) = from_prefix i a in (t, stepped h b)

-- the first entries have a version
pub version_prefix : (g : Ground) (entries : List SplitEntry) (s : Decomposition) → IsVersion g entries s → (i : ℕ)
    → (r : Decomposition) × IsVersion g (take i entries) r
version_prefix g entries s h i = let (r, a) = from_prefix i h.steps in (r, record { start = h.start; whole = h.whole; steps = a })

-- which refines the one of an entry less
pub prefix_refines : (g : Ground) → IsListed g.characteristic → (entries : List SplitEntry) (i : ℕ) → i < length entries → (s r : Decomposition)
    → IsVersion g (take i entries) s → IsVersion g (take (i + 1) entries) r → Refines r s
prefix_refines g listed entries i l s r h k =
    let (e, same) = next_element entries i l in
    let (t, before, step) = version_last g (take i entries) e r (subst (λ xs. IsVersion g xs r) same k) in
    subst (λ x. Refines r x) (version_once g listed (take i entries) t s before h) (entry_refines g t e r step)

listed_of : (g : Ground) (entries : List SplitEntry) (s : Decomposition) → IsSplittingVersion g entries s → IsListed g.characteristic
listed_of g entries s h = subst IsListed (version_characteristic g entries s h.version) h.splitting.listed

-- each version of the first entries is a splitting
pub prefix_splitting : (g : Ground) (entries : List SplitEntry) → AreVersions g entries → (i : ℕ) → i ≤ length entries → (s : Decomposition)
    → IsVersion g (take i entries) s → IsSplitting s
prefix_splitting g entries h i l s k =
    let (t, a) = h.splittings i l in
    subst IsSplitting (version_once g (listed_of g (take i entries) t a) (take i entries) t s a.version k) a.splitting

-- a history begins with the whole space
pub versions_none : (g : Ground) (s : Decomposition) → IsVersion g [] s → IsSplitting s → AreVersions g []
versions_none g s h splits = record {
  splittings = λ i l. (
    s,
    record {
      version = subst (λ xs. IsVersion g xs s) (sym (take_all i [] (omega arith))) h;
      splitting = splits;
    },
  );
  refining = λ i l. absurd (omega (arith, l));
}

-- and grows by an entry
pub versions_more : (g : Ground) (entries : List SplitEntry) (e : SplitEntry) (s : Decomposition) → AreVersions g entries
    → IsVersion g (entries ++ e ∷ []) s → IsSplitting s → AreVersions g (entries ++ e ∷ [])
versions_more g entries e s h k splits = record {
  splittings = λ i l. at i l (cases_lt (length entries) i);
  refining = prefix_refines g (listed_of g (entries ++ e ∷ []) s (record { version = k; splitting = splits })) (entries ++ e ∷ []);
}
  where
    at : (i : ℕ) → i ≤ length (entries ++ e ∷ []) → (length entries < i) ⊎ (i ≤ length entries)
        → (r : Decomposition) × IsSplittingVersion g (take i (entries ++ e ∷ [])) r
    at i l (inl over) = (
      s,
      record {
        version = subst (λ xs. IsVersion g xs s) (sym (take_all i (entries ++ e ∷ []) (omega (arith, length-append entries (e ∷ []), over)))) k;
        splitting = splits;
      },
    )
    at i l (inr under) = let (r, a) = h.splittings i under in
        (r, subst (λ xs. IsSplittingVersion g xs r) (sym (take-append-le i entries (e ∷ []) under)) a)
