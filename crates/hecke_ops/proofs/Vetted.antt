-- What the test of all columns gives.
use Rattle.std.proofs.Common.{◌≡◌, ◌*◌, ℕ, List, length, ◌∙◌, ap, subst, Err}
use Rattle.std.specs.Prelude.{IsErrOf}
use Rattle.linear_algebra.specs.Prime.{IsPrime}
use Rattle.linear_algebra.specs.Coordinates.{IsKeptList}
use Rattle.p1_normal.specs.declared.matrix.Matrix.{Matrix}
use Rattle.p1_normal.specs.Points.{symbols}
use Rattle.manin_relations.specs.Relations.{relations}
use Rattle.quotient_coords.specs.Quotient.{Ground, dimension}
use Rattle.hecke_ops.specs.declared.fault.VetFault.{VetFault}
use Rattle.hecke_ops.specs.declared.fault.VetFault.TheVariants.{Relation}
use Rattle.hecke_ops.specs.Operators.{AreColumns, IsFirstFailing, IsHeckeMatrix, IsOperator, IsSomeOperator, KeepsRelations}
use Rattle.hecke_ops.proofs.FirstFailing.{failing_once, failing_values}

-- a relation that was found to fail is the one that fails first
pub found_is_first : {A : Type 0} (N p : ℕ) (L : List Matrix) (n k : ℕ) (values coords : List ℕ) → IsPrime p
    → IsFirstFailing N p L n values → IsFirstFailing N p L k coords
    → IsErrOf {T = A} {E = VetFault} (Err (Relation n values)) (Relation k coords)
found_is_first {A} N p L n k values coords prime h g =
    let number : n ≡ k = failing_once prime h g in
    let same : values ≡ coords = failing_values prime (subst (λ i. IsFirstFailing N p L i values) number h) g in
    cc (number, same)

-- columns at equal grounds
pub AreColumns-same : {g h : Ground} (L : List Matrix) (columns : List (List ℕ)) → g ≡ h → AreColumns g.level g.characteristic L columns
    → AreColumns h.level h.characteristic L columns
AreColumns-same L columns e are = subst (λ s. AreColumns s.level s.characteristic L columns) e are

-- at equal levels, characteristics and lists
pub AreColumns-equal : {N M p q : ℕ} (L : List Matrix) {columns others : List (List ℕ)} → N ≡ M → p ≡ q → columns ≡ others
    → AreColumns N p L columns → AreColumns M q L others
AreColumns-equal {N} {M} {p} {q} L {columns} {others} level characteristic same are =
    subst (λ n. AreColumns n q L others) level (subst (λ n. AreColumns N n L others) characteristic (subst (AreColumns N p L) same are))

-- the same of the relation that fails first
pub IsFirstFailing-equal : {N M p q : ℕ} (L : List Matrix) (k : ℕ) {values coords : List ℕ} → N ≡ M → p ≡ q → values ≡ coords
    → IsFirstFailing N p L k values → IsFirstFailing M q L k coords
IsFirstFailing-equal {N} {M} {p} {q} L k {values} {coords} level characteristic same h =
    subst (λ n. IsFirstFailing n q L k coords) level
    (subst (λ n. IsFirstFailing N n L k coords) characteristic (subst (IsFirstFailing N p L k) same h))

-- of sums that keep congruence
pub KeepsRelations-equal : {N M p q : ℕ} (L : List Matrix) → N ≡ M → p ≡ q → KeepsRelations N p L → KeepsRelations M q L
KeepsRelations-equal {N} {M} {p} {q} L level characteristic h =
    subst (λ n. KeepsRelations n q L) level (subst (λ n. KeepsRelations N n L) characteristic h)

-- and of kept relations
pub IsKeptList-equal : {N M p q : ℕ} (ks : List ℕ) → N ≡ M → p ≡ q → IsKeptList (relations {p = p} N) (2 * length (symbols N)) ks
    → IsKeptList (relations {p = q} M) (2 * length (symbols M)) ks
IsKeptList-equal {N} {M} {p} {q} ks level characteristic h =
    subst (λ n. IsKeptList (relations {p = q} n) (2 * length (symbols n)) ks) level
    (subst (λ n. IsKeptList (relations {p = n} N) (2 * length (symbols N)) ks) characteristic h)

-- and of the dimension
pub dimension-equal : {N M p q : ℕ} → N ≡ M → p ≡ q → dimension N p ≡ dimension M q
dimension-equal {N} {M} {p} {q} level characteristic = ap (λ n. dimension n p) level ∙ ap (dimension M) characteristic

-- an operator over some list
pub some_operator : {N p : ℕ} (m r : ℕ) (L : List Matrix) (columns : List (List ℕ)) → N ≡ m → p ≡ r → KeepsRelations N p L
    → IsHeckeMatrix N p L columns
    → IsSomeOperator (record { level = m; characteristic = r; columns = columns })
some_operator {N} {p} m r L columns level characteristic keeps matrix = record {
  matrices = L;
  is_operator = subst (λ n. IsOperator n r L columns) level
      (subst (λ n. IsOperator N n L columns) characteristic (record { keeps = keeps; matrix = matrix }));
}
