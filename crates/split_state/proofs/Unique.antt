-- A step has one outcome.
use Rattle.std.proofs.Common.{◌≡◌, List, [], ◌∷◌, ◌++◌, ℕ, refl, sym, ◌∙◌, ap}
use Rattle.field_table.proofs.TableFacts.{listed_prime}
use Rattle.field_table.specs.Table.{IsListed}
use Rattle.linear_algebra.specs.Prime.{IsPrime}
use Rattle.linear_algebra.specs.Vector.{Vector}
use Rattle.linear_algebra.specs.Dense.{dense_rows}
use Rattle.op_polynomials.specs.declared.name.OpName.{OpName}
use Rattle.stable_subspaces.specs.Fitting.{generalised_kernel, eventual_image}
use Rattle.dense_mat.specs.Subspace.{Subspace}
use Rattle.dense_mat.proofs.Bases.{basis_once}
use Rattle.split_state.specs.Decomposition.{Decomposition}
use Rattle.split_state.specs.Step.{IsPartOf, part, nothing, SplitBy, done, next, Listing, known, new, IsStep}

-- one part
pub part_once : (p d : ℕ) → IsPrime p → (P : Vector p → Type 0) {xs ys : List Subspace} → IsPartOf p d P xs → IsPartOf p d P ys → xs ≡ ys
part_once p d prime P (part {b = b} h n) (part {b = c} g k) = ap (λ x. x ∷ []) (basis_once p d P b c prime h g)
part_once p d prime P (part h n) (nothing z) = absurd (n.nonzero (z n.vector (h.only n.vector n.inside)))
part_once p d prime P (nothing z) (part h n) = absurd (n.nonzero (z n.vector (h.only n.vector n.inside)))
part_once p d prime P (nothing z) (nothing y) = refl

-- one list of parts
split_once : (p d : ℕ) → IsPrime p → (a : List (Vector p)) {parts xs ys : List Subspace} → SplitBy p d a parts xs → SplitBy p d a parts ys → xs ≡ ys
split_once p d prime a done done = refl
split_once p d prime a (next {b = b} {kernel = k} {image = i} {news = n} hk hi s) (next {kernel = k'} {image = i'} {news = n'} gk gi t) =
    ap (λ x. x ++ (i ++ n)) (part_once p d prime (generalised_kernel a (dense_rows p b.rows)) hk gk)
    ∙ ap (λ x. k' ++ (x ++ n)) (part_once p d prime (eventual_image a (dense_rows p b.rows)) hi gi)
    ∙ ap (λ x. k' ++ (i' ++ x)) (split_once p d prime a s t)

-- one list of operators
listing_once : {names : List OpName} {matrices : List (List (List ℕ))} {op : OpName} {m : List (List ℕ)} {xs ys : List OpName}
    {vs ws : List (List (List ℕ))} → Listing names matrices op m xs vs → Listing names matrices op m ys ws → (xs ≡ ys) × (vs ≡ ws)
listing_once (known c) (known e) = (refl, refl)
listing_once (known c) (new absent) = absurd (absent c)
listing_once (new absent) (known c) = absurd (absent c)
listing_once (new absent) (new absent') = (refl, refl)

-- so one outcome
pub step_once : (s : Decomposition) (op : OpName) (m : List (List ℕ)) (f : List ℕ) (r t : Decomposition) → IsListed s.characteristic
    → IsStep s op m f r → IsStep s op m f t → r ≡ t
step_once s op m f r t listed h g =
    let parts : r.parts ≡ t.parts = split_once s.characteristic s.dim (listed_prime s.characteristic listed) _ h.parts g.parts in
    let (names, matrices) = listing_once h.operators g.operators in
    λ i. record {
      characteristic = (h.characteristic ∙ sym g.characteristic) i;
      dim = (h.dim ∙ sym g.dim) i;
      parts = parts i;
      names =
          names i;
      matrices = matrices i;
    }
