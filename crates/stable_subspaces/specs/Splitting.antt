-- Direct sums of subspaces, each part the span of a list of rows (Axler, Linear Algebra Done Right, 1.C).
--   Choice parts vs      vs has one vector from each part, in order
--   vector_sum vs        the sum of the vectors
--   IsDirectSum d parts  each vector of length d is the sum of exactly one choice from the parts
--   IsSumOfTwo w k i     the span of w is the direct sum of those of k and i
--   Refined parts news   news has, for each part in order, two that it is the direct sum of
use Rattle.std.specs.Prelude.{◌≡◌, ℕ, List, [], ◌∷◌}
use Rattle.linear_algebra.specs.Vector.{Vector, ◌⊞◌, zeros, EndsBefore}
use Rattle.linear_algebra.specs.Span.{InSpan}

pub data Choice {p : ℕ} : List (List (Vector p)) → List (Vector p) → Type 0 where
  none : Choice [] []
  more : {part : List (Vector p)} {v : Vector p} {parts : List (List (Vector p))} {vs : List (Vector p)} → InSpan part v → Choice parts vs → Choice (part ∷ parts) (v ∷ vs)

abbrev pub vector_sum : {p : ℕ} → List (Vector p) → Vector p
vector_sum [] = zeros
vector_sum (v ∷ vs) = v ⊞ vector_sum vs

pub record IsDirectSum {p : ℕ} (d : ℕ) (parts : List (List (Vector p))) : Type 0 where
  pub some_choice : (v : Vector p) → EndsBefore d v → (vs : List (Vector p)) × Choice parts vs × (v ≡ vector_sum vs)
  pub one_choice : (vs ws : List (Vector p)) → Choice parts vs → Choice parts ws → vector_sum vs ≡ vector_sum ws → vs ≡ ws

pub record IsSumOfTwo {p : ℕ} (w k i : List (Vector p)) : Type 0 where
  pub left : (v : Vector p) → InSpan k v → InSpan w v
  pub right : (v : Vector p) → InSpan i v → InSpan w v
  pub splits : (v : Vector p) → InSpan w v → (x : Vector p) × (y : Vector p) × InSpan k x × InSpan i y × (v ≡ x ⊞ y)
  pub once : (x y x' y' : Vector p) → InSpan k x → InSpan k x' → InSpan i y → InSpan i y' → x ⊞ y ≡ x' ⊞ y' → (x ≡ x') × (y ≡ y')

pub data Refined {p : ℕ} : List (List (Vector p)) → List (List (Vector p)) → Type 0 where
  done : Refined [] []
  next : {w k i : List (Vector p)} {parts news : List (List (Vector p))} → IsSumOfTwo w k i → Refined parts news → Refined (w ∷ parts) (k ∷ i ∷ news)
