-- Fitting's two parts of a stable subspace W, the span of the rows, under A (Lang, Algebra, X.7; Jacobson, Basic Algebra II, 3.4).
-- A part is a set of vectors: the word gives, for each vector, what it is to be in the set.
--   generalised_kernel a rows v  v is in W, and some power of A sends it to 0
--   eventual_image a rows v      for every n, v is A applied n times to a vector of W
--   IsImageBasis n a rows basis  basis is a basis of the image of W under A applied n times
--   IsFittingPair a rows k i     the span of k is the generalised kernel, and that of i is the eventual image
use Rattle.std.specs.Prelude.{ℕ, List}
use Rattle.linear_algebra.specs.Vector.{Vector}
use Rattle.linear_algebra.specs.Span.{InSpan, Independent}
use Rattle.stable_subspaces.specs.Operator.{InImage, InKernel}

abbrev pub generalised_kernel : {p : ℕ} → List (Vector p) → List (Vector p) → Vector p → Type 0
generalised_kernel a rows v = (n : ℕ) × InKernel n a rows v

abbrev pub eventual_image : {p : ℕ} → List (Vector p) → List (Vector p) → Vector p → Type 0
eventual_image a rows v = (n : ℕ) → InImage n a rows v

pub record IsImageBasis {p : ℕ} (n : ℕ) (a rows basis : List (Vector p)) : Type 0 where
  pub independent : Independent basis
  pub all : (v : Vector p) → InImage n a rows v → InSpan basis v
  pub only : (v : Vector p) → InSpan basis v → InImage n a rows v

pub record IsFittingPair {p : ℕ} (a rows k i : List (Vector p)) : Type 0 where
  pub kernel_all : (v : Vector p) → generalised_kernel a rows v → InSpan k v
  pub kernel_only : (v : Vector p) → InSpan k v → generalised_kernel a rows v
  pub image_all : (v : Vector p) → eventual_image a rows v → InSpan i v
  pub image_only : (v : Vector p) → InSpan i v → eventual_image a rows v
