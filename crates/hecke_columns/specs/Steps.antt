-- Walks along the chains of Merel's matrices (Merel, Universal Fourier expansions of modular forms, 1994), as lists of steps.
--   identity                   the identity matrix
--   after m s                  the matrix after m by the step s: that which begins a chain, or m times [[q, 1], [-1, 0]]
--   last_of m ss               the matrix after all steps, from m on
--   matrices_of ss             the matrix after each step, from the identity on
--   IsTurnWithin s             a step by q has q at most MAX_DET
--   AreSteps n ss              they walk once through each matrix of Merel's set of determinant n
--   IsActing N s               a step's matrix acts on the symbols of level N: it is small and its determinant is coprime to N
--   image_after N k hit s      the number of symbol k times the matrix after the step s, where hit is that before the step
--   AddsSteps n m old new      new is old and the steps along the chain of determinant n that begins with m
use Rattle.std.specs.Prelude.{◌≡◌, ◌<◌, ◌≤◌, ℕ, ◌++◌, pos, All, List, [], ◌∷◌}
use Rattle.std.specs.List.Sorted.{IsPermutation}
use Rattle.p1_normal.specs.declared.matrix.Matrix.{Matrix}
use Rattle.p1_normal.specs.declared.matrix.TheConstants.{MAX_DET}
use Rattle.p1_normal.specs.Actions.{IsInvertible, IsSmall, image_number, matrix, product}
use Rattle.heilbronn_chains.specs.Chains.{IsChain, member}
use Rattle.heilbronn_chains.specs.Turns.{turn}
use Rattle.heilbronn_sets.specs.Merel.{merel_matrices}
use Rattle.hecke_columns.specs.declared.steps.Step.{Step}
use Rattle.hecke_columns.specs.declared.steps.Step.TheVariants as steps

abbrev pub identity : Matrix
identity = matrix (pos 1) (pos 0) (pos 0) (pos 1)

abbrev pub after : Matrix → Step → Matrix
after m (steps.Begin k) = k
after m (steps.Turn q) = product m (turn (pos q))

abbrev pub last_of : Matrix → List Step → Matrix
last_of m [] = m
last_of m (s ∷ ss) = last_of (after m s) ss

abbrev pub matrices_from : Matrix → List Step → List Matrix
matrices_from m [] = []
matrices_from m (s ∷ ss) = after m s ∷ matrices_from (after m s) ss

abbrev pub matrices_of : List Step → List Matrix
matrices_of ss = matrices_from identity ss

abbrev pub IsTurnWithin : Step → Type 0
IsTurnWithin (steps.Begin k) = Unit
IsTurnWithin (steps.Turn q) = q ≤ MAX_DET

pub record AreSteps (n : ℕ) (ss : List Step) : Type 0 where
  pub some : 0 < n
  pub limit : n ≤ MAX_DET
  pub turns : All IsTurnWithin ss
  pub matrices : IsPermutation (matrices_of ss) (merel_matrices n)

pub record ActsAt (N : ℕ) (m : Matrix) : Type 0 where
  pub invertible : IsInvertible N m
  pub small : IsSmall m

abbrev pub IsActing : ℕ → Step → Type 0
IsActing N (steps.Begin k) = ActsAt N k
IsActing N (steps.Turn q) = q ≤ MAX_DET

abbrev pub image_after : ℕ → ℕ → ℕ → Step → ℕ
image_after N k hit (steps.Begin m) = image_number N k m
image_after N k hit (steps.Turn q) = image_number N hit (turn (pos q))

pub record AddsSteps (n : ℕ) (m : Matrix) (old new : List Step) : Type 0 where
  pub chain : List Matrix
  pub is : IsChain n chain
  pub first : member chain 0 ≡ m
  pub matrices : matrices_of new ≡ matrices_of old ++ chain
  pub turns : All IsTurnWithin old → All IsTurnWithin new
