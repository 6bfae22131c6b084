-- Ways to make the columns of a Hecke operator of one determinant n at one level N.
--   walk_number w       the n of the way w
--   IsWalk N w          the way w serves at level N: its set is Merel's set of n, or n is 1 to MAX_DET, or its table of turns is of level N
use Rattle.std.specs.Prelude.{◌≡◌, ◌<◌, ◌≤◌, ℕ}
use Rattle.p1_normal.specs.declared.matrix.TheConstants.{MAX_DET}
use Rattle.heilbronn_sets.specs.Merel.{merel_matrices}
use Rattle.hecke_columns.specs.declared.ways.Walk.{Walk}
use Rattle.hecke_columns.specs.declared.ways.Walk.TheVariants as ways

abbrev pub walk_number : Walk → ℕ
walk_number (ways.Set set) = set.now.det
walk_number (ways.Chains n) = n
walk_number (ways.Turns turns steps) = steps.now

abbrev pub IsWalk : ℕ → Walk → Type 0
IsWalk N (ways.Set set) = set.now.list ≡ merel_matrices set.now.det
IsWalk N (ways.Chains n) = (0 < n) × (n ≤ MAX_DET)
IsWalk N (ways.Turns turns steps) = turns.now.level ≡ N
