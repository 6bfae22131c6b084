-- What the sessions have learnt of the history.
--   IsLearnt setting history l     no more than the length of the history, and the version of so many entries
--   AreLearnt setting history ls   each of them
--   counts ls                      their lengths
--   Commits setting history count entry o
--                                  a commit of the entry by a session that has learnt the length answers o
use Rattle.std.specs.Prelude.{◌≡◌, ℕ, ◌≤◌, List, length, map, take, slice_get, Some}
use Rattle.std.specs.Arc.{arc_value}
use Rattle.quotient_coords.specs.Quotient.{Ground}
use Rattle.op_polynomials.specs.declared.entry.SplitEntry.{SplitEntry}
use Rattle.split_state.specs.Decomposition.{Decomposition}
use Rattle.split_state.specs.Versions.{IsVersion}
use Rattle.shared_core.specs.declared.learnt.Learnt.{Learnt}
use Rattle.shared_core.specs.declared.step.Outcome.{Outcome}
use Rattle.shared_core.specs.Core.{commit_outcome}
use Rattle.shared_core.specs.Verdicts.{Verdict, IsVerdict}

pub record IsLearnt (setting : Ground) (history : List SplitEntry) (l : Learnt) : Type 0 where
  pub within : l.count ≤ length history
  pub version : IsVersion setting (take l.count history) (arc_value l.splitting)

unfoldable pub AreLearnt : Ground → List SplitEntry → List Learnt → Type 0
AreLearnt setting history ls = (k : ℕ) (l : Learnt) → slice_get ls k ≡ Some l → IsLearnt setting history l

abbrev pub counts : List Learnt → List ℕ
counts ls = map (λ l. l.count) ls

abbrev pub Commits : Ground → List SplitEntry → ℕ → SplitEntry → Outcome → Type 0
Commits setting history count entry o =
    (parts : Decomposition) × (verdict : Verdict) × IsVersion setting (take count history) parts × IsVerdict setting parts entry.op verdict
    × (o ≡ commit_outcome verdict count (length history))
