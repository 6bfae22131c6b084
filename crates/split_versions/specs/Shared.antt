-- The versions that threads share.
--   board_of versions         their board
--   setting_of versions       the level and the characteristic of their space
--   HasTurned old new         the pass has taken the turn in this call, and its last try got it
--   appended result log entry the list after a commit answered this
--   Commits old seen entry result new
--                             the pass has committed an entry at a turn of the call, or was refused there
--   freshness seen found      what a load of the count tells that found this word, after so many entries were seen
use Rattle.std.specs.Prelude.{false, ◌≡◌, ℕ, ◌<◌, nat_lt, if◌then◌else◌, List, [], ◌∷◌, ◌++◌, length, Result, Ok, Err}
use Rattle.quotient_coords.specs.Quotient.{Ground}
use Rattle.op_polynomials.specs.declared.entry.SplitEntry.{SplitEntry}
use Rattle.turn_board.specs.declared.board.Board.{Board}
use Rattle.turn_board.specs.declared.view.View.{View}
use Rattle.turn_board.specs.Passes.{opening_state}
use Rattle.turn_board.specs.Views.{HasSeen}
use Rattle.split_versions.specs.Histories.{VersionHistory, maker_of, commit_answer}
use Rattle.split_versions.specs.declared.fault.CommitFault.{CommitFault}
use Rattle.split_versions.specs.declared.fault.Freshness.{Freshness}
use Rattle.split_versions.specs.declared.fault.Freshness.TheVariants.{Newer, Same}
use Rattle.split_versions.specs.declared.versions.Versions.{Versions}

abbrev pub board_of : Versions → Board VersionHistory SplitEntry
board_of versions = versions.board

abbrev pub setting_of : Versions → Ground
setting_of versions = (opening_state versions.board).setting

-- what a call answers that took the turn: one try of it at least was made, and the last one got it
pub record HasTurned (old new : View SplitEntry) : Type 0 where
  pub tries : old.tries < new.tries
  pub found : new.found ≡ 0
  pub idle : new.has_turn ≡ false

abbrev pub appended : Result ℕ CommitFault → List SplitEntry → SplitEntry → List SplitEntry
appended (Ok count) log entry = log ++ entry ∷ []
appended (Err fault) log entry = log

-- the list of a turn of the call, which names the pass nowhere past what it had seen; an accepted entry is then its last
pub record Commits
    (old : View SplitEntry) (seen : ℕ) (entry : SplitEntry) (result : Result ℕ CommitFault) (new : View SplitEntry) : Type 0 where
  pub log : List SplitEntry
  pub begins : HasSeen maker_of old.number old.seen log
  pub answer : result ≡ commit_answer seen (length log)
  pub seen_is : new.seen ≡ appended result log entry

abbrev pub freshness : ℕ → ℕ → Freshness
freshness seen found = if nat_lt seen found then Newer found else Same
