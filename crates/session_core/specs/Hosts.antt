-- What the host of one thread keeps.
--   HostState   its ground (a level and a characteristic), the number of its sessions, the history of accepted splits, and the pairs
--               (n, symbol) of the columns that it has computed
--   EntersLine g s n line v old reply new next
--               the reply is that to a command line, number n of session s, at version v, after the history `old`; the history after it is
--               `new`, and `next` is its version
use Rattle.std.specs.Prelude.{ℕ, ◌≤◌, List, length}
use Rattle.quotient_coords.specs.Quotient.{Ground}
use Rattle.op_polynomials.specs.declared.entry.SplitEntry.{SplitEntry}
use Rattle.split_state.specs.Decomposition.{Decomposition}
use Rattle.split_state.specs.Versions.{IsVersion}
use Rattle.script_text.specs.Numbered.{NumberedLine}
use Rattle.reply_text.specs.declared.limits.TheConstants.{MAX_VERSIONS}
use Rattle.reply_text.specs.declared.reply.Reply.{Reply}
use Rattle.session_core.specs.SoloRuns.{Answers}

pub record HostState : Type 0 where
  pub ground : Ground
  pub sessions : ℕ
  pub history : List SplitEntry
  pub pairs : List (ℕ × ℕ)

pub record EntersLine (g : Ground) (session number : ℕ) (line : NumberedLine) (v : ℕ) (old : List SplitEntry) (reply : Reply)
    (new : List SplitEntry) (next : Decomposition) : Type 0 where
  pub answers : Answers g session old (number, line) (record { number = number; version = v; reply = reply }) new
  pub version : IsVersion g new next
  pub few : length new ≤ MAX_VERSIONS
