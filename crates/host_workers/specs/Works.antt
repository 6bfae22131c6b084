-- The works of the sessions of a script, as they begin and as they end.
--   session_of work               the number of its session, from 1
--   IsAt script boards work lines board
--                                 the command lines of a work, which are those of the session of its number, and its boards, which are those at
--                                 its place
--   MayWork script boards work    the work may begin: its passes are of its boards, which were opened for its space, have one number and the
--                                 turn of neither, and have seen nothing; there is room for its replies, and none is there
--   HasWorked script boards old new
--                                 the work was done: the passes go on and have no turn, and its replies are those of the lists that its own
--                                 passes have seen
--   HasRoom lines work            a work of the first boards with no reply, and room for one to each of these lines
--   IsDone g session work         the work was done of a session, which is told by its number and its lines, at the ground g
--   IsSharedRun script run        the replies of a run are those of the works of all sessions over its closed lists, in which each entry and each
--                                 event names a session
use Rattle.std.specs.Prelude.{◌≡◌, ℕ, ◌+◌, ◌≤◌, List, [], length, Some, false, slice_get, vec_capacity}
use Rattle.std.specs.List.{AllZip, enumerate_from}
use Rattle.turn_board.specs.Passes.{Continues, IsOf, view}
use Rattle.quotient_coords.specs.Quotient.{Ground}
use Rattle.op_polynomials.specs.declared.entry.SplitEntry.{SplitEntry}
use Rattle.script_text.specs.declared.limits.TheConstants.{MAX_COMMANDS}
use Rattle.script_text.specs.Numbered.{NumberedLine}
use Rattle.script_text.specs.Valid.{ScriptText}
use Rattle.column_flight.specs.declared.event.FlightEvent.{FlightEvent}
use Rattle.column_flight.specs.Flights.{maker_of}
use Rattle.column_flight.specs.Shared.{board_of as flights_board, setting_of as flights_setting}
use Rattle.split_versions.specs.Shared.{board_of as versions_board, setting_of as versions_setting}
use Rattle.host_workers.specs.declared.work.SpaceBoards.{SpaceBoards}
use Rattle.host_workers.specs.declared.work.SessionWork.{SessionWork}
use Rattle.host_workers.specs.declared.work.SharedRun.{SharedRun}
use Rattle.session_core.specs.Transcripts.{script_ground}
use Rattle.host_workers.specs.Workers.{AnswersSession, FliesSession, IsWork}

abbrev pub session_of : SessionWork → ℕ
session_of work = (view work.splits).number + 1

pub record IsAt (script : ScriptText) (boards : List SpaceBoards) (work : SessionWork) (lines : List NumberedLine) (board : SpaceBoards) : Type 0 where
  pub session : slice_get script.sessions (view work.columns).number ≡ Some lines
  pub place : slice_get boards work.place ≡ Some board

pub record MayWork (script : ScriptText) (boards : List SpaceBoards) (work : SessionWork) : Type 0 where
  pub lines : List NumberedLine
  pub board : SpaceBoards
  pub at : IsAt script boards work lines board
  pub columns : IsOf (flights_board board.flights) work.columns
  pub splits : IsOf (versions_board board.versions) work.splits
  pub flights : board.space ≡ flights_setting board.flights
  pub versions : board.space ≡ versions_setting board.versions
  pub number : (view work.columns).number ≡ (view work.splits).number
  pub new_columns : (view work.columns).seen ≡ []
  pub new_splits : (view work.splits).seen ≡ []
  pub idle_columns : (view work.columns).has_turn ≡ false
  pub idle_splits : (view work.splits).has_turn ≡ false
  pub few : length lines ≤ MAX_COMMANDS
  pub none : work.replies.items ≡ []
  pub room : length lines ≤ vec_capacity work.replies

pub record HasWorked (script : ScriptText) (boards : List SpaceBoards) (old new : SessionWork) : Type 0 where
  pub lines : List NumberedLine
  pub board : SpaceBoards
  pub at : IsAt script boards old lines board
  pub place : new.place ≡ old.place
  pub columns : Continues old.columns new.columns
  pub splits : Continues old.splits new.splits
  pub columns_idle : (view new.columns).has_turn ≡ false
  pub splits_idle : (view new.splits).has_turn ≡ false
  pub answers : AnswersSession board.space (session_of old) lines new.replies.items (view new.splits).seen
  pub flies : FliesSession board.space (session_of old) lines new.replies.items (view new.columns).seen

pub record HasRoom (lines : List NumberedLine) (work : SessionWork) : Type 0 where
  pub place : work.place ≡ 0
  pub none : work.replies.items ≡ []
  pub room : length lines ≤ vec_capacity work.replies

pub record IsDone (g : Ground) (session : ℕ × List NumberedLine) (work : SessionWork) : Type 0 where
  pub column_number : (view work.columns).number + 1 ≡ session.0
  pub split_number : (view work.splits).number + 1 ≡ session.0
  pub answers : AnswersSession g session.0 session.1 work.replies.items (view work.splits).seen
  pub flies : FliesSession g session.0 session.1 work.replies.items (view work.columns).seen

pub record IsSharedRun (script : ScriptText) (run : SharedRun) : Type 0 where
  pub works : AllZip (λ (work : ℕ × List NumberedLine) told. IsWork (script_ground script) work.0 work.1 told run.versions.entries run.flights.events)
      (enumerate_from 1 script.sessions) run.replies
  pub entry_makers : (w : ℕ) (e : SplitEntry) → slice_get run.versions.entries w ≡ Some e → (1 ≤ e.session) × (e.session ≤ length script.sessions)
  pub event_makers : (k : ℕ) (e : FlightEvent) → slice_get run.flights.events k ≡ Some e → (1 ≤ maker_of e) × (maker_of e ≤ length script.sessions)
