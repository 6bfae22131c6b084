-- A shared run, from what its works leave and from the closing of its boards.
use Rattle.std.proofs.Common.{◌≡◌, ℕ, ◌≤◌, List, [], ◌∷◌, Some, length, get_or, map, refl, sym, ◌∙◌, subst, arith}
use Rattle.std.specs.Prelude.{◌==◌, All, slice_get, true}
use Rattle.std.specs.List.{AllZip, enumerate_from, range_with_len}
use mathlib.Core.List.{IsPrefix}
use Rattle.std.specs.declared.cmp.PartialEq.{Ghosts as Equality}
use Rattle.std.proofs.lemmas.Bool.{eqb-true}
use Rattle.std.proofs.lemmas.List.FromFn.{length-range_with_len}
use Rattle.std.proofs.lemmas.List.Sums.{get_or-le-sum_by}
use Rattle.std.proofs.lemmas.Slice.Zip.{AllZip-long}
use Rattle.turn_board.specs.declared.kept.Kept.{Ghosts}
use Rattle.turn_board.specs.declared.board.Board.{Board}
use Rattle.turn_board.specs.declared.pass.Pass.{Pass}
use Rattle.turn_board.specs.Passes.{IsAccounted, IsIdle, IsNew, view}
use Rattle.quotient_coords.specs.Quotient.{Ground}
use Rattle.op_polynomials.specs.declared.entry.SplitEntry.{SplitEntry}
use Rattle.script_text.specs.Numbered.{NumberedLine}
use Rattle.script_text.specs.declared.limits.TheConstants.{MAX_COMMANDS}
use Rattle.script_text.specs.Valid.{ScriptText, command_count}
use Rattle.reply_text.specs.declared.transcript.ReplyLine.{ReplyLine}
use Rattle.column_flight.specs.declared.event.FlightEvent.{FlightEvent}
use Rattle.column_flight.specs.Shared.{board_of as flights_board, setting_of as flights_setting}
use Rattle.split_versions.specs.Shared.{board_of as versions_board, setting_of as versions_setting}
use Rattle.session_core.specs.Transcripts.{script_ground}
use Rattle.host_workers.specs.declared.work.SpaceBoards.{SpaceBoards}
use Rattle.host_workers.specs.declared.work.SessionWork.{SessionWork}
use Rattle.host_workers.specs.declared.work.SharedRun.{SharedRun}
use Rattle.host_workers.specs.Workers.{IsWork}
use Rattle.host_workers.specs.Works.{HasRoom, HasWorked, IsDone, IsSharedRun, MayWork}
use Rattle.host_workers.proofs.PassLists.{maker_within}
use Rattle.host_workers.proofs.WorkLists.{AreClosed, all_works, idle_after, may_work}

-- the passes of works that were done, in order
pub columns_idle : (script : ScriptText) (board : SpaceBoards) (numbers : List ℕ) (old new : List SessionWork)
    → AllZip (IsNew (flights_board board.flights)) numbers (map (λ (w : SessionWork). w.columns) old)
    → AllZip (HasWorked script (board ∷ [])) old new
    → AllZip (IsIdle (flights_board board.flights)) numbers (map (λ (w : SessionWork). w.columns) new)
columns_idle script board numbers old new news worked =
    idle_after (flights_board board.flights) (λ (w : SessionWork). w.columns) script (board ∷ []) (λ x y w. (w.columns, w.columns_idle)) numbers old new
    news worked

pub splits_idle : (script : ScriptText) (board : SpaceBoards) (numbers : List ℕ) (old new : List SessionWork)
    → AllZip (IsNew (versions_board board.versions)) numbers (map (λ (w : SessionWork). w.splits) old)
    → AllZip (HasWorked script (board ∷ [])) old new
    → AllZip (IsIdle (versions_board board.versions)) numbers (map (λ (w : SessionWork). w.splits) new)
splits_idle script board numbers old new news worked =
    idle_after (versions_board board.versions) (λ (w : SessionWork). w.splits) script (board ∷ []) (λ x y w. (w.splits, w.splits_idle)) numbers old new
    news worked

-- new passes are as many as their numbers
pub news_count : {S E : Type 0} {g : Ghosts S E} {q : Equality E} (board : Board S E) (n : ℕ) (passes : List (Pass S E g q))
    → AllZip (IsNew board) (range_with_len 0 n) passes → length passes ≡ n
news_count board n passes h = AllZip-long (IsNew board) (range_with_len 0 n) passes h ∙ length-range_with_len 0 n

-- no session has more lines than all
few_each : (sessions : List (List NumberedLine)) → command_count sessions ≤ MAX_COMMANDS → All (λ lines. length lines ≤ MAX_COMMANDS) sessions
few_each sessions few k d within =
    let part : length (get_or sessions k d) ≤ command_count sessions = get_or-le-sum_by (λ (lines : List NumberedLine). length lines) sessions k d within in
    omega arith

-- the works that were opened over the boards
pub record HasOpened (script : ScriptText) (board : SpaceBoards) (works : List SessionWork) : Type 0 where
  pub flights : board.space ≡ flights_setting board.flights
  pub versions : board.space ≡ versions_setting board.versions
  pub few : command_count script.sessions ≤ MAX_COMMANDS
  pub room : AllZip HasRoom script.sessions works
  pub new_columns : AllZip (IsNew (flights_board board.flights)) (range_with_len 0 (length script.sessions)) (map (λ (w : SessionWork). w.columns) works)
  pub new_splits : AllZip (IsNew (versions_board board.versions)) (range_with_len 0 (length script.sessions)) (map (λ (w : SessionWork). w.splits) works)

pub opened_may_work : (script : ScriptText) (board : SpaceBoards) (works : List SessionWork) → HasOpened script board works
    → All (MayWork script (board ∷ [])) works
opened_may_work script board works h =
    may_work script board h.flights h.versions works (few_each script.sessions h.few) h.room h.new_columns h.new_splits

-- what the works were that were done, and what they left
pub record HasRun (script : ScriptText) (board : SpaceBoards) (works : List SessionWork) (run : SharedRun) : Type 0 where
  pub ground : board.space ≡ script_ground script
  pub done : AllZip (IsDone board.space) (enumerate_from 1 script.sessions) works
  pub columns : AllZip (IsIdle (flights_board board.flights)) (range_with_len 0 (length script.sessions)) (map (λ (w : SessionWork). w.columns) works)
  pub splits : AllZip (IsIdle (versions_board board.versions)) (range_with_len 0 (length script.sessions)) (map (λ (w : SessionWork). w.splits) works)
  pub events : All (λ pass. IsPrefix (view pass).seen run.flights.events) (map (λ (w : SessionWork). w.columns) works)
  pub fliers : IsAccounted (map (λ (w : SessionWork). w.columns) works) run.flights
  pub entries : All (λ pass. IsPrefix (view pass).seen run.versions.entries) (map (λ (w : SessionWork). w.splits) works)
  pub makers : IsAccounted (map (λ (w : SessionWork). w.splits) works) run.versions
  pub replies : run.replies ≡ map (λ (w : SessionWork). w.replies.items) works

pub run_of_works : (script : ScriptText) (board : SpaceBoards) (works : List SessionWork) (run : SharedRun) → HasRun script board works run
    → IsSharedRun script run
run_of_works script board works run h =
    let closed : AreClosed (flights_board board.flights) (versions_board board.versions) (length script.sessions) works run.flights run.versions = record {
      columns = h.columns;
      splits = h.splits;
      events = h.events;
      fliers = h.fliers;
      entries = h.entries;
      makers = h.makers;
    } in
    record {
      works = subst (λ (told : List (List ReplyLine)). AllZip (λ (p : ℕ × List NumberedLine) told. IsWork (script_ground script) p.0 p.1 told
          run.versions.entries run.flights.events) (enumerate_from 1 script.sessions) told) (sym h.replies)
          (subst (λ (g : Ground). AllZip (λ (p : ℕ × List NumberedLine) told. IsWork g p.0 p.1 told run.versions.entries run.flights.events)
          (enumerate_from 1 script.sessions) (map (λ (w : SessionWork). w.replies.items) works)) h.ground
          (all_works board.space (flights_board board.flights) (versions_board board.versions) (length script.sessions) works run.flights run.versions
          closed (enumerate_from 1 script.sessions) h.done));
      entry_makers = maker_within (versions_board board.versions) (length script.sessions) (map (λ (w : SessionWork). w.splits) works) run.versions
          h.splits h.makers;
      event_makers = maker_within (flights_board board.flights) (length script.sessions) (map (λ (w : SessionWork). w.columns) works) run.flights
          h.columns h.fliers;
    }

-- a list is empty where its length is 0
pub none_from_empty : {A : Type 0} (xs : List A) → true ≡ (length xs == 0) → xs ≡ []
none_from_empty [] e = refl
none_from_empty (x ∷ xs) e = absurd (omega (arith, eqb-true (length (x ∷ xs)) 0 (sym e)))

-- a run of no session
pub run_of_none : (script : ScriptText) (run : SharedRun) → script.sessions ≡ [] → run.replies ≡ []
    → ((w : ℕ) (e : SplitEntry) → slice_get run.versions.entries w ≡ Some e → ⊥) → ((k : ℕ) (e : FlightEvent) → slice_get run.flights.events k ≡ Some e → ⊥)
    → IsSharedRun script run
run_of_none script run none replies no_entry no_event = record {
  works = subst (λ (ss : List (List NumberedLine)). AllZip (λ (p : ℕ × List NumberedLine) told. IsWork (script_ground script) p.0 p.1 told
      run.versions.entries run.flights.events) (enumerate_from 1 ss) run.replies) (sym none)
      (subst (λ (told : List (List ReplyLine)). AllZip (λ (p : ℕ × List NumberedLine) told. IsWork (script_ground script) p.0 p.1 told
      run.versions.entries run.flights.events) [] told) (sym replies) tt);
  entry_makers = λ w e stands. absurd (no_entry w e stands);
  event_makers = λ k e stands. absurd (no_event k e stands);
}
