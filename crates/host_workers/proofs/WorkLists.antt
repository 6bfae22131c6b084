-- The works of sessions, in the order of the sessions.
use Rattle.std.proofs.Common.{zero, suc, ◌≡◌, ℕ, ◌+◌, ◌≤◌, List, [], ◌∷◌, Some, length, map, sym, ◌∙◌, ap, subst}
use Rattle.std.specs.Prelude.{All, false, slice_get}
use Rattle.std.specs.List.{AllByRecursion, AllZip, enumerate_from, range_with_len}
use Rattle.std.specs.declared.cmp.PartialEq.{Ghosts as Equality}
use Rattle.std.proofs.lemmas.List.Elements.{All-from_recursion, recursion_from_All}
use Rattle.std.proofs.lemmas.Option.{get_or_from_slice_get, slice_get_within}
use mathlib.Core.List.{IsPrefix}
use Rattle.turn_board.specs.declared.kept.Kept.{Ghosts}
use Rattle.turn_board.specs.declared.board.Board.{Board}
use Rattle.turn_board.specs.declared.pass.Pass.{Pass}
use Rattle.turn_board.specs.Passes.{Continues, IsAccounted, IsIdle, IsNew, view}
use Rattle.quotient_coords.specs.Quotient.{Ground}
use Rattle.op_polynomials.specs.declared.entry.SplitEntry.{SplitEntry}
use Rattle.script_text.specs.declared.limits.TheConstants.{MAX_COMMANDS}
use Rattle.script_text.specs.Numbered.{NumberedLine}
use Rattle.script_text.specs.Valid.{ScriptText}
use Rattle.column_flight.specs.declared.event.FlightEvent.{FlightEvent}
use Rattle.column_flight.specs.Flights.{FlightHistory}
use Rattle.column_flight.specs.Shared.{board_of as flights_board, setting_of as flights_setting}
use Rattle.split_versions.specs.Histories.{VersionHistory}
use Rattle.split_versions.specs.Shared.{board_of as versions_board, setting_of as versions_setting}
use Rattle.host_workers.specs.declared.work.SpaceBoards.{SpaceBoards}
use Rattle.host_workers.specs.declared.work.SessionWork.{SessionWork}
use Rattle.host_workers.specs.Workers.{AnswersSession, FliesSession, IsWork}
use Rattle.host_workers.specs.Works.{HasRoom, HasWorked, IsDone, MayWork, session_of}
use Rattle.host_workers.proofs.PassLists.{idle_on, new_idle, owned}
use Rattle.host_workers.proofs.Tails.{IsTail, tail_head, tail_next, tail_whole}

-- the passes of works that were done are idle
pub idle_after : {S E : Type 0} {g : Ghosts S E} {q : Equality E} (board : Board S E) (f : SessionWork → Pass S E g q)
    (script : ScriptText) (boards : List SpaceBoards)
    → ((old new : SessionWork) → HasWorked script boards old new → Continues (f old) (f new) × ((view (f new)).has_turn ≡ false))
    → (numbers : List ℕ) (old new : List SessionWork) → AllZip (IsNew board) numbers (map f old) → AllZip (HasWorked script boards) old new
    → AllZip (IsIdle board) numbers (map f new)
idle_after board f script boards on [] [] [] h w = tt
idle_after board f script boards on (k ∷ numbers) (x ∷ old) (y ∷ new) h w =
    let step = on x y w.0 in
    (idle_on board k (f x) (f y) (new_idle board k (f x) h.0) step.0 step.1, idle_after board f script boards on numbers old new h.1 w.1)
idle_after board f script boards on [] [] (y ∷ new) h w = absurd w
idle_after board f script boards on [] (x ∷ old) new h w = absurd h
idle_after board f script boards on (k ∷ numbers) [] new h w = absurd h
idle_after board f script boards on (k ∷ numbers) (x ∷ old) [] h w = absurd w

-- new works may begin
may_work_from : (script : ScriptText) (board : SpaceBoards) → board.space ≡ flights_setting board.flights → board.space ≡ versions_setting board.versions
    → (a : ℕ) (sessions : List (List NumberedLine)) (works : List SessionWork) → IsTail a sessions script.sessions
    → AllByRecursion (λ lines. length lines ≤ MAX_COMMANDS) sessions → AllZip HasRoom sessions works
    → AllZip (IsNew (flights_board board.flights)) (range_with_len a (length sessions)) (map (λ (w : SessionWork). w.columns) works)
    → AllZip (IsNew (versions_board board.versions)) (range_with_len a (length sessions)) (map (λ (w : SessionWork). w.splits) works)
    → AllByRecursion (MayWork script (board ∷ [])) works
may_work_from script board fs vs a [] [] tail few room columns splits = tt
may_work_from script board fs vs a [] (w ∷ works) tail few room columns splits = absurd room
may_work_from script board fs vs a (lines ∷ sessions) [] tail few room columns splits = absurd room
may_work_from script board fs vs a (lines ∷ sessions) (w ∷ works) tail few room columns splits =
    let number : (view w.columns).number ≡ a = ap (λ v. v.number) columns.0.fresh in
    let split_number : (view w.splits).number ≡ a = ap (λ v. v.number) splits.0.fresh in (
      record {
        lines = lines;
        board = board;
        at = record {
          session = ap (λ n. slice_get script.sessions n) number ∙ tail_head a lines sessions script.sessions tail;
          place = ap (λ n. slice_get (board ∷ []) n) room.0.place;
        };
        columns = columns.0.of;
        splits = splits.0.of;
        flights = fs;
        versions = vs;
        number = number ∙ sym split_number;
        new_columns = ap (λ v. v.seen) columns.0.fresh;
        new_splits = ap (λ v. v.seen) splits.0.fresh;
        idle_columns = ap (λ v. v.has_turn) columns.0.fresh;
        idle_splits = ap (λ v. v.has_turn) splits.0.fresh;
        few = few.0;
        none = room.0.none;
        room = room.0.room;
      },
      may_work_from script board fs vs (a + 1) sessions works (tail_next a lines sessions script.sessions tail) few.1 room.1 columns.1 splits.1,
    )

pub may_work : (script : ScriptText) (board : SpaceBoards) → board.space ≡ flights_setting board.flights → board.space ≡ versions_setting board.versions
    → (works : List SessionWork) → All (λ lines. length lines ≤ MAX_COMMANDS) script.sessions → AllZip HasRoom script.sessions works
    → AllZip (IsNew (flights_board board.flights)) (range_with_len 0 (length script.sessions)) (map (λ (w : SessionWork). w.columns) works)
    → AllZip (IsNew (versions_board board.versions)) (range_with_len 0 (length script.sessions)) (map (λ (w : SessionWork). w.splits) works)
    → All (MayWork script (board ∷ [])) works
may_work script board fs vs works few room columns splits =
    All-from_recursion (MayWork script (board ∷ [])) works (may_work_from script board fs vs 0 script.sessions works (tail_whole script.sessions)
    (recursion_from_All (λ lines. length lines ≤ MAX_COMMANDS) script.sessions few) room columns splits)

done_from : (script : ScriptText) (board : SpaceBoards) (a : ℕ) (sessions : List (List NumberedLine)) (old new : List SessionWork)
    → IsTail a sessions script.sessions → AllZip HasRoom sessions old
    → AllZip (IsNew (flights_board board.flights)) (range_with_len a (length sessions)) (map (λ (w : SessionWork). w.columns) old)
    → AllZip (IsNew (versions_board board.versions)) (range_with_len a (length sessions)) (map (λ (w : SessionWork). w.splits) old)
    → AllZip (HasWorked script (board ∷ [])) old new
    → AllZip (IsDone board.space) (enumerate_from (a + 1) sessions) new
done_from script board a [] [] [] tail room columns splits worked = tt
done_from script board a [] [] (y ∷ new) tail room columns splits worked = absurd worked
done_from script board a [] (x ∷ old) new tail room columns splits worked = absurd room
done_from script board a (lines ∷ sessions) [] new tail room columns splits worked = absurd room
done_from script board a (lines ∷ sessions) (x ∷ old) [] tail room columns splits worked = absurd worked
done_from script board a (lines ∷ sessions) (x ∷ old) (y ∷ new) tail room columns splits worked =
    let w = worked.0 in
    let number : (view x.columns).number ≡ a = ap (λ v. v.number) columns.0.fresh in
    let split_number : (view x.splits).number ≡ a = ap (λ v. v.number) splits.0.fresh in
    let told : Some w.lines ≡ Some lines = sym w.at.session ∙ ap (λ n. slice_get script.sessions n) number
    ∙ tail_head a lines sessions script.sessions tail in
    let same_lines : w.lines ≡ lines = cc in
    let placed : Some w.board ≡ Some board = sym w.at.place ∙ ap (λ n. slice_get (board ∷ []) n) room.0.place in
    let same_board : w.board ≡ board = cc in
    let same_space : w.board.space ≡ board.space = ap (λ (b : SpaceBoards). b.space) same_board in
    let session : session_of x ≡ a + 1 = ap (λ n. n + 1) split_number in (
      record {
        column_number = ap (λ n. n + 1) (w.columns.number ∙ number);
        split_number = ap (λ n. n + 1) (w.splits.number ∙ split_number);
        answers = subst (λ (g : Ground). AnswersSession g (a + 1) lines y.replies.items (view y.splits).seen) same_space
            (subst (λ n. AnswersSession w.board.space n lines y.replies.items (view y.splits).seen) session
            (subst (λ ls. AnswersSession w.board.space (session_of x) ls y.replies.items (view y.splits).seen) same_lines w.answers));
        flies = subst (λ (g : Ground). FliesSession g (a + 1) lines y.replies.items (view y.columns).seen) same_space
            (subst (λ n. FliesSession w.board.space n lines y.replies.items (view y.columns).seen) session
            (subst (λ ls. FliesSession w.board.space (session_of x) ls y.replies.items (view y.columns).seen) same_lines w.flies));
      },
      done_from script board (a + 1) sessions old new (tail_next a lines sessions script.sessions tail) room.1 columns.1 splits.1 worked.1,
    )

-- each work that was done is that of its session
pub all_done : (script : ScriptText) (board : SpaceBoards) (old new : List SessionWork) → AllZip HasRoom script.sessions old
    → AllZip (IsNew (flights_board board.flights)) (range_with_len 0 (length script.sessions)) (map (λ (w : SessionWork). w.columns) old)
    → AllZip (IsNew (versions_board board.versions)) (range_with_len 0 (length script.sessions)) (map (λ (w : SessionWork). w.splits) old)
    → AllZip (HasWorked script (board ∷ [])) old new
    → AllZip (IsDone board.space) (enumerate_from 1 script.sessions) new
all_done script board old new room columns splits worked =
    done_from script board 0 script.sessions old new (tail_whole script.sessions) room columns splits worked

get_map : {A B : Type 0} (f : A → B) (xs : List A) (j : ℕ) (x : A) → slice_get xs j ≡ Some x → slice_get (map f xs) j ≡ Some (f x)
get_map f [] j x at = absurd cc
get_map f (y ∷ xs) zero x at = let same : y ≡ x = cc in ap (λ z. Some (f z)) same
get_map f (y ∷ xs) (suc j) x at = get_map f xs j x at

all_at : {A : Type 0} (P : A → Type 0) (xs : List A) (j : ℕ) (x : A) → All P xs → slice_get xs j ≡ Some x → P x
all_at P xs j x all at = subst P (get_or_from_slice_get xs j x x at) (all j x (slice_get_within xs j x at))

-- what the closed lists are for works that were done: the seen lists begin them, and each of their items is accounted for
pub record AreClosed (flights_list : Board FlightHistory FlightEvent) (versions_list : Board VersionHistory SplitEntry) (n : ℕ)
    (works : List SessionWork) (flights : FlightHistory) (versions : VersionHistory) : Type 0 where
  pub columns : AllZip (IsIdle flights_list) (range_with_len 0 n) (map (λ (w : SessionWork). w.columns) works)
  pub splits : AllZip (IsIdle versions_list) (range_with_len 0 n) (map (λ (w : SessionWork). w.splits) works)
  pub events : All (λ pass. IsPrefix (view pass).seen flights.events) (map (λ (w : SessionWork). w.columns) works)
  pub fliers : IsAccounted (map (λ (w : SessionWork). w.columns) works) flights
  pub entries : All (λ pass. IsPrefix (view pass).seen versions.entries) (map (λ (w : SessionWork). w.splits) works)
  pub makers : IsAccounted (map (λ (w : SessionWork). w.splits) works) versions

is_work : (g : Ground) (fb : Board FlightHistory FlightEvent) (vb : Board VersionHistory SplitEntry) (n : ℕ) (works : List SessionWork)
    (flights : FlightHistory) (versions : VersionHistory) → AreClosed fb vb n works flights versions → (j : ℕ) (w : SessionWork)
    → slice_get works j ≡ Some w → (p : ℕ × List NumberedLine) → IsDone g p w
    → IsWork g p.0 p.1 w.replies.items versions.entries flights.events
is_work g fb vb n works flights versions closed j w at p done =
    let column_at = get_map (λ (w : SessionWork). w.columns) works j w at in
    let split_at = get_map (λ (w : SessionWork). w.splits) works j w at in
    record {
      seen_entries = (view w.splits).seen;
      seen_events = (view w.columns).seen;
      entries_begin = all_at (λ pass. IsPrefix (view pass).seen versions.entries) (map (λ (w : SessionWork). w.splits) works) j w.splits closed.entries
          split_at;
      events_begin = all_at (λ pass. IsPrefix (view pass).seen flights.events) (map (λ (w : SessionWork). w.columns) works) j w.columns closed.events
          column_at;
      answers = done.answers;
      flies = done.flies;
      own_entries = λ k e stands maker. owned vb n (map (λ (w : SessionWork). w.splits) works) versions closed.splits closed.makers j w.splits
          split_at k e stands (maker ∙ sym done.split_number);
      own_events = λ k e stands maker. owned fb n (map (λ (w : SessionWork). w.columns) works) flights closed.columns closed.fliers j w.columns
          column_at k e stands (maker ∙ sym done.column_number);
    }

works_from : (g : Ground) (fb : Board FlightHistory FlightEvent) (vb : Board VersionHistory SplitEntry) (n : ℕ) (all : List SessionWork)
    (flights : FlightHistory) (versions : VersionHistory) → AreClosed fb vb n all flights versions → (a : ℕ)
    (numbered : List (ℕ × List NumberedLine)) (works : List SessionWork) → IsTail a works all
    → AllZip (IsDone g) numbered works
    → AllZip (λ (p : ℕ × List NumberedLine) told. IsWork g p.0 p.1 told versions.entries flights.events) numbered
    (map (λ (w : SessionWork). w.replies.items) works)
works_from g fb vb n all flights versions closed a [] [] tail done = tt
works_from g fb vb n all flights versions closed a [] (w ∷ works) tail done = absurd done
works_from g fb vb n all flights versions closed a (p ∷ numbered) [] tail done = absurd done
works_from g fb vb n all flights versions closed a (p ∷ numbered) (w ∷ works) tail done = (
  is_work g fb vb n all flights versions closed a w (tail_head a w works all tail) p done.0,
  works_from g fb vb n all flights versions closed (a + 1) numbered works (tail_next a w works all tail) done.1,
)

-- the replies of works that were done are those of works over the closed lists
pub all_works : (g : Ground) (fb : Board FlightHistory FlightEvent) (vb : Board VersionHistory SplitEntry) (n : ℕ) (works : List SessionWork)
    (flights : FlightHistory) (versions : VersionHistory) → AreClosed fb vb n works flights versions → (numbered : List (ℕ × List NumberedLine))
    → AllZip (IsDone g) numbered works
    → AllZip (λ (p : ℕ × List NumberedLine) told. IsWork g p.0 p.1 told versions.entries flights.events) numbered
    (map (λ (w : SessionWork). w.replies.items) works)
all_works g fb vb n works flights versions closed numbered done =
    works_from g fb vb n works flights versions closed 0 numbered works (tail_whole works) done
