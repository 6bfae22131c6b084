-- What one try of a command line leaves.
use Rattle.std.proofs.Common.{◌≡◌, ◌⊎◌, inl, inr, ℕ, ◌+◌, ◌<◌, ◌≤◌, ◌==◌, Bool, true, false, nat_lt, ltb-true, if◌then◌else◌, List, [], ◌∷◌, ◌++◌, length, length-append, take, Option, Some, None, Result, Ok, Err, refl, sym, ◌∙◌, ap, subst, arith}
use Rattle.std.specs.declared.cmp.PartialEq.{Ghosts as Equality}
use Rattle.std.proofs.lemmas.List.{length-take}
use Rattle.quotient_coords.specs.Quotient.{Ground}
use Rattle.op_polynomials.specs.declared.entry.SplitEntry.{SplitEntry}
use Rattle.op_polynomials.specs.declared.name.OpName.{OpName}
use Rattle.split_state.specs.Decomposition.{Decomposition}
use Rattle.split_state.specs.Versions.{IsVersion}
use Rattle.script_text.specs.Numbered.{NumberedLine}
use Rattle.script_text.specs.declared.command.Command.{Command}
use Rattle.turn_board.specs.declared.kept.Kept.{Ghosts}
use Rattle.turn_board.specs.declared.pass.Pass.{Pass}
use Rattle.turn_board.specs.declared.view.View.{View}
use Rattle.turn_board.specs.Passes.{Continues, view}
use Rattle.reply_text.specs.declared.limits.TheConstants.{MAX_VERSIONS}
use Rattle.reply_text.specs.declared.reply.Reply.{Reply}
use Rattle.reply_text.specs.declared.reply.Reply.TheVariants as replies
use Rattle.reply_text.specs.declared.transcript.ReplyLine.{ReplyLine}
use Rattle.column_flight.specs.declared.event.FlightEvent.{FlightEvent}
use Rattle.session_core.specs.declared.outcome.Finish.{Finish}
use Rattle.session_core.specs.declared.outcome.Finish.TheVariants as outcomes
use Rattle.session_core.specs.declared.demand.Demand.{Demand}
use Rattle.session_core.specs.Demands.{Adds, Has, HasAll, IsDemand, demand, demand_pairs, line_demand}
use Rattle.session_core.specs.Replies.{FinishesLine}
use Rattle.session_core.specs.SoloRuns.{Answers, unchanged}
use Rattle.session_core.proofs.HostLemmas.{IsAcceptedSplit, accepted_split, accepted_line, accepted_version, plain_line}
use Rattle.session_core.proofs.DemandLemmas.{Adds-demand, HasAll-demand}
use Rattle.session_core.proofs.PairLemmas.{Has-nil}
use Rattle.split_versions.specs.declared.fault.CommitFault.{CommitFault}
use Rattle.split_versions.specs.declared.fault.CommitFault.TheVariants.{Full, Stale}
use Rattle.split_versions.specs.declared.versions.Versions.{Versions}
use Rattle.split_versions.specs.Histories.{VersionHistory, maker_of}
use Rattle.split_versions.specs.Shared.{Commits, appended}
use Rattle.host_workers.specs.Workers.{published_pairs}
use Rattle.host_workers.specs.Sessions.{AnswersLine, FliesLine, FliesTry, Flies, GoesOn, HasFlown, IsStale, IsWanting, MayCommit, TriesLine}
use Rattle.host_workers.proofs.AnsweredLines.{answers_later, pushed_at}
use Rattle.host_workers.proofs.FlownLines.{Flies_at_first, Flies_refl, Flies_trans, Flies_weaken}
use Rattle.host_workers.proofs.GoingOn.{goes_on, goes_on_then, prefix_refl, prefix_trans, prefix-length, prefix_of_append, prefix_of_take}

-- the list after stale splits
pub record IsStaleAfter (n known : ℕ) (old log : List SplitEntry) (reached : ℕ) (new : List SplitEntry) : Type 0 where
  pub goes : GoesOn maker_of (n + 1) old new
  pub no_earlier : known ≤ reached
  pub within : reached ≤ length new
  pub longer : length log < length new
  pub room : length log < MAX_VERSIONS

-- want of memory, at the greatest version that the session knows
pub wanting_line : (g : Ground) (s number known : ℕ) (line : NumberedLine) (old new : List SplitEntry) → known ≤ length old → GoesOn maker_of s old new
    → AnswersLine g s (number, line) known old (record { number = number; version = known; reply = replies.Memory }) known new
wanting_line g s number known line old new within goes =
    let longer : length old ≤ length new = prefix-length old new goes.begins in
    let count : length (take known new) ≡ known = omega (arith, length-take known new) in
    record {
      before = take known new;
      after = take known new;
      answers = record {
        numbered = refl;
        version = sym count;
        reply = inr refl;
        after = unchanged (λ accepted. accepted);
      };
      begins = goes.begins;
      into = prefix_of_take known new;
      no_earlier = omega (arith, count);
      no_later = omega (arith, count);
      within = omega arith;
      own = λ w e at mine. inl (goes.own w e at mine);
    }

-- a reply that is no accepted split, at the version of the list
pub plain_try : (g : Ground) (s number known v : ℕ) (line : NumberedLine) (old new : List SplitEntry) (parts : Decomposition) (reply : Reply)
    → known ≤ length old → GoesOn maker_of s old new → v ≡ length new → IsVersion g new parts
    → FinishesLine g v parts line.text (outcomes.Reply reply)
    → AnswersLine g s (number, line) known old (record { number = number; version = v; reply = reply }) v new
plain_try g s number known v line old new parts reply within goes count version finished =
    let longer : length old ≤ length new = prefix-length old new goes.begins in
    let answers : Answers g s new (number, line) (record { number = number; version = v; reply = reply }) new =
    subst (λ n. Answers g s new (number, line) (record { number = number; version = n; reply = reply }) new) (sym count)
    (plain_line g s number new parts line reply version (subst (λ n. FinishesLine g n parts line.text (outcomes.Reply reply)) count finished)) in
    record {
      before = new;
      after = new;
      answers = answers;
      begins = goes.begins;
      into = prefix_refl new;
      no_earlier = omega arith;
      no_later = omega (arith, count);
      within = omega (arith, count);
      own = λ w e at mine. inl (goes.own w e at mine);
    }

-- what commits an accepted split
pub split_of : (g : Ground) (s number v : ℕ) (text : List ℕ) (entries : List SplitEntry) (parts next : Decomposition) (op : OpName) (poly : List ℕ)
    (sizes : List ℕ) → v ≡ length entries → IsVersion g entries parts → FinishesLine g v parts text (outcomes.Split op poly next sizes)
    → (v < MAX_VERSIONS) × IsVersion g (entries ++ record { session = s; command = number; op = op; poly = poly } ∷ []) next
split_of g s number v text entries parts next op poly sizes count version finished =
    let accepted : IsAcceptedSplit g (length entries) parts text op poly next sizes =
    accepted_split g (length entries) parts text op poly next sizes
    (subst (λ n. FinishesLine g n parts text (outcomes.Split op poly next sizes)) count finished) in (
      omega (arith, accepted.room, count),
      accepted_version g entries parts text (record { session = s; command = number; op = op; poly = poly }) next sizes version accepted,
    )

-- an accepted split that joined the list
split_joined : (g : Ground) (s number known v : ℕ) (line : NumberedLine) (old mid new : List SplitEntry) (parts next : Decomposition) (op : OpName)
    (poly : List ℕ) (sizes : List ℕ) → known ≤ length old → GoesOn maker_of s old mid → v ≡ length mid → IsVersion g mid parts
    → FinishesLine g v parts line.text (outcomes.Split op poly next sizes)
    → new ≡ mid ++ record { session = s; command = number; op = op; poly = poly } ∷ []
    → AnswersLine g s (number, line) known old (record { number = number; version = v; reply = replies.Version (v + 1) sizes }) (v + 1) new
split_joined g s number known v line old mid new parts next op poly sizes within goes count version finished grows =
    subst (λ es. AnswersLine g s (number, line) known old (record { number = number; version = v; reply = replies.Version (v + 1) sizes }) (v + 1) es)
    (sym grows) (joined (record { session = s; command = number; op = op; poly = poly }) refl)
  where
    longer : length old ≤ length mid
    longer = prefix-length old mid goes.begins

    joined : (e : SplitEntry) → record { session = s; command = number; op = op; poly = poly } ≡ e
        → AnswersLine g s (number, line) known old (record { number = number; version = v; reply = replies.Version (v + 1) sizes }) (v + 1)
        (mid ++ e ∷ [])
    joined e same =
        let finished_there : FinishesLine g (length mid) parts line.text (outcomes.Split op poly next sizes) =
        subst (λ n. FinishesLine g n parts line.text (outcomes.Split op poly next sizes)) count finished in
        let told : Answers g s mid (number, line) (record { number = number; version = length mid; reply = replies.Version (length mid + 1) sizes })
        (mid ++ record { session = s; command = number; op = op; poly = poly } ∷ []) =
        accepted_line g s number mid parts line op poly next sizes version
        (accepted_split g (length mid) parts line.text op poly next sizes finished_there) in
        let answers : Answers g s mid (number, line) (record { number = number; version = v; reply = replies.Version (v + 1) sizes }) (mid ++ e ∷ []) =
        subst (λ n. Answers g s mid (number, line) (record { number = number; version = n; reply = replies.Version (n + 1) sizes }) (mid ++ e ∷ []))
        (sym count) (subst (λ x. Answers g s mid (number, line)
        (record { number = number; version = length mid; reply = replies.Version (length mid + 1) sizes }) (mid ++ x ∷ [])) same told) in
        let size : length (mid ++ e ∷ []) ≡ length mid + 1 = length-append mid (e ∷ []) in
        record {
          before = mid;
          after = mid ++ e ∷ [];
          answers = answers;
          begins = prefix_trans old mid (mid ++ e ∷ []) goes.begins (prefix_of_append mid (e ∷ []));
          into = prefix_refl (mid ++ e ∷ []);
          no_earlier = omega (arith, within, longer);
          no_later = omega (arith, size, count);
          within = omega (arith, size, count);
          own = λ w x at mine. elim (pushed_at mid e x w at) [
            | inl there ↦ inl (goes.own w x there mine)
            | inr here ↦ inr (omega (arith, here.0), at)
          ];
        }

pub split_try : (g : Ground) (s t number known v : ℕ) (line : NumberedLine) (old mid new : List SplitEntry) (parts next : Decomposition) (op : OpName)
    (poly : List ℕ) (sizes : List ℕ) → t ≡ s → known ≤ length old → GoesOn maker_of s old mid → v ≡ length mid → IsVersion g mid parts
    → FinishesLine g v parts line.text (outcomes.Split op poly next sizes)
    → new ≡ mid ++ record { session = t; command = number; op = op; poly = poly } ∷ []
    → AnswersLine g s (number, line) known old (record { number = number; version = v; reply = replies.Version (v + 1) sizes }) (v + 1) new
split_try g s t number known v line old mid new parts next op poly sizes same within goes count version finished grows =
    split_joined g s number known v line old mid new parts next op poly sizes within goes count version finished
    (grows ∙ ap (λ k. mid ++ record { session = k; command = number; op = op; poly = poly } ∷ []) same)

-- one for whose commit there was no memory
pub wanting_try : (g : Ground) (s number known v : ℕ) (line : NumberedLine) (old mid new : List SplitEntry) (parts : Decomposition)
    → known ≤ length old → GoesOn maker_of s old mid → v ≡ length mid → IsVersion g mid parts → new ≡ mid
    → AnswersLine g s (number, line) known old (record { number = number; version = v; reply = replies.Memory }) v new
wanting_try g s number known v line old mid new parts within goes count version same =
    subst (λ es. AnswersLine g s (number, line) known old (record { number = number; version = v; reply = replies.Memory }) v es) (sym same)
    (plain_try g s number known v line old mid parts replies.Memory within goes count version (inr refl))

-- and one that came too late
pub stale_try : (g : Ground) (m n number known v : ℕ) (line : NumberedLine) (old mid new : List SplitEntry) (parts next : Decomposition) (op : OpName)
    (poly : List ℕ) (sizes : List ℕ) → m ≡ n → known ≤ length old → GoesOn maker_of (n + 1) old mid → v ≡ length mid → IsVersion g mid parts
    → FinishesLine g v parts line.text (outcomes.Split op poly next sizes) → GoesOn maker_of (m + 1) mid new × (length mid < length new)
    → IsStale g (n + 1) (number, line) known old v new
stale_try g m n number known v line old mid new parts next op poly sizes same within goes count version finished (later, longer) =
    let less : length old ≤ length mid = prefix-length old mid goes.begins in
    let split : IsAcceptedSplit g (length mid) parts line.text op poly next sizes =
    accepted_split g (length mid) parts line.text op poly next sizes
    (subst (λ k. FinishesLine g k parts line.text (outcomes.Split op poly next sizes)) count finished) in
    record {
      goes = goes_on_then maker_of (n + 1) old mid new goes (subst (λ k. GoesOn maker_of (k + 1) mid new) same later);
      learnt = omega (arith, less, count);
      longer = omega (arith, count, longer);
      room = omega (arith, split.room, count);
      no_earlier = omega (arith, within, less, count);
      accepted = record {
        before = mid;
        reply = record { number = number; version = length mid; reply = replies.Version (length mid + 1) sizes };
        after = mid ++ record { session = n + 1; command = number; op = op; poly = poly } ∷ [];
        into = later.begins;
        count = sym count;
        answers = accepted_line g (n + 1) number mid parts line op poly next sizes version split;
        accepted = tt;
      };
    }

-- ---- the flights
-- a line that is answered by what it came to
pub plain_flies : (g : Ground) (m n v number : ℕ) (line : NumberedLine) (old new : List FlightEvent) (finish : Finish) (reply : Reply)
    → m ≡ n → finish ≡ outcomes.Reply reply → HasFlown (line_demand g v line.text) (m + 1) finish old new
    → FliesLine g (n + 1) line old (record { number = number; version = v; reply = reply }) new
plain_flies g m n v number line old new finish reply same is h =
    let flown : HasFlown (line_demand g v line.text) (n + 1) (outcomes.Reply reply) old new =
    subst (λ f. HasFlown (line_demand g v line.text) (n + 1) f old new) is
    (subst (λ k. HasFlown (line_demand g v line.text) (k + 1) finish old new) same h) in
    record { flies = Flies_at_first g v (n + 1) line.text old new flown.flies; held = flown.held }

-- one that came to a split
pub split_flies : (g : Ground) (m n v number : ℕ) (line : NumberedLine) (old new : List FlightEvent) (finish : Finish) (reply : Reply) (op : OpName)
    (poly : List ℕ) (next : Decomposition) (sizes : List ℕ) → m ≡ n → finish ≡ outcomes.Split op poly next sizes
    → HasFlown (line_demand g v line.text) (m + 1) finish old new
    → FliesLine g (n + 1) line old (record { number = number; version = v; reply = reply }) new
split_flies g m n v number line old new finish reply op poly next sizes same is h =
    let flown : HasFlown (line_demand g v line.text) (n + 1) (outcomes.Split op poly next sizes) old new =
    subst (λ f. HasFlown (line_demand g v line.text) (n + 1) f old new) is
    (subst (λ k. HasFlown (line_demand g v line.text) (k + 1) finish old new) same h) in
    record { flies = Flies_at_first g v (n + 1) line.text old new flown.flies; held = λ some. flown.held (λ none. none) }

-- or one whose split was stale
pub stale_flies : (g : Ground) (m n v : ℕ) (line : NumberedLine) (old new : List FlightEvent) (finish : Finish) → m ≡ n
    → HasFlown (line_demand g v line.text) (m + 1) finish old new → Flies (line_demand g 0 line.text) (n + 1) old new
stale_flies g m n v line old new finish same h =
    subst (λ k. Flies (line_demand g 0 line.text) (k + 1) old new) same (Flies_at_first g v (m + 1) line.text old new h.flies)

-- and one that did not fly
pub wanting_flies : (g : Ground) (s v number : ℕ) (line : NumberedLine) (events : List FlightEvent)
    → FliesLine g s line events (record { number = number; version = v; reply = replies.Memory }) events
wanting_flies g s v number line events = record { flies = Flies_refl (line_demand g 0 line.text) s events; held = λ some. absurd (some refl) }

-- from nothing, all pairs are added
Adds-all : (pairs : List (ℕ × ℕ)) → Adds pairs [] pairs
Adds-all pairs = record { kept = λ q none. absurd (Has-nil q none); only = λ q has. inr has }

-- what a demand's columns did is what a command's did
pub demand_flown : (g at : Ground) (command : Command) (d : Demand) (s : ℕ) (finish : Finish) (old new : List FlightEvent) → at ≡ g
    → IsDemand at command d → Flies (demand_pairs g.level d) s old new
    → ((IsWanting finish → ⊥) → HasAll (published_pairs new) (demand_pairs g.level d)) → HasFlown (demand g command) s finish old new
demand_flown g at command d s finish old new same is flies held =
    let here : IsDemand g command d = subst (λ h. IsDemand h command d) same is in
    record {
      flies = Flies_weaken (demand_pairs g.level d) (demand g command) s old new
          (λ q has. added q ((Adds-demand g command d [] (demand_pairs g.level d) here (Adds-all (demand_pairs g.level d))).only q has)) flies;
      held = λ some. HasAll-demand g command d (published_pairs new) here (held some);
    }
  where
    added : (q : ℕ × ℕ) → Has [] q ⊎ Has (demand g command) q → Has (demand g command) q
    added q (inl none) = absurd (Has-nil q none)
    added q (inr some) = some

-- ---- the versions
-- the version of the list, at the ground of the versions
pub version_here : (g setting : Ground) (entries : List SplitEntry) (parts there : Decomposition) → g ≡ setting → parts ≡ there
    → IsVersion setting entries there → IsVersion g entries parts
version_here g setting entries parts there same is h =
    subst (λ p. IsVersion g entries p) (sym is) (subst (λ s. IsVersion s entries there) (sym same) h)

-- a commit that found the list longer
pub stale_split : (old new : View SplitEntry) (seen count : ℕ) (entry : SplitEntry) (r : Result ℕ CommitFault) → r ≡ Err (Stale count)
    → seen ≡ length old.seen → Commits old seen entry r new
    → GoesOn maker_of (old.number + 1) old.seen new.seen × (length old.seen < length new.seen)
stale_split old new seen count entry r is all h =
    let now : new.seen ≡ h.log = h.seen_is ∙ ap (λ a. appended a h.log entry) is in
    let longer : seen < length h.log = by (nat_lt seen (length h.log)) (ltb-true seen (length h.log)) (sym h.answer ∙ is) in (
      subst (GoesOn maker_of (old.number + 1) old.seen) (sym now) (goes_on maker_of old.number old.seen h.log h.begins),
      omega (arith, ap length now),
    )
  where
    full : (b : Bool) → ◌≡◌ {A = Result ℕ CommitFault} (if b then Err Full else Ok (length h.log + 1)) (Err (Stale count)) → ⊥
    full true e = cc
    full false e = cc

    by : (b : Bool) → (b ≡ true → seen < length h.log)
        → ◌≡◌ {A = Result ℕ CommitFault}
        (if b then Err (Stale (length h.log)) else (if length h.log == MAX_VERSIONS then Err Full else Ok (length h.log + 1))) (Err (Stale count))
        → seen < length h.log
    by true less e = less refl
    by false less e = absurd (full (length h.log == MAX_VERSIONS) e)

-- ---- tries one after another
pub answers_after : (g : Ground) (m n : ℕ) (line : ℕ × NumberedLine) (known mid reached : ℕ) (old log new : List SplitEntry) (o : Option ReplyLine)
    (r : ReplyLine) → m ≡ n → known ≤ mid → GoesOn maker_of (n + 1) old log → o ≡ Some r → TriesLine g (m + 1) line mid log o reached new
    → AnswersLine g (n + 1) line known old r reached new
answers_after g m n line known mid reached old log new o r same less goes is h =
    answers_later g (n + 1) line known mid reached old log new r less goes
    (subst (λ k. AnswersLine g (k + 1) line mid log r reached new) same (subst (λ x. TriesLine g (m + 1) line mid log x reached new) is h))

pub stale_after : (g : Ground) (m n : ℕ) (line : ℕ × NumberedLine) (known mid reached : ℕ) (old log new : List SplitEntry) (o : Option ReplyLine)
    → m ≡ n → known ≤ mid → GoesOn maker_of (n + 1) old log → o ≡ None → TriesLine g (m + 1) line mid log o reached new
    → IsStaleAfter n known old log reached new
stale_after g m n line known mid reached old log new o same less goes is h =
    let stale : IsStale g (m + 1) line mid log reached new = subst (λ x. TriesLine g (m + 1) line mid log x reached new) is h in
    record {
      goes = goes_on_then maker_of (n + 1) old log new goes (subst (λ k. GoesOn maker_of (k + 1) log new) same stale.goes);
      no_earlier = omega (arith, less, stale.no_earlier);
      within = omega (arith, stale.longer);
      longer = omega (arith, stale.learnt, stale.longer);
      room = omega (arith, stale.learnt, stale.room);
    }

pub flies_after : (g : Ground) (m n : ℕ) (line : NumberedLine) (old mid new : List FlightEvent) (o : Option ReplyLine) (r : ReplyLine) → m ≡ n
    → o ≡ Some r → Flies (line_demand g 0 line.text) (n + 1) old mid → FliesTry g (m + 1) line mid o new → FliesLine g (n + 1) line old r new
flies_after g m n line old mid new o r same is flies h =
    let last : FliesLine g (n + 1) line mid r new =
    subst (λ k. FliesLine g (k + 1) line mid r new) same (subst (λ x. FliesTry g (m + 1) line mid x new) is h) in
    record { flies = Flies_trans (line_demand g 0 line.text) (n + 1) old mid new flies last.flies; held = last.held }

pub flies_again : (g : Ground) (m n : ℕ) (line : NumberedLine) (old mid new : List FlightEvent) (o : Option ReplyLine) → m ≡ n → o ≡ None
    → Flies (line_demand g 0 line.text) (n + 1) old mid → FliesTry g (m + 1) line mid o new → Flies (line_demand g 0 line.text) (n + 1) old new
flies_again g m n line old mid new o same is flies h =
    Flies_trans (line_demand g 0 line.text) (n + 1) old mid new flies
    (subst (λ k. Flies (line_demand g 0 line.text) (k + 1) mid new) same (subst (λ x. FliesTry g (m + 1) line mid x new) is h))

module _ {gs : Ghosts VersionHistory SplitEntry} {q : Equality SplitEntry} where
  -- a pass may commit again
  pub may_commit_on : (versions : Versions) (g : Ground) (old new : Pass VersionHistory SplitEntry gs q) → MayCommit versions g old
      → Continues old new → (view new).has_turn ≡ false → MayCommit versions g new
  may_commit_on versions g old new may later idle = record {
    board = record {
      table = later.table ∙ may.board.table;
      label = later.label ∙ may.board.label;
      passes = later.passes ∙ may.board.passes;
    };
    idle = idle;
    setting = may.setting;
  }
