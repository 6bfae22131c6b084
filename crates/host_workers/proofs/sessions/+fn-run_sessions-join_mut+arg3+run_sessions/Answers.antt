use Rattle.std.proofs.Common.{[], ◌∷◌, sym, rules}
use Rattle.std.specs.Prelude.{All}
use Rattle.std.proofs.lemmas.List.Elements.{All-head, All-same, All-tail}
use denote.Param.Send.{IsSend, IsSync, mut_send, param_send, shr_send, shr_slice_send}
use mir.Syntax.{named}
use contract.Lifetimes.{Lfts}
use Rattle.std.specs.contracts.alloc.Global as Global
use Rattle.script_text.specs.contracts.script.Script as Script
use Rattle.host_workers.proofs.Crossing.{boards-sync, global-sync, script-sync, work-send}
use Rattle.host_workers.specs.contracts.work.SessionWork as SessionWork
use Rattle.host_workers.specs.contracts.work.SpaceBoards as SpaceBoards
use Rattle.host_workers.specs.declared.work.SessionWork.{SessionWork as Work}
use Rattle.host_workers.specs.Works.{MayWork}
use Rattle.host_workers.proofs.sessions.+fn-run_sessions-join_mut+arg3+run_sessions.Given.{Over}
use Rattle.host_workers.proofs.sessions.+fn-run_sessions-join_mut+arg3+run_sessions.Lts-run_sessions as Lts
use Rattle.host_workers.proofs.sessions.+fn-run_sessions-join_mut+arg3+run_sessions.Goals as goal

pub join_mut-requires-after_bounds : goal.join_mut-requires-after_bounds
join_mut-requires-after_bounds g t c κs within =
    let Begins : Work → Type 0 = λ (w : Work). MayWork c.args.script.now c.args.boards.now w in
    let both : All Begins (c.in-Some.first.now ∷ c.in-Some.rest.now) =
    All-same Begins (c.in-Some.first.now ∷ c.in-Some.rest.now) c.args.works.now (sym (c.in-Some.ensures {u = tt}).cases.0) c.requires in
    let first : MayWork c.args.script.now c.args.boards.now c.in-Some.first.now = All-head Begins c.in-Some.first.now c.in-Some.rest.now both in
    let rest : All (MayWork c.args.script.now c.args.boards.now) c.in-Some.rest.now = All-tail Begins c.in-Some.first.now c.in-Some.rest.now both in
    search rules

-- the first closure may be sent
first-send : (g : Over) (κs : Lfts 20) → IsSync g.row.R → IsSync g.row.G
    → IsSend (Lts.arg-1-1 g.row.R g.row.G g.R.laws g.G.laws g.R.Threads-dict g.R.Wait-dict g.G.Gate-dict κs)
first-send g κs r s = record {
  owned = λ x vs vss. (
    tt,
    (
      (shr_send (named 0) _ g.row.R r).owned x.0 [],
      (
        (shr_send (named 0) κs.0 Global.the_row global-sync).owned x.1 [],
        (
          (shr_send (named 0) _ Script.the_row script-sync).owned x.2 [],
          (
            (shr_slice_send (named 0) _ SpaceBoards.the_row boards-sync).owned x.3 [],
            ((shr_send (named 0) _ g.row.G s).owned x.4 [], ((mut_send (named 0) κs.0 SessionWork.the_row work-send).owned x.5 [], tt)),
          ),
        ),
      ),
    ),
  );
  leaving = λ k x w. (tt, (tt, (tt, (tt, (tt, (tt, tt))))));
}

pub join_mut-requires-send-F : goal.join_mut-requires-send-F
join_mut-requires-send-F g t c κs within =
    param_send 1 (Lts.arg-1-1 g.row.R g.row.G g.R.laws g.G.laws g.R.Threads-dict g.R.Wait-dict g.G.Gate-dict κs)
    (first-send g κs (search rules) (search rules))
