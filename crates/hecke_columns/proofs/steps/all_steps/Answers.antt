use Rattle.std.proofs.Common.{◌<◌, get_or, sym, subst, rules, arith}
use Rattle.heilbronn_sets.proofs.Faults.{zero_matrix}
use Rattle.heilbronn_chains.proofs.Walks.{start_at}
use Rattle.hecke_columns.specs.Steps.{AddsSteps}
use Rattle.hecke_columns.proofs.StepLists.{stepped_none, stepped_more, stepped_all}
use Rattle.hecke_columns.proofs.steps.all_steps.Goals as goal

pub loop-start-init : goal.loop-start-init
loop-start-init c = record { starts = search rules; part = stepped_none c.args.n _ (search rules) }

pub push_chain-requires-clause-some : goal.push_chain-requires-clause-some
push_chain-requires-clause-some c =
    let start = start_at c.args.n c.loop-start.start-index c.deref-start-items.result.now c.requires.some c.requires.limit
    c.loop-start.invariant.starts c.loop-start-test.true in
    subst (λ d. 0 < d) (sym start.degree_is) c.requires.some

pub push_chain-requires-clause-limit : goal.push_chain-requires-clause-limit
push_chain-requires-clause-limit c = (start_at c.args.n c.loop-start.start-index c.deref-start-items.result.now c.requires.some c.requires.limit
    c.loop-start.invariant.starts c.loop-start-test.true).limit

pub push_chain-requires-clause-member : goal.push_chain-requires-clause-member
push_chain-requires-clause-member c = (start_at c.args.n c.loop-start.start-index c.deref-start-items.result.now c.requires.some c.requires.limit
    c.loop-start.invariant.starts c.loop-start-test.true).is_member

pub push_chain-requires-clause-begins : goal.push_chain-requires-clause-begins
push_chain-requires-clause-begins c = (start_at c.args.n c.loop-start.start-index c.deref-start-items.result.now c.requires.some c.requires.limit
    c.loop-start.invariant.starts c.loop-start-test.true).begins

pub loop-start-preserved : goal.loop-start-preserved
loop-start-preserved c =
    let n = c.args.n in
    let i = c.loop-start.start-index in
    let items = c.deref-start-items.result.now in
    let start = start_at n i items c.requires.some c.requires.limit c.loop-start.invariant.starts c.loop-start-test.true in
    record {
      starts = c.loop-start.invariant.starts;
      part = stepped_more n i items c.loop-start.steps.items c.push_chain.new.steps.items c.loop-start.invariant.starts c.loop-start-test.true
          c.loop-start.invariant.part
          (subst (λ d. AddsSteps d (get_or items i zero_matrix) c.loop-start.steps.items c.push_chain.new.steps.items) start.degree_is
          c.in_ok-push_chain.ensures.chain);
    }

pub returns : goal.returns
returns c = record {
  steps = stepped_all c.args.n c.loop-start.start-index c.deref-start-items.result.now c.loop-start.steps.items c.requires.some c.requires.limit
      c.loop-start.invariant.starts (omega arith) c.loop-start.invariant.part;
}
