use Rattle.std.proofs.Common.{get_or, subst}
use Rattle.heilbronn_sets.proofs.Faults.{zero_matrix}
use Rattle.heilbronn_chains.specs.Chains.{AddsChain}
use Rattle.heilbronn_chains.proofs.Walks.{start_at, joined_more, joined_all}
use Rattle.heilbronn_chains.proofs.lists.joined_chains.Goals as goal

pub push_chain-requires-clause-limit : goal.push_chain-requires-clause-limit
push_chain-requires-clause-limit c = (start_at c.args.n c.loop-start.start-index c.deref-start-items.result.now c.requires.some c.requires.limit
    c.loop-start.invariant.starts c.loop-start-test.true).limit

pub push_chain-requires-clause-member : goal.push_chain-requires-clause-member
push_chain-requires-clause-member c = (start_at c.args.n c.loop-start.start-index c.deref-start-items.result.now c.requires.some c.requires.limit
    c.loop-start.invariant.starts c.loop-start-test.true).is_member

pub push_chain-requires-clause-begins : goal.push_chain-requires-clause-begins
push_chain-requires-clause-begins c = (start_at c.args.n c.loop-start.start-index c.deref-start-items.result.now c.requires.some c.requires.limit
    c.loop-start.invariant.starts c.loop-start-test.true).begins

pub loop-start-preserved : goal.loop-start-preserved
loop-start-preserved c =
    let n = c.args.n in
    let k = c.loop-start.start-index in
    let items = c.deref-start-items.result.now in
    let start = start_at n k items c.requires.some c.requires.limit c.loop-start.invariant.starts c.loop-start-test.true in
    record {
      starts = c.loop-start.invariant.starts;
      part = joined_more n k items c.loop-start.list.items c.push_chain.new.list.items c.loop-start.invariant.starts c.loop-start-test.true
          c.loop-start.invariant.part
          (subst (λ d. AddsChain d (get_or items k zero_matrix) c.loop-start.list.items c.push_chain.new.list.items)
          start.degree_is c.in_ok-push_chain.ensures.chain);
    }

pub returns : goal.returns
returns c = record {
  chains = joined_all c.args.n c.loop-start.start-index c.deref-start-items.result.now c.loop-start.list.items
      c.loop-start.invariant.starts c.loop-start-test.false c.loop-start.invariant.part;
}
