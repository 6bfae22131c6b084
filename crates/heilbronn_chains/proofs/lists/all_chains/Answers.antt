use Rattle.std.proofs.Common.{subst}
use Rattle.heilbronn_chains.specs.Chains.{IsChain}
use Rattle.heilbronn_chains.proofs.Walks.{start_at, part_more, part_all}
use Rattle.heilbronn_chains.proofs.lists.all_chains.Goals as goal

pub from-requires-clause-limit : goal.from-requires-clause-limit
from-requires-clause-limit c = (start_at c.args.n c.loop-start.start-index c.deref-start-items.result.now c.requires.some c.requires.limit
    c.loop-start.invariant.starts c.loop-start-test.true).limit

pub from-requires-clause-member : goal.from-requires-clause-member
from-requires-clause-member c = (start_at c.args.n c.loop-start.start-index c.deref-start-items.result.now c.requires.some c.requires.limit
    c.loop-start.invariant.starts c.loop-start-test.true).is_member

pub from-requires-clause-begins : goal.from-requires-clause-begins
from-requires-clause-begins c = (start_at c.args.n c.loop-start.start-index c.deref-start-items.result.now c.requires.some c.requires.limit
    c.loop-start.invariant.starts c.loop-start-test.true).begins

pub loop-start-preserved : goal.loop-start-preserved
loop-start-preserved c =
    let n = c.args.n in
    let k = c.loop-start.start-index in
    let items = c.deref-start-items.result.now in
    let chain = c.in_ok-chain.chain in
    let start = start_at n k items c.requires.some c.requires.limit c.loop-start.invariant.starts c.loop-start-test.true in
    let h = c.in_ok-chain.ensures in
    record {
      starts = c.loop-start.invariant.starts;
      part = part_more n k items c.loop-start.list.items c.push.new.self.items chain c.loop-start.invariant.starts c.loop-start-test.true
          c.loop-start.invariant.part
          (subst (λ d. IsChain d chain) start.degree_is h.chain) h.first c.in_ok-push.ensures.items;
    }

pub returns : goal.returns
returns c = record {
  chains = part_all c.args.n c.loop-start.start-index c.deref-start-items.result.now c.loop-start.list.items
      c.loop-start.invariant.starts c.loop-start-test.false c.loop-start.invariant.part;
}
