use Rattle.std.proofs.Common.{get_or, subst, rules}
use Rattle.heilbronn_sets.proofs.Faults.{zero_matrix}
use Rattle.heilbronn_chains.proofs.Walks.{start_at}
use Rattle.hecke_columns.specs.Chains.{AddsChainSum}
use Rattle.hecke_columns.proofs.ChainSums.{counted_none, counted_more, start_coprime}
use Rattle.hecke_columns.proofs.chains.add_chains.Goals as goal

pub loop-start-init : goal.loop-start-init
loop-start-init c = record {
  starts = search rules;
  part = counted_none c.args.level.now c.args.field c.args.n c.args.k c.args.counts.now;
  residues = c.requires.residues;
}

pub add_chain-requires-clause-limit : goal.add_chain-requires-clause-limit
add_chain-requires-clause-limit c = (start_at c.args.n c.loop-start.start-index c.deref-start-items.result.now c.requires.some c.requires.limit
    c.loop-start.invariant.starts c.loop-start-test.true).limit

pub add_chain-requires-clause-member : goal.add_chain-requires-clause-member
add_chain-requires-clause-member c = (start_at c.args.n c.loop-start.start-index c.deref-start-items.result.now c.requires.some c.requires.limit
    c.loop-start.invariant.starts c.loop-start-test.true).is_member

pub add_chain-requires-clause-begins : goal.add_chain-requires-clause-begins
add_chain-requires-clause-begins c = (start_at c.args.n c.loop-start.start-index c.deref-start-items.result.now c.requires.some c.requires.limit
    c.loop-start.invariant.starts c.loop-start-test.true).begins

pub add_chain-requires-clause-coprime : goal.add_chain-requires-clause-coprime
add_chain-requires-clause-coprime c =
    start_coprime c.args.level.now c.args.n c.loop-start.start-index c.deref-start-items.result.now
    (start_at c.args.n c.loop-start.start-index c.deref-start-items.result.now c.requires.some c.requires.limit c.loop-start.invariant.starts
    c.loop-start-test.true) c.requires.coprime

pub loop-start-preserved : goal.loop-start-preserved
loop-start-preserved c =
    let n = c.args.n in
    let i = c.loop-start.start-index in
    let items = c.deref-start-items.result.now in
    let start = start_at n i items c.requires.some c.requires.limit c.loop-start.invariant.starts c.loop-start-test.true in
    record {
      starts = c.loop-start.invariant.starts;
      part = counted_more c.args.level.now c.args.field n c.args.k i items c.args.counts.now c.loop-start.counts c.add_chain.new.counts
          c.loop-start.invariant.starts c.loop-start-test.true c.loop-start.invariant.part
          (subst (λ d. AddsChainSum c.args.level.now c.args.field d c.args.k (get_or items i zero_matrix) c.loop-start.counts c.add_chain.new.counts)
          start.degree_is c.add_chain.ensures.sum);
      residues = c.add_chain.ensures.residues;
    }
