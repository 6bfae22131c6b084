use Rattle.std.proofs.Common.{refl}
use Rattle.heilbronn_chains.specs.Chains.{degree}
use Rattle.heilbronn_chains.proofs.Walks.{walk_ends}
use Rattle.heilbronn_chains.proofs.chain.push_chain.Goals as goal

pub returns : goal.returns
returns c =
    let h = c.in_default.ensures in
    record {
      chain = walk_ends (degree c.args.start) c.args.start c.loop-matrix.last c.args.list.now.items c.loop-matrix.list.items c.requires.member
          c.requires.begins c.loop-matrix.invariant (h.last.0 refl);
    }
