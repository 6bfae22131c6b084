use Rattle.std.proofs.Common.{sym, subst, arith}
use Rattle.split_state.specs.Decomposition.{IsSplitting}
use Rattle.split_versions.proofs.HistoryLemmas.{history_more}
use Rattle.split_versions.proofs.state.VersionState.commit.Goals as goal

pub invariant_of-self : goal.invariant_of-self
invariant_of-self c =
    history_more _ _ c.args.self.now c.self.inside.entries.items _ c.args.entry _ _ c.args.seen _ _ c.self.invariant (sym c.self.view_is)
    (omega (arith, c.if-seen-count.false, c.len-count.ensures))
    (omega (arith, c.if-count-eq-MAX_VERSIONS.false, c.len-count.ensures, c.self.invariant.few))
    c.push_reserved.ensures.items (omega (arith, c.push_reserved.ensures.capacity)) c.requires.next
    (subst IsSplitting c.deref.ensures c.is_splitting.ensures)
