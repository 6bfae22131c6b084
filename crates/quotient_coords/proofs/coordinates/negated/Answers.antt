use Rattle.std.proofs.Common.{rules, ◌<◌}
use Rattle.field_table.proofs.Renumbering.{renumbered_none, renumbered_skip, renumbered_put}
use Rattle.quotient_coords.proofs.coordinates.negated.Goals as goal
use Rattle.quotient_coords.proofs.coordinates.negated.Goals.{in-Some+in_ok-push, in_default}

pub loop-term-init : goal.loop-term-init
loop-term-init c =
    let above : 0 < c.args.field = search rules in
    rw c.in_ok-negated.ensures.items (renumbered_none c.args.field above c.args.free.now.places c.args.terms.now)

pub loop-term-preserved : goal.loop-term-preserved
loop-term-preserved c =
    let above : 0 < c.args.field = search rules in
    elim c.match-number_of.branch [
      | in-Some+in_ok-push w ↦ rw (w.negated-is, w.in_ok-push.ensures.items)
          (renumbered_put c.args.field above c.args.free.now.places c.args.terms.now c.loop-term.term-index c.loop-term.negated.items c.requires.free
          c.requires.rising c.requires.residues c.loop-term.invariant c.loop-term-test.true
          _ w.neg.result w.in-Some.ensures.number.0 w.in-Some.ensures.number.1 w.neg.ensures.value w.neg.ensures.residue w.neg.ensures.below)
      | in_default w ↦ rw w.negated-is (renumbered_skip c.args.field c.args.free.now.places c.args.terms.now c.loop-term.term-index
          c.loop-term.negated.items c.requires.rising c.loop-term.invariant c.loop-term-test.true w.in_default.ensures.number)
    ]
