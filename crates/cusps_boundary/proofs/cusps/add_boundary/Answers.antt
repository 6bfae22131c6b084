use Rattle.std.proofs.Common.{◌≡◌, ◌<◌, length, refl, subst, arith}
use Rattle.std.proofs.lemmas.List.Elements.{All-get_or}
use Rattle.p1_normal.specs.Points.{symbols}
use Rattle.cusps_boundary.proofs.BoundarySums.{AreAdded, added_none, added_more, added_all}
use Rattle.cusps_boundary.proofs.cusps.add_boundary.Goals as goal

pub loop-term-init : goal.loop-term-init
loop-term-init c = added_none c.args.field c.args.table.now c.args.sums.now c.args.terms.now c.requires.sums c.requires.count

pub loop-term-preserved : goal.loop-term-preserved
loop-term-preserved c = added_more c.args.field c.args.table.now _ _ c.of-from.result c.opposite-to.result c.add.result c.sub.result c.args.sums.now
    c.args.terms.now c.loop-term.term-index c.loop-term.sums
    c.loop-term-test.true refl refl
    (All-get_or (λ t. t.1 < c.args.field) c.args.terms.now c.loop-term.term-index (0, 0) c.loop-term-test.true c.requires.residues)
    (All-get_or (λ t. t.0 < length (symbols c.args.table.now)) c.args.terms.now c.loop-term.term-index (0, 0) c.loop-term-test.true c.requires.places)
    c.of-from.ensures.number c.opposite-to.ensures.number c.of-from.ensures.below c.opposite-to.ensures.below c.add.ensures.value c.add.ensures.below
    c.sub.ensures.value c.sub.ensures.below c.loop-term.invariant

pub returns-clause-sum : goal.returns-clause-sum
returns-clause-sum c = added_all c.args.field c.args.table.now c.args.sums.now c.loop-term.sums c.args.terms.now
    (subst (λ i. AreAdded c.args.field c.args.table.now c.args.sums.now c.args.terms.now i c.loop-term.sums)
    (let e : c.loop-term.term-index ≡ length c.args.terms.now = omega arith in e) c.loop-term.invariant)
