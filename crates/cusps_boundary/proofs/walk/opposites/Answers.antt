use Rattle.std.proofs.Common.{◌≡◌, length, refl, ◌∙◌, ap, arith}
use Rattle.p1_normal.specs.Points.{symbols}
use Rattle.cusps_boundary.proofs.CuspNumbers.{first_opposites, length-cusp_numbers, opposites_more}
use Rattle.cusps_boundary.proofs.walk.opposites.Goals as goal

pub bounds-numbers-s_of : goal.bounds-numbers-s_of
bounds-numbers-s_of c = omega (arith, c.s_of.ensures.below, ap length c.requires.numbers, length-cusp_numbers c.args.level.now)

pub loop-k-preserved : goal.loop-k-preserved
loop-k-preserved c = c.in_ok-push.ensures.items ∙ opposites_more c.args.level.now c.loop-k.k _ c.s_of.result c.args.numbers.now c.loop-k.list.items
    c.requires.numbers
    (omega (arith, c.loop-k-test.true, c.count-k-end.ensures.count)) c.s_of.ensures.number refl c.loop-k.invariant

pub returns : goal.returns
returns c =
    let last : c.loop-k.k ≡ length (symbols c.args.level.now) = omega
    (arith, c.loop-k-test.false, c.loop-k.auto.k-end, c.count-k-end.ensures.count) in
    c.loop-k.invariant ∙ ap (first_opposites c.args.level.now) last
