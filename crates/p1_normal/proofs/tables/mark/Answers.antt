use Rattle.std.proofs.Common.{sym, ap, ◌≡◌, ◌<◌, ◌+◌, ◌*◌, ◌%◌, subst, arith, length, get_or, set}
use Rattle.p1_normal.specs.Units.{fixing}
use Rattle.p1_normal.proofs.UnitLists.{fixing_below, fixing_keeps}
use Rattle.p1_normal.proofs.Marking.{Marked, marked_more, marked_all, product_small}
use Rattle.p1_normal.proofs.tables.mark.Goals as goal

pub overflow_mul-v : goal.overflow_mul-v
overflow_mul-v c = omega (
  arith,
  product_small c.args.n (get_or c.args.kept.now c.loop-s.s-index 0) c.args.p.v c.requires.level.1
      (fixing_below c.args.n c.args.p.u c.loop-s.s-index c.args.kept.now c.requires.kept c.loop-s-test.true) c.requires.below.second,
)

pub loop-s-preserved : goal.loop-s-preserved
loop-s-preserved c =
    let within : c.loop-s.s-index < length (fixing c.args.n c.args.p.u) = omega (arith, c.loop-s-test.true, ap length c.requires.kept) in
    subst (λ xs. Marked c.args.n c.args.p c.args.number (c.loop-s.s-index + 1) c.args.numbers.now
    (set c.loop-s.numbers (c.args.p.u * c.args.n + (get_or xs c.loop-s.s-index 0 * c.args.p.v) % c.args.n) c.args.number)) (sym c.requires.kept)
    (subst (λ u. Marked c.args.n c.args.p c.args.number (c.loop-s.s-index + 1) c.args.numbers.now
    (set c.loop-s.numbers (u * c.args.n + (get_or (fixing c.args.n c.args.p.u) c.loop-s.s-index 0 * c.args.p.v) % c.args.n) c.args.number))
    (fixing_keeps c.args.n c.args.p.u c.loop-s.s-index within)
    (marked_more c.args.n c.args.p c.args.number c.loop-s.s-index c.args.numbers.now c.loop-s.numbers c.requires.level.0 c.requires.room within
    c.loop-s.invariant))

pub returns : goal.returns
returns c =
    let all : c.loop-s.s-index ≡ length (fixing c.args.n c.args.p.u) =
    omega (arith, c.loop-s-test.false, c.loop-s.auto.s-index-end, ap length c.requires.kept) in
    marked_all c.args.n c.args.p c.args.number c.args.numbers.now c.loop-s.numbers c.requires.level.0 c.requires.below c.requires.head
    (subst (λ k. Marked c.args.n c.args.p c.args.number k c.args.numbers.now c.loop-s.numbers) all c.loop-s.invariant)
