use Rattle.std.proofs.Common.{◌%◌, ◌/◌, ◌∙◌, ap, arith}
use Rattle.std.specs.Prelude.{pos}
use Rattle.p1_normal.specs.declared.matrix.TheConstants.{MAX_DET}
use Rattle.p1_normal.specs.Actions.{image_number}
use Rattle.heilbronn_chains.specs.Turns.{turn}
use Rattle.hecke_columns.proofs.TurnTables.{times_few, quotient_few, turned_more}
use Rattle.hecke_columns.proofs.turns.turned_numbers.Goals as goal

pub overflow_mul-size : goal.overflow_mul-size
overflow_mul-size c = omega (arith, times_few c.args.limit MAX_DET c.args.count c.requires.limit, c.requires.few)

pub turned_by_image-requires-clause-limit : goal.turned_by_image-requires-clause-limit
turned_by_image-requires-clause-limit c = quotient_few c.args.limit c.args.count c.loop-place.place c.requires.limit c.loop-place-test.true

pub loop-place-preserved : goal.loop-place-preserved
loop-place-preserved c =
    turned_more c.args.level.now c.loop-place.place c.loop-place.numbers.items c.push.new.self.items c.turned_by_image.result c.loop-place.invariant
    c.in_ok-push.ensures.items (c.turned_by_image.ensures.number
    ∙ ap (λ m. image_number c.args.level.now (c.loop-place.place % m) (turn (pos (c.loop-place.place / m)))) c.requires.count)
