use Rattle.std.proofs.Common.{arith, ◌+◌, ◌*◌, ◌%◌}
use Rattle.field_table.specs.declared.table.TheConstants.{CHARACTERISTIC_LIMIT}
use Rattle.field_table.specs.declared.products.TheConstants.{STRETCH}
use Rattle.dense_mat.proofs.accumulation.add.Goals as goal

pub make_room-requires : goal.make_room-requires
make_room-requires c = record {
  room = λ k d l.
      let grown = c.add_multiple.ensures.growth ((c.args.number % STRETCH + 1) * (CHARACTERISTIC_LIMIT * CHARACTERISTIC_LIMIT)) c.requires.room k d l in
      omega (arith, grown);
}
