use Rattle.std.proofs.Common.{arith, ◌<◌, length, refl, sym, ◌∙◌}
use Rattle.linear_algebra.specs.Dense.{dense}
use Rattle.linear_algebra.proofs.Vectors.{plus-zeros}
use Rattle.dense_mat.proofs.Blocks.{image_more}
use Rattle.dense_mat.proofs.multiplication.add_image.Goals as goal

pub loop-j-init : goal.loop-j-init
loop-j-init c = record { sum = sym (plus-zeros (dense c.args.field c.args.sums.now)); room = c.requires.room; length = c.requires.lengths }

pub loop-j-preserved : goal.loop-j-preserved
loop-j-preserved c =
    let within : c.loop-j.j < length c.args.mat.now = omega (arith, c.loop-j-test.true, c.size-j-end.ensures, c.loop-j.auto.j-end) in
    record {
      sum = image_more c.args.field c.args.mat.now c.args.v.now (dense c.args.field c.args.sums.now) (dense c.args.field c.loop-j.sums)
          (dense c.args.field c.add.new.sums) c.loop-j.j _ _ within refl c.column.ensures.numbers c.loop-j.invariant.sum c.add.ensures.sum;
      room = c.add.ensures.room;
      length = c.add.auto.sums ∙ c.loop-j.invariant.length;
    }
