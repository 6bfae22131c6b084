use Rattle.std.proofs.Common.{rules, arith, ◌<◌, [], length, sym, ap, get_or, ◌∙◌}
use Rattle.std.proofs.lemmas.List.{get_or_default}
use Rattle.field_table.proofs.TableFacts.{listed_small}
use Rattle.field_table.specs.Table.{IsListed}
use Rattle.linear_algebra.specs.Dense.{dense}
use Rattle.linear_algebra.proofs.DenseLaws.{dense_at}
use Rattle.linear_algebra.proofs.Reducing.{remainder_none}
use Rattle.dense_mat.specs.Echelon.{lead}
use Rattle.dense_mat.proofs.Clearing.{remainder_step}
use Rattle.dense_mat.proofs.Steps.{length-dense_rows}
use Rattle.dense_mat.proofs.Summing.{first_room}
use Rattle.dense_mat.proofs.elimination.take_away.Goals as goal

pub loop-j-init : goal.loop-j-init
loop-j-init c =
    let positive : 0 < c.args.field = search rules in
    let listed : IsListed c.args.field = search rules in
    record {
      remainder = ap (dense c.args.field) c.requires.sums ∙ sym (remainder_none positive (lead c.args.leads.now)
          (dense c.args.field c.args.numbers.now));
      room = rw c.requires.sums (first_room c.args.field c.args.numbers.now (listed_small c.args.field listed) c.requires.residues);
      length = ap length c.requires.sums;
    }

pub loop-j-preserved : goal.loop-j-preserved
loop-j-preserved c =
    let positive : 0 < c.args.field = search rules in
    record {
      remainder = remainder_step c.args.field positive c.args.rows.now (lead c.args.leads.now) (dense c.args.field c.args.numbers.now)
          (dense c.args.field c.loop-j.sums) (dense c.args.field c.add.new.sums) c.loop-j.j c.as_slice.result.now
          (get_or c.args.numbers.now (lead c.args.leads.now c.loop-j.j) 0) c.neg.result
          c.loop-j-test.true (omega (arith, c.loop-j-test.true, length-dense_rows c.args.field c.args.rows.now))
          (c.as_slice.ensures ∙ c.index-rows-j.is ∙ get_or_default c.args.rows.now c.loop-j.j c.index-rows-j.result [] c.loop-j-test.true)
          (sym (dense_at c.args.field c.args.numbers.now (lead c.args.leads.now c.loop-j.j))) c.neg.ensures.residue c.loop-j.invariant.remainder
          c.add.ensures.sum;
      room = c.add.ensures.room;
      length = c.add.auto.sums ∙ c.loop-j.invariant.length;
    }
