use Rattle.std.proofs.Common.{arith, refl, ◌≡◌, ◌∙◌, take, length, subst}
use Rattle.std.proofs.Math.Seq.{take-length}
use Rattle.linear_algebra.specs.Residue.{residue}
use Rattle.linear_algebra.specs.Dense.{dense}
use Rattle.linear_algebra.specs.Sparse.{sparse_rows}
use Rattle.sparse_echelon.proofs.Selected.{selected_start, selected_more}
use Rattle.sparse_echelon.proofs.spreading.spread_selected.Goals as goal

pub loop-term-init : goal.loop-term-init
loop-term-init c = record {
  sum = selected_start (residue c.args.field c.args.factor) c.args.leads.now (sparse_rows c.args.field c.args.rows.now)
      (dense c.args.field c.args.acc.now);
  residues = c.requires.residues;
  width = refl;
}

pub loop-term-preserved : goal.loop-term-preserved
loop-term-preserved c = record {
  sum = selected_more c.args.field (residue c.args.field c.args.factor) c.args.leads.now
      (sparse_rows c.args.field c.args.rows.now) c.args.selecting.now c.loop-term.term-index _ _
      (dense c.args.field c.args.acc.now) (dense c.args.field c.loop-term.acc)
      (dense c.args.field c.spread_row_of.new.acc) c.loop-term-test.true refl refl c.loop-term.invariant.sum c.spread_row_of.ensures.sum;
  residues = c.spread_row_of.ensures.residues;
  width = c.spread_row_of.auto.acc ∙ c.loop-term.invariant.width;
}

pub returns-clause-sum : goal.returns-clause-sum
returns-clause-sum c =
    let whole : take c.loop-term.term-index c.args.selecting.now ≡ c.args.selecting.now = subst
    (λ n. take n c.args.selecting.now ≡ c.args.selecting.now) (let e : length c.args.selecting.now ≡ c.loop-term.term-index = omega arith in e)
    (take-length c.args.selecting.now) in
    rw whole at c.loop-term.invariant.sum
