use Rattle.std.proofs.Common.{arith, refl, ◌≡◌, ◌∙◌, take, length, subst, sym}
use Rattle.std.proofs.Math.Seq.{take-length}
use Rattle.field_table.specs.Residues.{HasResidues}
use Rattle.field_table.specs.Terms.{HasPlacesBelow}
use Rattle.linear_algebra.specs.Residue.{residue}
use Rattle.linear_algebra.specs.Sparse.{sparse, sparse_rows}
use Rattle.sparse_echelon.proofs.Selected.{selected_start, selected_more}
use Rattle.sparse_echelon.proofs.selection.plus_selected.Goals as goal

pub loop-term-init : goal.loop-term-init
loop-term-init c =
    let start : c.of-sum.result ≡ c.args.start.now = c.of-sum.ensures ∙ c.in_ok-from_slice.ensures.items in
    record {
      sum = rw start (selected_start (residue c.args.field c.args.factor) c.args.leads.now (sparse_rows c.args.field c.args.rows.now)
          (sparse c.args.field c.args.start.now));
      residues = subst (HasResidues c.args.field) (sym start) c.requires.start_residues;
      places = λ n below rows. subst (HasPlacesBelow n) (sym start) below;
    }

pub loop-term-preserved : goal.loop-term-preserved
loop-term-preserved c = record {
  sum = selected_more c.args.field (residue c.args.field c.args.factor) c.args.leads.now
      (sparse_rows c.args.field c.args.rows.now) c.args.selecting.now c.loop-term.term-index _ _
      (sparse c.args.field c.args.start.now) (sparse c.args.field c.loop-term.sum)
      (sparse c.args.field c.add_row_of.new.sum) c.loop-term-test.true refl refl c.loop-term.invariant.sum c.in_ok-add_row_of.ensures.sum;
  residues = c.in_ok-add_row_of.ensures.residues;
  places = λ n below rows. c.in_ok-add_row_of.ensures.places n (c.loop-term.invariant.places n below rows) rows;
}

pub returns-clause-sum : goal.returns-clause-sum
returns-clause-sum c =
    let whole : take c.loop-term.term-index c.args.selecting.now ≡ c.args.selecting.now = subst
    (λ n. take n c.args.selecting.now ≡ c.args.selecting.now) (let e : length c.args.selecting.now ≡ c.loop-term.term-index = omega arith in e)
    (take-length c.args.selecting.now) in
    rw whole at c.loop-term.invariant.sum
