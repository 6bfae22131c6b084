use Rattle.std.proofs.Common.{◌+◌, ◌∙◌, sym, ap, get_or}
use Rattle.heilbronn_sets.specs.Sets.{matrix_fault}
use Rattle.heilbronn_sets.proofs.Faults.{zero_matrix, fit_more, list_fault-none, list_fault-some}
use Rattle.heilbronn_sets.proofs.matrix_set.first_fault.Goals as goal

pub returns-in-Some : goal.returns-in-Some
returns-in-Some c =
    let i = c.loop-matrix.matrix-index in
    sym (list_fault-some c.args.det c.args.list.now i c.in-Some.fault c.loop-matrix.invariant.fit c.loop-matrix-test.true
    (ap (matrix_fault c.args.det (get_or c.args.list.now i zero_matrix)) (sym c.loop-matrix.invariant.place) ∙ sym c.in-Some.ensures))

pub loop-matrix-preserved : goal.loop-matrix-preserved
loop-matrix-preserved c =
    let i = c.loop-matrix.matrix-index in
    record {
      place = ap (λ k. k + 1) c.loop-matrix.invariant.place;
      fit = fit_more c.args.det c.args.list.now i c.loop-matrix.invariant.fit
          (ap (matrix_fault c.args.det (get_or c.args.list.now i zero_matrix)) (sym c.loop-matrix.invariant.place) ∙ sym c.in_default.ensures);
    }

pub returns : goal.returns
returns c = sym (list_fault-none c.args.det c.args.list.now c.loop-matrix.matrix-index c.loop-matrix-test.false c.loop-matrix.invariant.fit)
