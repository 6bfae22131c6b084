use Rattle.std.proofs.Common.{rules, arith, ◌<◌, List, [], length, get_or, IsTrue, refl, sym, ap, subst, ◌∙◌}
use Rattle.std.proofs.lemmas.List.{get_or_default}
use Rattle.std.proofs.Math.Decide.{ℕ_discrete}
use Rattle.linear_algebra.specs.Dense.{dense, dense_rows}
use Rattle.linear_algebra.specs.Span.{InSpan, Each}
use Rattle.linear_algebra.specs.Vector.{Vector}
use Rattle.linear_algebra.proofs.DenseLaws.{row-dense_rows}
use Rattle.linear_algebra.proofs.Spans.{Each-rows, InSpan-trans}
use Rattle.stable_subspaces.specs.Operator.{apply}
use Rattle.dense_mat.proofs.Steps.{length-dense_rows}
use Rattle.splitting_cases.proofs.fitting.is_stable.Goals as goal

pub loop-i-preserved : goal.loop-i-preserved
loop-i-preserved c =
    let part : List (Vector c.args.field) = dense_rows c.args.field c.args.part.now.rows in
    let inside : IsTrue c.in_ok-contains.field-0 = c.if-not-branch.false in
    let here : InSpan part (dense c.args.field (get_or c.rows-rows.result.now c.loop-i.i [])) =
    subst (λ r. InSpan part (dense c.args.field r)) (c.as_slice.ensures ∙ c.index-rows-i.is ∙ get_or_default c.rows-rows.result.now c.loop-i.i c.index-rows-i.result [] c.loop-i-test.true)
    (c.in_ok-contains.ensures.0 inside) in
    record {
      inside = λ j l. elim (ℕ_discrete j c.loop-i.i) [
        | yes same ↦ subst (λ n. InSpan part (dense c.args.field (get_or c.rows-rows.result.now n []))) (sym same) here
        | no other ↦ c.loop-i.invariant.inside j (omega arith)
      ];
    }

pub returns : goal.returns
returns c = λ _.
    let part : List (Vector c.args.field) = dense_rows c.args.field c.args.part.now.rows in
    let image : List (Vector c.args.field) = dense_rows c.args.field c.in_ok-image.image.rows in
    let same = c.rows-rows.ensures.rows in
    let each : Each (InSpan part) image = Each-rows (InSpan part) image (λ j l.
    let u : j < length c.in_ok-image.image.rows = omega (arith, length-dense_rows c.args.field c.in_ok-image.image.rows) in
    subst (InSpan part) (sym (row-dense_rows c.args.field c.in_ok-image.image.rows j u))
    (subst (λ rows. InSpan part (dense c.args.field (get_or rows j []))) same
    (c.loop-i.invariant.inside j (omega (arith, u, ap length same, c.loop-i-test.false, c.loop-i.auto.i-end))))) in
    record {
      stays = λ v h. InSpan-trans part image (apply (dense_rows c.args.field c.args.mat.now) v) each
          (c.in_ok-image.ensures.all (apply (dense_rows c.args.field c.args.mat.now) v) (record { source = v; inside = h; is_value = refl }));
    }
