use Rattle.std.proofs.Common.{◌≡◌, length, replicate, sym, ◌∙◌, ap, subst, arith, rules}
use Rattle.std.proofs.lemmas.List.{with_items_is}
use Rattle.std.proofs.lemmas.Result.{IfOk-weaker}
use Rattle.linear_algebra.specs.Dense.{dense}
use Rattle.p1_normal.specs.Units.{gcd}
use Rattle.heilbronn_sets.specs.Merel.{merel_matrices}
use Rattle.quotient_coords.specs.Quotient.{AreCoordinates}
use Rattle.hecke_columns.specs.Hecke.{IsColumn}
use Rattle.hecke_columns.proofs.StepSums.{IsColumn-from_steps, all_acting, all_invertible_after}
use Rattle.hecke_columns.proofs.walk.column_from_counts.Goals as goal

pub add_steps-requires-clause-acting : goal.add_steps-requires-clause-acting
add_steps-requires-clause-acting c = all_acting c.level-level.result.now c.args.steps.now c.as_slice.result.now
    (subst (λ N. gcd c.args.steps.now N ≡ 1) (sym c.level-level.ensures) c.requires.coprime) c.as_slice.ensures.steps

pub add_steps-requires-clause-invertible : goal.add_steps-requires-clause-invertible
add_steps-requires-clause-invertible c = all_invertible_after c.level-level.result.now c.args.steps.now c.as_slice.result.now
    (subst (λ N. gcd c.args.steps.now N ≡ 1) (sym c.level-level.ensures) c.requires.coprime) c.as_slice.ensures.steps

pub returns : goal.returns
returns c =
    let p = c.args.space.now.characteristic in
    let left : c.deref.result.now ≡ c.add_steps.new.counts = c.deref.ensures.value
    ∙ with_items_is c.in_ok-counts.counts c.add_steps.new.counts (omega
    (arith, c.in_ok-counts.counts.ok.0, c.add_steps.auto.counts, ap (λ xs. length xs) c.deref_mut.ensures.value)) in
    let start : c.deref_mut.result.now ≡ replicate c.count.result 0 = c.deref_mut.ensures.value
    ∙ c.in_ok-counts.ensures.items_if_clones_equal (search rules) in
    IfOk-weaker c.coords_of_counts.result (AreCoordinates c.args.space.now.level (dense p c.deref.result.now))
    (IsColumn c.args.space.now (merel_matrices c.args.steps.now) c.args.k)
    (λ values h. IsColumn-from_steps c.args.space.now c.args.steps.now c.args.k c.count.result c.as_slice.result.now c.add_steps.new.counts
    values c.requires.place c.as_slice.ensures.steps
    (rw (start, c.field.ensures, c.level-level.ensures) at c.add_steps.ensures.sum)
    (subst (λ xs. AreCoordinates c.args.space.now.level (dense p xs) values) left h))
    c.coords_of_counts.ensures
