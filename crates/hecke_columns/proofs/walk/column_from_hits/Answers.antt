use Rattle.std.proofs.Common.{◌≡◌, sym, ◌∙◌, ap, subst}
use Rattle.std.proofs.lemmas.Result.{IfOk-weaker}
use Rattle.heilbronn_sets.specs.Merel.{merel_matrices}
use Rattle.p1_normal.specs.Units.{gcd}
use Rattle.quotient_coords.specs.Quotient.{HasCoordinates}
use Rattle.hecke_columns.specs.Hecke.{IsColumn}
use Rattle.hecke_columns.proofs.Hits.{hits}
use Rattle.hecke_columns.specs.Steps.{matrices_of}
use Rattle.hecke_columns.proofs.StepSums.{IsColumn-from_hits, all_acting, all_invertible_after}
use Rattle.hecke_columns.proofs.walk.column_from_hits.Goals as goal

pub hits_of-requires-clause-acting : goal.hits_of-requires-clause-acting
hits_of-requires-clause-acting c = all_acting c.level.result.now c.args.steps.now c.as_slice.result.now
    (subst (λ N. gcd c.args.steps.now N ≡ 1) (sym c.level.ensures) c.requires.coprime) c.as_slice.ensures.steps

pub hits_of-requires-clause-invertible : goal.hits_of-requires-clause-invertible
hits_of-requires-clause-invertible c = all_invertible_after c.level.result.now c.args.steps.now c.as_slice.result.now
    (subst (λ N. gcd c.args.steps.now N ≡ 1) (sym c.level.ensures) c.requires.coprime) c.as_slice.ensures.steps

pub returns : goal.returns
returns c =
    let g = c.args.space.now in
    let ss = c.as_slice.result.now in
    let list : c.deref.result.now ≡ hits g.level (matrices_of ss) c.args.k = c.deref.ensures.value ∙ c.in_ok-hits.ensures.hits
    ∙ ap (λ N. hits N (matrices_of ss) c.args.k) c.level.ensures in
    IfOk-weaker c.coords_of_terms.result (HasCoordinates g c.deref.result.now) (IsColumn g (merel_matrices c.args.steps.now) c.args.k)
    (λ values h. IsColumn-from_hits g c.args.steps.now c.args.k ss c.deref.result.now values c.requires.place c.as_slice.ensures.steps list h)
    c.coords_of_terms.ensures
