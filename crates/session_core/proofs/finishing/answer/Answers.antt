use Rattle.std.proofs.Common.{◌≡◌, [], ◌∷◌, None, Some, length, refl, sym, ◌∙◌, ap, subst, IfOk}
use Rattle.quotient_coords.specs.Quotient.{Ground, dimension}
use Rattle.session_core.specs.Answers.{IsAnswer}
use Rattle.script_text.specs.declared.command.Command.TheVariants as commands
use Rattle.session_core.specs.Refusals.{coordinate_count}
use Rattle.session_core.specs.Terms.{first_unnamed, pair, symbol_terms, terms_of}
use Rattle.session_core.proofs.AnswerLemmas.{named_of, length_of}
use Rattle.session_core.proofs.finishing.answer.Goals as goal

pub returns-in-Normal-clause-answer : goal.returns-in-Normal-clause-answer
returns-in-Normal-clause-answer g c =
    let named : first_unnamed c.args.space.now.level (pair c.in-Normal.u c.in-Normal.v ∷ []) ≡ None =
    subst (λ (h : Ground). first_unnamed h.level (pair c.in-Normal.u c.in-Normal.v ∷ []) ≡ None) c.requires.ground
    (subst (λ command. first_unnamed c.args.prepared.now.ground.level (terms_of command) ≡ None) c.in-Normal.is
    (named_of c.args.prepared.now.ground c.args.prepared.now.version c.args.prepared.now.parts c.command.result.now c.command.ensures.unrefused)) in
    let terms : c.numbers-numbers.result.now ≡ symbol_terms c.args.space.now.level (pair c.in-Normal.u c.in-Normal.v ∷ []) =
    subst (λ (h : Ground). c.numbers-numbers.result.now ≡ symbol_terms h.level (pair c.in-Normal.u c.in-Normal.v ∷ [])) c.requires.ground
    (subst (λ command. c.numbers-numbers.result.now ≡ symbol_terms c.args.prepared.now.ground.level (terms_of command))
    (sym c.command.ensures.value ∙ c.in-Normal.is) c.numbers-numbers.ensures.terms) in
    subst (λ command. IsAnswer c.args.space.now c.args.prepared.now.version c.args.splitting.now command c.normal.result)
    (sym c.in-Normal.is ∙ c.command.ensures.value)
    (c.normal.ensures (pair c.in-Normal.u c.in-Normal.v) named terms)

pub returns-in-Basis-clause-answer : goal.returns-in-Basis-clause-answer
returns-in-Basis-clause-answer g c =
    subst (λ command. IfOk c.basis.result (IsAnswer c.args.space.now c.args.prepared.now.version c.args.splitting.now command))
    (sym c.in-Basis.is ∙ c.command.ensures.value)
    (c.basis.ensures c.args.prepared.now.version c.args.splitting.now)

pub returns-in-Chains-clause-answer : goal.returns-in-Chains-clause-answer
returns-in-Chains-clause-answer g c =
    subst (λ command. IfOk c.chains.result (IsAnswer c.args.space.now c.args.prepared.now.version c.args.splitting.now command))
    (sym c.in-Chains.is ∙ c.command.ensures.value)
    (c.chains.ensures c.args.space.now c.args.prepared.now.version c.args.splitting.now)

pub returns-in-Cusps-clause-answer : goal.returns-in-Cusps-clause-answer
returns-in-Cusps-clause-answer g c =
    subst (λ command. IfOk c.cusps.result (IsAnswer c.args.space.now c.args.prepared.now.version c.args.splitting.now command))
    (sym c.in-Cusps.is ∙ c.command.ensures.value)
    (c.cusps.ensures.reply c.args.space.now c.args.prepared.now.version c.args.splitting.now (sym c.level.ensures))

pub apply-requires-clause-length : goal.apply-requires-clause-length
apply-requires-clause-length g c =
    ap length c.as_slice.ensures
    ∙ length_of c.args.prepared.now.ground c.args.prepared.now.version c.args.prepared.now.parts c.command.result.now (length c.in-Apply.coords)
    c.command.ensures.unrefused (subst (λ command. coordinate_count command ≡ Some (length c.in-Apply.coords)) (sym c.in-Apply.is) refl)
    ∙ ap (λ (h : Ground). dimension h.level h.characteristic) c.requires.ground

pub poly-requires-clause-length : goal.poly-requires-clause-length
poly-requires-clause-length g c =
    ap length c.as_slice-in-Poly-2.ensures
    ∙ length_of c.args.prepared.now.ground c.args.prepared.now.version c.args.prepared.now.parts c.command.result.now (length c.in-Poly.coords)
    c.command.ensures.unrefused (subst (λ command. coordinate_count command ≡ Some (length c.in-Poly.coords)) (sym c.in-Poly.is) refl)
    ∙ ap (λ (h : Ground). dimension h.level h.characteristic) c.requires.ground

pub returns-in-Show-clause-answer : goal.returns-in-Show-clause-answer
returns-in-Show-clause-answer g c =
    subst (λ command. IfOk c.show.result (IsAnswer c.args.space.now c.args.prepared.now.version c.args.splitting.now command))
    (sym c.in-Show.is ∙ c.command.ensures.value)
    (subst (λ v. IfOk c.show.result (IsAnswer c.args.space.now v c.args.splitting.now commands.Show)) c.version.ensures
    (c.show.ensures c.args.space.now))

pub returns-in-Part-clause-answer : goal.returns-in-Part-clause-answer
returns-in-Part-clause-answer g c =
    subst (λ command. IfOk c.part.result (IsAnswer c.args.space.now c.args.prepared.now.version c.args.splitting.now command))
    (sym c.in-Part.is ∙ c.command.ensures.value)
    (c.part.ensures c.args.space.now c.args.prepared.now.version)
