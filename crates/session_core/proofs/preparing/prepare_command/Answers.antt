use Rattle.std.proofs.Common.{◌≡◌, sym, ◌∙◌, subst, rules}
use Rattle.quotient_coords.specs.Quotient.{Ground, ground_of}
use Rattle.session_core.specs.Prepared.{IsPrepared}
use Rattle.session_core.proofs.PreparingLemmas.{unrefused_of}
use Rattle.session_core.proofs.preparing.prepare_command.Goals as goal

pub invariant_of-result : goal.invariant_of-result
invariant_of-result c =
    let level : c.modulus.result ≡ c.args.space.now.level = c.modulus.ensures.modulus ∙ c.level-in-Ok-demand_of.ensures in
    let characteristic : c.characteristic.result ≡ c.args.space.now.characteristic = c.characteristic.ensures.value ∙ c.field.ensures in
    let same : ground_of c.modulus.result c.characteristic.result ≡ c.args.space.now = λ i. ground_of (level i) (characteristic i) in
    subst (λ (g : Ground). IsPrepared g c.args.version c.args.parts c.args.command c.in-Ok.numbers.items c.in-Ok-demand_of.demand) (sym same)
    (record {
      within = c.requires.within;
      unrefused = unrefused_of c.args.space.now c.args.version c.args.parts c.args.command (search rules) (search rules) (search rules)
          (search rules) (search rules);
      terms = search rules;
      places = search rules;
      demand_is = search rules;
      columns = search rules;
    })
