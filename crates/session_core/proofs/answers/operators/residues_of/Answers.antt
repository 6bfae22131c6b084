use Rattle.std.proofs.Common.{◌≡◌, ◌<◌, ◌++◌, ◌∷◌, [], map, take, get_or, pos, rules, sym, ap, ◌∙◌}
use Rattle.std.proofs.lemmas.List.{map_more}
use Rattle.linear_algebra.specs.Integers.{residue_of}
use Rattle.op_polynomials.proofs.PaddingLemmas.{All-next}
use Rattle.session_core.proofs.answers.operators.residues_of.Goals as goal

pub loop-number-preserved : goal.loop-number-preserved
loop-number-preserved c =
    let pushed : c.push.new.self.items ≡ c.loop-number.residues.items ++ c.residue.result ∷ [] = c.in_ok-push.ensures.items in
    let value : c.residue.result ≡ residue_of c.args.field (get_or c.args.numbers.now c.loop-number.number-index (pos 0)) = search rules in
    record {
      numbers = pushed
          ∙ ap (λ xs. xs ++ c.residue.result ∷ []) c.loop-number.invariant.numbers
          ∙ ap (λ r. map (residue_of c.args.field) (take c.loop-number.number-index c.args.numbers.now) ++ r ∷ []) value
          ∙ sym (map_more (residue_of c.args.field) c.args.numbers.now c.loop-number.number-index (pos 0) c.loop-number-test.true);
      residues = All-next (λ x. x < c.args.field) (residue_of c.args.field) c.args.numbers.now c.loop-number.number-index c.residue.result
          (pos 0) c.loop-number-test.true value c.loop-number.invariant.residues c.residue.ensures.below;
    }
