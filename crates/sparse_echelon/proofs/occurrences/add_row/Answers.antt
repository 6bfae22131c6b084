use Rattle.std.proofs.Common.{◌≡◌, ◌<◌, ◌+◌, ◌-◌, ℕ, [], length, get_or, set, subst, sym, ◌∙◌, arith, length-set}
use Rattle.std.proofs.Math.Decide.{ℕ_discrete}
use Rattle.std.proofs.lemmas.List.Elements.{All-get_or}
use Rattle.std.specs.List.{Contains}
use Rattle.field_table.specs.Terms.{place_at}
use Rattle.sparse_echelon.proofs.Occurring.{added_here, added_grows, added_below}
use Rattle.sparse_echelon.proofs.occurrences.add_row.Goals as goal

pub loop-i-preserved : goal.loop-i-preserved
loop-i-preserved c =
    let i : ℕ = c.loop-i.i in
    let k : ℕ = place_at c.args.terms.now (i - 1) in
    let within : k < length c.loop-i.occurrences = subst (λ n. k < n) (sym c.loop-i.invariant.many)
    (All-get_or (λ t. t.0 < length c.args.occurrences.now) c.args.terms.now (i - 1) (0, 0) (omega arith) c.requires.places) in
    record {
      added = λ q l. elim (ℕ_discrete (q + 1) i) [
        | yes last ↦ subst (λ m. Contains (get_or (set c.loop-i.occurrences k c.push.new.self) (place_at c.args.terms.now m) []) c.args.number)
            (let e : i - 1 ≡ q = omega arith in e)
            (added_here c.loop-i.occurrences k c.args.number _ c.push.new.self within c.in_ok-push.ensures)
        | no before ↦ added_grows c.loop-i.occurrences k c.args.number _ c.push.new.self within c.in_ok-push.ensures _ _
            (c.loop-i.invariant.added q (omega arith))
      ];
      grows = λ q j h. added_grows c.loop-i.occurrences k c.args.number _ c.push.new.self within c.in_ok-push.ensures q j
          (c.loop-i.invariant.grows q j h);
      below = λ n l h. added_below c.loop-i.occurrences k c.args.number _ c.push.new.self within c.in_ok-push.ensures n l
          (c.loop-i.invariant.below n l h);
      many = length-set c.loop-i.occurrences k c.push.new.self ∙ c.loop-i.invariant.many;
    }
