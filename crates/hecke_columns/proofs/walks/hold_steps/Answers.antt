use Rattle.std.proofs.Common.{◌≡◌, ◌++◌, ◌∷◌, [], ℕ, sym, ◌∙◌, subst, nat_eq, rules}
use Rattle.std.proofs.lemmas.List.Elements.{All-push}
use Rattle.indexmap.specs.IndexMap.{get}
use Rattle.indexmap.proofs.CallerLemmas.{insert_entry-new}
use Rattle.hecke_columns.specs.Held.{AreHeldSteps}
use Rattle.hecke_columns.proofs.HeldLemmas.{none_is}
use Rattle.hecke_columns.proofs.walks.hold_steps.Goals as goal

pub returns-in_ok-insert : goal.returns-in_ok-insert
returns-in_ok-insert c =
    let entries : c.insert.new.self.entries ≡ c.args.steps.now.entries ++ (c.args.n, c.in_ok-walked.walked) ∷ [] = c.in_ok-insert.ensures.entries ∙
    insert_entry-new nat_eq c.args.steps.now c.args.n c.in_ok-walked.walked (none_is (get nat_eq c.args.steps.now c.args.n) (search rules)) in
    record {
      held = subst AreHeldSteps (sym entries) (All-push (λ (e : ℕ × ℕ). e.1 ≡ e.0) c.args.steps.now.entries (c.args.n, c.in_ok-walked.walked)
          c.requires.held c.in_ok-walked.ensures.determinant);
    }
