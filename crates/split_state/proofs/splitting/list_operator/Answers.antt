use Rattle.std.proofs.Common.{◌≡◌, ◌++◌, ◌∷◌, [], subst, IsTrue}
use Rattle.split_state.specs.Step.{known, new}
use Rattle.split_state.proofs.splitting.list_operator.Goals as goal

pub returns-then-is_listed : goal.returns-then-is_listed
returns-then-is_listed c = known (rw c.deref.ensures.value at (c.is_listed.ensures.0 c.if-is_listed.true))

pub returns : goal.returns
returns c =
    let names : c.push-2.new.self.items ≡ c.args.names.now.items ++ (c.args.op ∷ []) = c.in_ok-push-2.ensures.items in
    let matrices : c.push.new.self.items ≡ c.args.matrices.now.items ++ (c.args.mat.now ∷ []) =
    subst (λ m. c.push.new.self.items ≡ c.args.matrices.now.items ++ (m ∷ [])) c.in_ok-copy.ensures c.in_ok-push.ensures.items in
    rw (names, matrices) (new (λ h. let t : IsTrue c.is_listed.result = c.is_listed.ensures.1 (rw c.deref.ensures.value h) in absurd cc))
