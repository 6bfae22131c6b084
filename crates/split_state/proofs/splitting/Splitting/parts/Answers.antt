use Rattle.std.proofs.Common.{rules, ◌≡◌, ◌≤◌, List, length, sym, subst}
use Rattle.dense_mat.specs.Subspace.{Subspace}
use Rattle.split_state.specs.Decomposition.{IsSplitting}
use Rattle.split_state.proofs.Counting.{parts_are_few}
use Rattle.split_state.proofs.splitting.Splitting.parts.Goals as goal

pub returns-clause-few : goal.returns-clause-few
returns-clause-few c =
    let same : c.deref.result.now ≡ c.args.self.now.parts = search rules in
    let splits : IsSplitting c.args.self.now = search rules in
    subst (λ (parts : List Subspace). length parts ≤ c.args.self.now.dim) (sym same) (parts_are_few c.args.self.now splits)
