use Rattle.std.proofs.Common.{rules, ◌<◌}
use Rattle.std.proofs.lemmas.List.Sorted.{IsNonDecreasingBy-from_sort_by_key, All-permutation}
use Rattle.field_table.proofs.Gathering.{sparse-IsPermutation}
use Rattle.field_table.proofs.gather.order.Goals as goal

pub returns-clause-order : goal.returns-clause-order
returns-clause-order c = IsNonDecreasingBy-from_sort_by_key (λ t. t.0) _ c.sort_unstable_by_key.ensures.sorted (λ a r q k. search rules)

pub returns-clause-vector : goal.returns-clause-vector
returns-clause-vector c = sparse-IsPermutation c.args.field _ _ c.sort_unstable_by_key.ensures.permutation

pub returns-clause-residues : goal.returns-clause-residues
returns-clause-residues c = All-permutation (λ t. t.1 < c.args.field) _ _ c.sort_unstable_by_key.ensures.permutation c.requires
