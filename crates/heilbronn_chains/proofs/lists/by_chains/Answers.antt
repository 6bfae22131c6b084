use Rattle.std.proofs.Common.{rules, ◌+◌, arith}
use Rattle.std.specs.List.Sorted.{IsNonDecreasingBy}
use Rattle.std.proofs.lemmas.List.Sorted.{IsNonDecreasingBy-from_sort_by_key}
use Rattle.p1_normal.specs.declared.matrix.TheConstants.{MAX_DET}
use Rattle.heilbronn_chains.specs.Order.{rank}
use Rattle.heilbronn_chains.proofs.ChainLists.{joined_is_merel}
use Rattle.heilbronn_chains.proofs.lists.by_chains.Goals as goal

pub returns : goal.returns
returns c =
    let s = c.sort_unstable_by_key.ensures in
    let ms = c.sort_unstable_by_key.new.self.items in
    let order : IsNonDecreasingBy (rank (MAX_DET + 1)) ms = IsNonDecreasingBy-from_sort_by_key (rank (MAX_DET + 1)) ms s.sorted
    (λ a r q k. search rules) in
    record {
      items = joined_is_merel c.args.n (MAX_DET + 1) c.in_ok-list.list.items ms c.requires.some
          (omega arith) c.in_ok-list.ensures.chains s.permutation order;
    }
