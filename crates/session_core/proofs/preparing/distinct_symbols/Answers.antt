use Rattle.std.proofs.Common.{subst}
use Rattle.std.specs.List.Sorted.{IsPermutation}
use Rattle.session_core.proofs.PreparingLemmas.{distinct_of}
use Rattle.session_core.proofs.preparing.distinct_symbols.Goals as goal

pub returns : goal.returns
returns c =
    distinct_of _ c.sort_unstable.new.self.items c.dedup.new.self.items
    (subst (λ xs. IsPermutation xs c.sort_unstable.new.self.items) c.in_ok-symbols.ensures c.sort_unstable.ensures.permutation)
    c.sort_unstable.ensures.sorted c.dedup.ensures.filtered
