use Rattle.std.proofs.Common.{◌∷◌, ◌++◌, [], sym, ◌∙◌, ap}
use Rattle.host_workers.proofs.Lookups.{range_more}
use Rattle.host_workers.proofs.gathering.numbers_below.Goals as goal

pub loop-k-preserved : goal.loop-k-preserved
loop-k-preserved c =
    c.in_ok-push.ensures.items ∙ ap (λ ks. ks ++ c.loop-k.k ∷ []) c.loop-k.invariant ∙ sym (range_more c.loop-k.k)
