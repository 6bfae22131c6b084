use Rattle.std.proofs.Common.{ℕ, length, ap, ◌∙◌}
use Rattle.p1_normal.specs.Points.{symbols}
use Rattle.host_workers.proofs.Lookups.{range_below, serves_all}
use Rattle.host_workers.proofs.gathering.gathered.Goals as goal

pub gathered_symbols-requires-in-All-clause-places :
    goal.gathered_symbols-requires-in-All-clause-places
gathered_symbols-requires-in-All-clause-places g c κs within =
    range_below c.count.result (length (symbols c.args.space.now.level)) c.deref.result.now
    (c.deref.ensures.value ∙ c.in_ok-symbols-in-All.ensures) (c.count.ensures.count ∙ ap (λ (N : ℕ). length (symbols N)) c.level.ensures)

pub returns-in_ok-symbols-in-All-clause-serves : goal.returns-in_ok-symbols-in-All-clause-serves
returns-in_ok-symbols-in-All-clause-serves g c =
    serves_all c.gathered_symbols-in-All.result _ _ _ c.args.space.now c.in-All.n c.count.result c.deref.result.now c.args.demand.now
    (c.deref.ensures.value ∙ c.in_ok-symbols-in-All.ensures) (c.count.ensures.count ∙ ap (λ (N : ℕ). length (symbols N)) c.level.ensures) c.in-All.is c.gathered_symbols-in-All.ensures.serves
