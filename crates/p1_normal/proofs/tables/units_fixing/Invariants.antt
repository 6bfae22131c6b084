use Rattle.std.proofs.Common.{◌≡◌, ◌*◌, ◌%◌, nat_eq, take}
use Rattle.std.specs.Prelude.{filter}
use Rattle.p1_normal.proofs.tables.units_fixing.Given as goal

abbrev pub invariant-loop-s : goal.invariant-loop-s
invariant-loop-s l = l.list.items ≡ filter (λ s. nat_eq ((s * l.u) % l.n) l.u) (take l.s-index l.multipliers)
