use Rattle.std.proofs.Common.{◌≡◌, ◌<◌, ◌≤◌, ◌-◌, length, take}
use Rattle.linear_algebra.specs.Sparse.{sparse, single}
use Rattle.linear_algebra.specs.Vector.{◌⊞◌}
use Rattle.field_table.specs.Terms.{place_at}
use Rattle.field_table.proofs.gather.run_from.Given as goal

-- the sum is that of the terms from `start` to before `end`
abbrev pub invariant-loop-end : goal.invariant-loop-end
invariant-loop-end l = record {
  after : l.start < l.end;
  within : l.end ≤ length l.terms;
  sum : sparse l.field (take l.end l.terms) ≡ sparse l.field (take l.start l.terms) ⊞ single l.field (place_at l.terms l.start) l.sum;
  below : l.sum < l.field;
}

abbrev pub decreases-loop-end : goal.decreases-loop-end
decreases-loop-end l = length l.terms - l.end
