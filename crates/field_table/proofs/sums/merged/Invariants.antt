use Rattle.std.proofs.Common.{length, ◌-◌, ◌+◌, ◌<◌, ◌≤◌}
use Rattle.field_table.proofs.Merging.{IsMerged}
use Rattle.field_table.proofs.sums.merged.Given as goal

-- the first i terms of x and c times the first j of y are merged
abbrev pub invariant-both : goal.invariant-both
invariant-both l = IsMerged l.field l.c l.x l.y l.i l.j l.sum.items

abbrev pub decreases-both : goal.decreases-both
decreases-both l = (length l.x - l.i) + (length l.y - l.j)

abbrev pub invariant-left : goal.invariant-left
invariant-left l = record { merged : IsMerged l.field l.c l.x l.y l.i l.j l.sum.items; last : l.i < length l.x → length l.y ≤ l.j }

abbrev pub decreases-left : goal.decreases-left
decreases-left l = length l.x - l.i

abbrev pub invariant-right : goal.invariant-right
invariant-right l = record { merged : IsMerged l.field l.c l.x l.y l.i l.j l.sum.items; last : length l.x ≤ l.i }

abbrev pub decreases-right : goal.decreases-right
decreases-right l = length l.y - l.j
