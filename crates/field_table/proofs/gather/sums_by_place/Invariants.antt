use Rattle.std.proofs.Common.{◌-◌, length}
use Rattle.field_table.proofs.Gathering.{IsGathered}
use Rattle.field_table.proofs.gather.sums_by_place.Given as goal

abbrev pub invariant-loop-start : goal.invariant-loop-start
invariant-loop-start l = IsGathered l.field l.terms l.start l.gathered.items

abbrev pub decreases-loop-start : goal.decreases-loop-start
decreases-loop-start l = length l.terms - l.start
