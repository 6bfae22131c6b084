use Rattle.field_table.proofs.Renumbering.{IsRenumbered}
use Rattle.quotient_coords.proofs.coordinates.negated.Given as goal

-- the terms so far are renumbered
abbrev pub invariant-loop-term : goal.invariant-loop-term
invariant-loop-term l = IsRenumbered l.field l.free.places l.terms l.term-index l.negated.items
