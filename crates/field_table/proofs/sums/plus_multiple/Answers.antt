use Rattle.std.proofs.Common.{sym, subst}
use Rattle.field_table.specs.Terms.{HasPlacesBelow}
use Rattle.field_table.proofs.Merging.{HasPlacesBelow-sum}
use Rattle.field_table.proofs.sums.plus_multiple.Goals as goal

pub returns-clause-places : goal.returns-clause-places
returns-clause-places c n left right = subst (HasPlacesBelow n) (sym c.of.ensures)
    (HasPlacesBelow-sum c.args.field c.args.c n c.args.x.now c.args.y.now _ c.in_ok-merged.ensures.sum c.in_ok-merged.ensures.combo
    c.in_ok-merged.ensures.residues left right)
