use Rattle.worked_cases.proofs.level_eleven.has_row.Goals as goal

pub row-requires : goal.row-requires
row-requires c = c.is_pivot.ensures.0 c.if-is_pivot.true
