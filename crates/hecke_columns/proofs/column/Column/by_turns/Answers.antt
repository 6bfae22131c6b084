use Rattle.std.proofs.Common.{sym, ◌∙◌, ap}
use Rattle.heilbronn_sets.specs.Merel.{merel_matrices}
use Rattle.hecke_columns.proofs.Columns.{IsColumn-same}
use Rattle.hecke_columns.proofs.column.Column.by_turns.Goals as goal

pub invariant_of-result : goal.invariant_of-result
invariant_of-result c = IsColumn-same (sym (c.modulus.ensures.modulus ∙ c.level.ensures)) (sym (c.characteristic.ensures.value ∙ c.field.ensures))
    (ap merel_matrices (sym c.n.ensures)) c.args.k c.in_ok-coords.coords c.in_ok-coords.ensures

pub returns-clause-column : goal.returns-clause-column
returns-clause-column c = invariant_of-result c
