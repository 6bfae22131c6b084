use Rattle.std.proofs.Common.{rules, sym, ◌∙◌}
use Rattle.std.specs.List.{range_with_len}
use Rattle.field_table.specs.Table.{IsListed}
use Rattle.field_table.proofs.TableFacts.{listed_above_one}
use Rattle.linear_algebra.proofs.Support.{EndsBefore-InSpan}
use Rattle.linear_algebra.proofs.Vectors.{one-scale}
use Rattle.linear_algebra.specs.Dense.{dense_rows}
use Rattle.linear_algebra.specs.Vector.{EndsBefore}
use Rattle.dense_mat.specs.Matrix.{scalar}
use Rattle.dense_mat.proofs.Bases.{basis_of-set}
use Rattle.dense_mat.proofs.Composites.{apply-scalar}
use Rattle.dense_mat.proofs.Steps.{rows_end}
use Rattle.dense_mat.proofs.UnitVectors.{identity_echelon, identity_rows}
use Rattle.dense_mat.proofs.basis.whole_space.Goals as goal

pub basis_of-requires : goal.basis_of-requires
basis_of-requires c =
    let listed : IsListed c.args.field = search rules in
    rw (c.in_ok-scalar_columns.ensures, c.in_ok-places_below.ensures) (identity_echelon c.args.field c.args.width (listed_above_one c.args.field listed))

pub returns : goal.returns
returns c =
    let listed : IsListed c.args.field = search rules in
    let low = listed_above_one c.args.field listed in
    rw (c.basis_of.ensures, c.in_ok-scalar_columns.ensures) (basis_of-set c.args.field c.args.width (scalar c.args.width 1) (range_with_len 0 c.args.width)
    (EndsBefore c.args.width) (identity_echelon c.args.field c.args.width low)
    (λ v u. record { coefficients = v; is_combination = sym (apply-scalar c.args.field c.args.width 1 v u ∙ one-scale v) })
    (λ v u. EndsBefore-InSpan c.args.width (dense_rows c.args.field (scalar c.args.width 1)) v
    (rows_end c.args.field c.args.width (scalar c.args.width 1) (identity_rows c.args.field c.args.width low)) u))
