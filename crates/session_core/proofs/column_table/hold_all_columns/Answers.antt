use Rattle.std.proofs.Common.{◌+◌, ◌≤◌, length, arith, subst, ℕ}
use Rattle.indexmap.specs.IndexMap.{keys}
use Rattle.p1_normal.specs.Points.{symbols}
use Rattle.session_core.proofs.DemandLemmas.{number_added, number_held, Adds-of_range}
use Rattle.session_core.proofs.column_table.hold_all_columns.Goals as goal

pub returns-in_err-hold_column-clause-adds : goal.returns-in_err-hold_column-clause-adds
returns-in_err-hold_column-clause-adds c =
    let within : c.loop-k.k + 1 ≤ length (symbols c.args.space.now.level) = subst (λ (N : ℕ). c.loop-k.k + 1 ≤ length (symbols N))
    c.level.ensures (omega (arith, c.loop-k-test.true, c.count-k-end.ensures.count)) in
    Adds-of_range c.args.n (c.loop-k.k + 1) (length (symbols c.args.space.now.level)) (keys c.args.columns.now) (keys c.hold_column.new.columns)
    within
    (number_added c.args.n c.loop-k.k (keys c.args.columns.now) (keys c.loop-k.columns) (keys c.hold_column.new.columns) c.loop-k.invariant.adds
    c.hold_column.ensures.adds)

pub loop-k-preserved : goal.loop-k-preserved
loop-k-preserved c = record {
  columns = c.hold_column.ensures.columns;
  adds = number_added c.args.n c.loop-k.k (keys c.args.columns.now) (keys c.loop-k.columns) (keys c.hold_column.new.columns)
      c.loop-k.invariant.adds c.hold_column.ensures.adds;
  held = number_held c.args.n c.loop-k.k (keys c.loop-k.columns) (keys c.hold_column.new.columns) c.loop-k.invariant.held
      c.hold_column.ensures.adds c.in_ok-hold_column.ensures.held;
}
