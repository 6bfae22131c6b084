use Rattle.std.proofs.Common.{◌<◌, ◌≤◌, ℕ}
use Rattle.p1_normal.specs.Tables.{IsHead}
use Rattle.p1_normal.proofs.tables.heads_end.Given as goal

-- the heads below u are below the end
abbrev pub invariant-loop-u : goal.invariant-loop-u
invariant-loop-u l = record {
  heads : (h : ℕ) → h < l.u → IsHead l.n h → h < l.end;
  within : l.end ≤ l.u;
}
