use Rattle.std.proofs.Common.{ℕ, ◌+◌, List, drop}
use Rattle.hecke_columns.specs.Walks.{walk_number}
use Rattle.turn_board.specs.Passes.{Continues, view}
use Rattle.session_core.specs.Demands.{symbol_pairs}
use Rattle.host_workers.specs.Lookups.{IsLookup}
use Rattle.host_workers.specs.Sessions.{Flies, MayFly}
use Rattle.host_workers.proofs.gathering.await_columns.Given as goal

abbrev pub invariant-loop-symbol : goal.invariant-loop-symbol
invariant-loop-symbol g l = record {
  later : Continues l.fn.pass l.pass;
  may : MayFly l.flights l.space l.pass;
  flies : Flies (symbol_pairs (walk_number l.walk) l.missing) ((view l.fn.pass).number + 1) (view l.fn.pass).seen (view l.pass).seen;
  lookup : (given : List ℕ) → IsLookup l.space (walk_number l.walk) (view l.fn.pass).seen given l.fn.found.items l.missing
      → IsLookup l.space (walk_number l.walk) (view l.pass).seen given l.found.items (drop l.symbol-index l.missing);
}
