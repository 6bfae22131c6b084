use Rattle.board_bench.specs.Ready.{IsReady}
use Rattle.board_bench.proofs.turns.add_often.Given as goal

abbrev pub invariant-loop : goal.invariant-loop
invariant-loop g l = IsReady l.board l.pass
