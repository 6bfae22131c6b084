use Rattle.turn_board.proofs.PassLemmas.{idle_all}
use Rattle.thread_cases.proofs.boards.close_eight.Goals as goal

pub close-requires-clause-all : goal.close-requires-clause-all
close-requires-clause-all c = idle_all c.args.board 8 c.args.passes.items c.requires.count c.requires.idle
