use Rattle.std.proofs.Common.{sym, subst, ap, ◌∙◌, [], ◌∷◌, ◌++◌}
use Rattle.turn_board.specs.Passes.{AreAll}
use Rattle.turn_board.proofs.PassLemmas.{idle_all}
use Rattle.column_flight.specs.Shared.{board_of}
use Rattle.host_cases.proofs.runs.session.published.Goals as goal

pub close-requires-clause-all : goal.close-requires-clause-all
close-requires-clause-all c = subst (AreAll (board_of c.args.flights))
    (sym (c.push_reserved.ensures.items ∙ ap (λ l. l ++ c.args.pass ∷ []) c.in_ok-passes.ensures.items))
    (idle_all (board_of c.args.flights) 1 (c.args.pass ∷ []) c.requires.count (c.requires.pass, tt))
