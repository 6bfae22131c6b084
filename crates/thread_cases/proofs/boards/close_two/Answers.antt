use Rattle.turn_board.proofs.PassLemmas.{numbered}
use Rattle.std.proofs.Common.{sym, subst, ap, ◌∙◌, [], ◌∷◌, ◌++◌}
use Rattle.turn_board.specs.Passes.{AreAll}
use Rattle.thread_cases.proofs.boards.close_two.Goals as goal

pub close-requires-clause-all : goal.close-requires-clause-all
close-requires-clause-all c = subst (AreAll c.args.board)
    (sym (c.push_reserved-2.ensures.items ∙ ap (λ l. l ++ c.args.second ∷ []) (c.push_reserved.ensures.items
    ∙ ap (λ l. l ++ c.args.first ∷ []) c.in_ok-passes.ensures.items)))
    (numbered c.args.board 2 (c.args.first ∷ c.args.second ∷ []) c.requires.count (c.requires.numbers.0, (c.requires.numbers.1, tt)))
