use Rattle.std.proofs.Common.{sym, subst, take, ◌++◌, ◌∷◌, []}
use Rattle.std.specs.Arc.{arc_value}
use Rattle.split_state.specs.Versions.{IsVersion}
use Rattle.turn_board.specs.Passes.{state_of}
use Rattle.split_versions.specs.Histories.{VersionHistory}
use Rattle.split_versions.proofs.TurnLemmas.{version_in_turn}
use Rattle.split_versions.proofs.versions.Versions.commit.Goals as goal

pub commit-answer-requires-clause-next : goal.commit-answer-requires-clause-next
commit-answer-requires-clause-next g c =
    subst (λ (s : VersionHistory). IsVersion s.setting (take c.args.seen s.entries ++ c.args.entry ∷ []) (arc_value c.args.next))
    (sym c.state.ensures.value)
    (version_in_turn _ (state_of c.take-held.result).setting _ _ c.args.seen c.args.entry _ c.take-held.ensures.ok.label
    c.take-held.ensures.ok.seen.begins c.requires.seen c.requires.next)
