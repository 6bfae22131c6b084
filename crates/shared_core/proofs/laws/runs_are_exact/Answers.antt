use Rattle.shared_core.proofs.RunLaws.{IsRun-unique, never_both}
use Rattle.shared_core.proofs.laws.runs_are_exact.Goals as goal

pub returns : goal.returns
returns c = record {
  one = λ setting sessions s steps os others t u listed. IsRun-unique setting listed sessions s steps os others t u;
  illegal = λ setting sessions steps run place listed. never_both setting listed sessions steps run place;
}
