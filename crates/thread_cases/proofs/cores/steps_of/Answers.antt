use Rattle.std.proofs.Common.{sym, subst, ap, arith, length, length-append}
use Rattle.std.specs.List.{All}
use Rattle.std.proofs.lemmas.List.Elements.{All-push}
use Rattle.shared_core.specs.Machines.{HasResidues}
use Rattle.thread_cases.proofs.cores.steps_of.Goals as goal

pub loop-place-preserved : goal.loop-place-preserved
loop-place-preserved c = record {
  residues = subst (All (HasResidues c.args.field)) (sym c.in_ok-push.ensures.items)
      (All-push (HasResidues c.args.field) c.loop-place.steps.items _ c.loop-place.invariant.residues (c.act_at-act.ensures c.args.field c.requires));
  count = omega (arith, ap (λ l. length l) c.in_ok-push.ensures.items, length-append c.loop-place.steps.items, c.loop-place.invariant.count);
}
