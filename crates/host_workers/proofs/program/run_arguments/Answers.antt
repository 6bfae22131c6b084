use Rattle.std.proofs.Common.{inl, subst, sym}
use Rattle.host_workers.specs.Programs.{HasWords}
use Rattle.host_workers.proofs.program.run_arguments.Goals as goal

pub returns : goal.returns
returns g c = record {
  ran = inl (
    c.deref.result.now,
    subst (HasWords c.args.arguments) (sym c.deref.ensures.value) c.in-Ok.ensures.words,
    record {
      usage = c.run.ensures.usage;
      unread = c.run.ensures.unread;
      solo = c.run.ensures.solo;
      serve = c.run.ensures.serve;
      generated = c.run.ensures.generated;
      faultless = c.run.ensures.faultless;
    },
  );
}
