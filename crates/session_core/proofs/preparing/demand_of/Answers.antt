use Rattle.std.proofs.Common.{length, sym, subst, ◌<◌, All}
use Rattle.p1_normal.specs.Points.{symbols}
use Rattle.session_core.proofs.PreparingLemmas.{below_of_distinct, coprime_of}
use Rattle.session_core.proofs.preparing.demand_of.Goals as goal

pub returns-in_ok-symbols-in-Image-clause-columns : goal.returns-in_ok-symbols-in-Image-clause-columns
returns-in_ok-symbols-in-Image-clause-columns c =
    let within = rw c.in-Image.is at c.requires.within in
    let coprime = rw c.in-Image.is at c.requires.coprime in
    let below = below_of_distinct (length (symbols c.args.level.now)) c.args.numbers.now c.in_ok-symbols-in-Image.symbols.items c.requires.places
    c.in_ok-symbols-in-Image.ensures in (
      within.0,
      within.1,
      coprime_of c.args.level.now c.in-Image.n coprime,
      subst (All (λ k. k < length (symbols c.args.level.now)))
          (sym c.of.ensures) below,
    )
