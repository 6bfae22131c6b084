use Rattle.std.proofs.Common.{arith, ap, length}
use Rattle.p1_normal.proofs.Marking.{length-symbols, small_square}
use Rattle.p1_normal.proofs.level.Level.count.Goals as goal

pub overflow_cast-result : goal.overflow_cast-result
overflow_cast-result c =
    omega (
      arith,
      c.len.ensures,
      ap length c.self.invariant.all,
      length-symbols c.self.inside.n,
      small_square c.self.inside.n
          c.self.invariant.limited,
    )

pub returns-clause-limited : goal.returns-clause-limited
returns-clause-limited c =
    omega (
      arith,
      c.len.ensures,
      ap length c.self.invariant.all,
      length-symbols c.self.inside.n,
      small_square c.self.inside.n
          c.self.invariant.limited,
    )
