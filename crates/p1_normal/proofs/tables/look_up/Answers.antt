use Rattle.std.proofs.Common.{◌≡◌, ◌<◌, ◌+◌, ◌*◌, suc, ◌∙◌, arith, get_or}
use Rattle.std.proofs.Math.Nat.{mod-lt}
use Rattle.p1_normal.specs.declared.tables.Turn.{Turn}
use Rattle.p1_normal.proofs.Marking.{product_small, small_square}
use Rattle.p1_normal.proofs.Turns.{turn_at, turned_place, turned_none, turned_number}
use Rattle.p1_normal.proofs.Numbers.{IsFound-from}
use Rattle.p1_normal.proofs.tables.look_up.Goals as goal

abbrev nothing : Turn
nothing = record { head = 0; factor = 0 }

pub overflow_mul-result : goal.overflow_mul-result
overflow_mul-result c = omega (
  arith,
  turned_place c.args.p.u c.args.p.v c.requires.level.0
      (turn_at c.args.p.u nothing c.requires.turns c.requires.below.first),
  small_square c.args.n c.requires.level.1,
)

pub overflow_mul-result-2 : goal.overflow_mul-result-2
overflow_mul-result-2 c = omega (
  arith,
  product_small c.args.n (get_or c.args.turns.now c.args.p.u nothing).factor c.args.p.v c.requires.level.1
      (turn_at c.args.p.u nothing c.requires.turns c.requires.below.first).small c.requires.below.second,
)

pub overflow_add-result : goal.overflow_add-result
overflow_add-result c = omega (
  arith,
  turned_place c.args.p.u c.args.p.v c.requires.level.0
      (turn_at c.args.p.u nothing c.requires.turns c.requires.below.first),
  small_square c.args.n c.requires.level.1,
)

pub bounds-numbers-turn : goal.bounds-numbers-turn
bounds-numbers-turn c =
    let turn = get_or c.args.turns.now c.args.p.u nothing in
    let found = turn_at c.args.p.u nothing c.requires.turns c.requires.below.first in
    let low : turn.head < c.args.n = omega (arith, found.turned, mod-lt (turn.factor * c.args.p.u) c.requires.level.0) in
    omega (arith, c.requires.numbering.rows turn.head low found.head, mod-lt (turn.factor * c.args.p.v) c.requires.level.0)

pub returns-clause-none : goal.returns-clause-none
returns-clause-none c = λ e. turned_none c.args.p c.requires.level.0 c.requires.below
    (turn_at c.args.p.u nothing c.requires.turns c.requires.below.first) c.requires.numbering e

pub returns-clause-some : goal.returns-clause-some
returns-clause-some c = λ k e. let f : k + 1 ≡ suc k = omega arith in IsFound-from c.args.n c.args.p k
    (turned_number c.args.p k c.requires.level.0 c.requires.below (turn_at c.args.p.u nothing c.requires.turns c.requires.below.first)
    c.requires.numbering (e ∙ f))
