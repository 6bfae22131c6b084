use Rattle.std.proofs.Common.{◌≡◌, ◌-◌, ◌+◌, ℕ, zero, suc, arith, refl}
use Rattle.p1_normal.proofs.tables.number_of.Goals as goal

-- what is not 0 is the successor of what is found
before : (r : ℕ) → (r ≡ 0 → ⊥) → r ≡ (r - 1) + 1
before zero some = absurd (some refl)
before (suc r) some = omega arith

pub returns-clause-number : goal.returns-clause-number
returns-clause-number c = (c.look_up.ensures.some (c.look_up.result - 1)
    (before c.look_up.result (λ e. c.look_up.ensures.none e c.requires.names))).number

pub returns-clause-below : goal.returns-clause-below
returns-clause-below c = (c.look_up.ensures.some (c.look_up.result - 1)
    (before c.look_up.result (λ e. c.look_up.ensures.none e c.requires.names))).below
