use Rattle.std.proofs.Common.{◌≡◌, ◌<◌, ◌∙◌, ℕ, length, ap, refl}
use Rattle.std.specs.Prelude.{ℤ}
use Rattle.std.specs.Int.{w64}
use Rattle.std.proofs.lemmas.Int.{to_z-of_z}
use Rattle.p1_normal.specs.declared.point.Point.{Point}
use Rattle.p1_normal.specs.Points.{reduced, common_divisor, normal_form, number, symbols, symbol_at}
use Rattle.p1_normal.proofs.Numbers.{symbol_at-number, level_positive}
use Rattle.p1_normal.proofs.level.Level.normal.Goals as goal

-- the symbol at the number of a point is its normal form
found : (N k : ℕ) (x y u v : ℤ) (p : Point) → x ≡ u → y ≡ v → p ≡ symbol_at N k → k ≡ number N (normal_form N (reduced N x y))
    → k < length (symbols N) → common_divisor N (reduced N x y) ≡ 1 → p ≡ normal_form N (reduced N u v)
found N k x y u v p same_u same_v at is below one =
    at ∙ ap (symbol_at N) is ∙ symbol_at-number N (reduced N x y) (level_positive N k below) one
    ∙ ap (λ z. normal_form N (reduced N z y)) same_u ∙ ap (λ z. normal_form N (reduced N u z)) same_v

pub returns-in-Ok-clause-form : goal.returns-in-Ok-clause-form
returns-in-Ok-clause-form c =
    found c.args.self.now c.in-Ok.k _ _ c.args.u c.args.v c.symbol.result (to_z-of_z w64 c.args.u c.ranges.u) (to_z-of_z w64 c.args.v c.ranges.v)
    c.symbol.ensures c.in-Ok.ensures.number c.in-Ok.ensures.below (c.in-Ok.ensures.point.0 refl)
