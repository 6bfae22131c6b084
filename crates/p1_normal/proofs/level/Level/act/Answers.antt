use Rattle.std.proofs.Common.{◌≡◌, ◌∙◌, ℕ, sym, ap, subst}
use Rattle.p1_normal.specs.declared.point.Point.{Point}
use Rattle.p1_normal.specs.declared.matrix.Matrix.{Matrix}
use Rattle.p1_normal.specs.Points.{symbol_at, number, common_divisor, normal_form, IsBelow}
use Rattle.p1_normal.specs.Actions.{image, image_number}
use Rattle.p1_normal.proofs.Moves.{symbol_below, coprime_at}
use Rattle.p1_normal.proofs.level.Level.act.Goals as goal

-- the pair times the matrix is that of the symbol
image_at : (n N k : ℕ) (p q : Point) (m : Matrix) → n ≡ N → p ≡ symbol_at N k → q ≡ image n p m → q ≡ image N (symbol_at N k) m
image_at n N k p q m level at is = is ∙ ap (λ x. image x p m) level ∙ ap (λ r. image N r m) at

-- and its number is that of the symbol times the matrix
number_at : (n N k r : ℕ) (q : Point) (m : Matrix) → n ≡ N → q ≡ image N (symbol_at N k) m → r ≡ number n (normal_form n q) → r ≡ image_number N k m
unfolding image_number
number_at n N k r q m level at is = is ∙ ap (λ x. number x (normal_form x q)) level ∙ ap (λ w. number N (normal_form N w)) at

pub image_of-image-requires-clause-below : goal.image_of-image-requires-clause-below
image_of-image-requires-clause-below c = subst (λ n. IsBelow n c.symbol.result) (sym c.self.view_is)
    (subst (IsBelow c.args.self.now) (sym c.symbol.ensures) (symbol_below c.args.self.now c.args.k c.requires.place))

pub number_of-requires-clause-names : goal.number_of-requires-clause-names
number_of-requires-clause-names c =
    ap (λ n. common_divisor n c.image_of-image.result) c.self.view_is
    ∙ ap (common_divisor c.args.self.now) (image_at c.self.inside.n c.args.self.now c.args.k c.symbol.result c.image_of-image.result c.args.matrix.now
    c.self.view_is c.symbol.ensures c.image_of-image.ensures.image)
    ∙ coprime_at c.args.self.now c.args.k c.args.matrix.now c.requires.place c.requires.coprime

pub returns-clause-number : goal.returns-clause-number
returns-clause-number c = number_at c.self.inside.n c.args.self.now c.args.k c.number_of.result c.image_of-image.result c.args.matrix.now
    c.self.view_is
    (image_at c.self.inside.n c.args.self.now c.args.k c.symbol.result c.image_of-image.result c.args.matrix.now c.self.view_is c.symbol.ensures
    c.image_of-image.ensures.image)
    c.number_of.ensures.number
