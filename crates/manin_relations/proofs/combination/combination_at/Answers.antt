use Rattle.std.proofs.Common.{◌≡◌, ◌∙◌, ℕ, ap}
use Rattle.linear_algebra.specs.Residue.{Residue, residue}
use Rattle.linear_algebra.specs.Vector.{Vector}
use Rattle.linear_algebra.specs.Sparse.{sparse}
use Rattle.manin_relations.proofs.RelationSums.{sum_value}
use Rattle.manin_relations.proofs.combination.combination_at.Goals as goal

-- a number that is widened has the residue that it had
widened : (p a b : ℕ) (r : Residue p) → a ≡ b → residue p b ≡ r → residue p a ≡ r
widened p a b r same is = ap (residue p) same ∙ is

pub returns-clause-value : goal.returns-clause-value
returns-clause-value c =
    let p : ℕ = c.args.field in
    let m : ℕ = c.count-m.result in
    let x : Vector p = sparse p c.args.trace.now in
    sum_value p c.args.level.now c.args.symbol c.from-6.result m c.s_of.result c.t_of-t.result c.t_of.result
    c.from.result c.from-2.result c.from-3.result c.from-4.result c.from-5.result x
    c.requires.symbol (c.from-6.ensures ∙ c.characteristic.ensures.value) c.count-m.ensures.count c.s_of.ensures.number c.t_of-t.ensures.number
    c.t_of.ensures.number
    (widened p _ _ _ c.from.ensures (c.at.ensures.number p))
    (widened p _ _ _ c.from-2.ensures (c.at-2.ensures.number p))
    (widened p _ _ _ c.from-3.ensures (c.at-3.ensures.number p))
    (widened p _ _ _ c.from-4.ensures (c.at-4.ensures.number p))
    (widened p _ _ _ c.from-5.ensures (c.at-5.ensures.number p))
