use Rattle.std.proofs.Common.{rules, arith, ◌≡◌, ◌<◌, ◌%◌, ℕ, List, All, length, get_or, sym, ap, subst, ◌∙◌}
use Rattle.linear_algebra.specs.Dense.{dense}
use Rattle.linear_algebra.proofs.DenseLaws.{below_from_entries}
use Rattle.dense_mat.proofs.Summing.{remainders_same}
use Rattle.dense_mat.proofs.accumulation.residues_of.Goals as goal

pub returns-clause-vector : goal.returns-clause-vector
returns-clause-vector c =
    let many : length c.loop-k.list.items ≡ length c.args.sums.now = omega
    (arith, c.loop-k.invariant.many, c.loop-k-test.false, c.loop-k.auto.k-end) in
    ap (dense c.args.field) c.of.ensures ∙ remainders_same c.args.field c.args.sums.now c.loop-k.list.items many
    (λ k l. c.loop-k.invariant.each k (omega (arith, l, many, c.loop-k.invariant.many))
    ∙ ap (λ n. get_or c.args.sums.now k 0 % n) (c.from-characteristic.ensures ∙ c.characteristic.ensures.value))

pub returns-clause-residues : goal.returns-clause-residues
returns-clause-residues c =
    let positive : 0 < c.args.field = search rules in
    subst (λ (xs : List ℕ). All (λ x. x < c.args.field) xs) (sym c.of.ensures)
    (below_from_entries c.args.field c.loop-k.list.items (λ k. get_or c.args.sums.now k 0) positive
    (λ k l. c.loop-k.invariant.each k (omega (arith, l, c.loop-k.invariant.many))
    ∙ ap (λ n. get_or c.args.sums.now k 0 % n) (c.from-characteristic.ensures ∙ c.characteristic.ensures.value)))
