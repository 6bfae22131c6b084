use Rattle.std.proofs.Common.{◌≡◌, length, replicate, ◌∙◌, ap, arith, rules}
use Rattle.std.proofs.lemmas.List.{with_items_is}
use Rattle.cusps_boundary.proofs.BoundarySums.{boundary_value}
use Rattle.cusps_boundary.proofs.cusps.Cusps.boundary.Goals as goal

pub returns-clause-vector : goal.returns-clause-vector
returns-clause-vector c =
    let left : c.of.result ≡ c.add_boundary.new.sums = c.of.ensures
    ∙ with_items_is c.in_ok-sums.sums c.add_boundary.new.sums (omega
    (arith, c.in_ok-sums.sums.ok.0, c.add_boundary.auto.sums, ap (λ xs. length xs) c.deref_mut.ensures.value)) in
    let start : c.deref_mut.result.now ≡ replicate c.len.result 0 = c.deref_mut.ensures.value
    ∙ c.in_ok-sums.ensures.items_if_clones_equal (search rules) in
    boundary_value c.args.field c.args.self.now c.len.result c.deref_mut.result.now c.add_boundary.new.sums c.of.result c.terms.result.now
    c.args.combo.now left start c.terms.ensures.terms c.add_boundary.ensures.sum
