use Rattle.std.proofs.Common.{◌≡◌, length, sym, ◌∙◌, arith}
use Rattle.std.proofs.lemmas.Grind.{same_number_lists}
use Rattle.std.proofs.lemmas.List.FromFn.{length-range_with_len}
use Rattle.std.specs.List.{range_with_len}
use Rattle.linear_algebra.proofs.BoundPlaces.{in_range}
use Rattle.dense_mat.proofs.basis.places_below.Goals as goal

pub returns : goal.returns
returns c =
    let many : length c.loop-k.places.items ≡ c.args.n = omega (arith, c.loop-k.invariant.many, c.loop-k-test.false, c.loop-k.auto.k-end) in
    same_number_lists c.loop-k.places.items (range_with_len 0 c.args.n) (many ∙ sym (length-range_with_len 0 c.args.n))
    (λ i u. c.loop-k.invariant.each i u ∙ sym (in_range c.args.n i (omega (arith, many))))
