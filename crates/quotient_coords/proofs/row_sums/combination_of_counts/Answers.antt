use Rattle.std.proofs.Common.{◌≡◌, All, ◌<◌, ◌^◌, length, replicate, sym, ◌∙◌, ap, subst, arith, rules}
use Rattle.std.proofs.lemmas.List.{with_items_is}
use Rattle.std.proofs.lemmas.List.Elements.{All-replicate}
use Rattle.std.proofs.lemmas.Result.{IfOk-weaker}
use Rattle.std.specs.Prelude.{map, ◌%◌}
use Rattle.linear_algebra.specs.Dense.{dense}
use Rattle.linear_algebra.specs.Sparse.{sparse_rows}
use Rattle.linear_algebra.specs.Vector.{combination}
use Rattle.quotient_coords.proofs.RowSums.{dense_remainders}
use Rattle.quotient_coords.proofs.SymbolRows.{combined_all}
use Rattle.quotient_coords.proofs.row_sums.combination_of_counts.Goals as goal

pub add_counted_rows-requires-clause-room : goal.add_counted_rows-requires-clause-room
add_counted_rows-requires-clause-room c =
    let start : c.deref_mut.result.now ≡ replicate c.args.width 0 = c.deref_mut.ensures.value
    ∙ c.in_ok-sums.ensures.items_if_clones_equal (search rules) in
    subst (All (λ x. x < 2 ^ 63)) (sym start) (All-replicate (λ x. x < 2 ^ 63) c.args.width 0 (omega arith))

pub returns-clause-sum : goal.returns-clause-sum
returns-clause-sum c =
    let start : c.deref_mut.result.now ≡ replicate c.args.width 0 = c.deref_mut.ensures.value
    ∙ c.in_ok-sums.ensures.items_if_clones_equal (search rules) in
    let left = with_items_is c.in_ok-sums.sums c.add_counted_rows.new.sums
    (omega (arith, c.in_ok-sums.sums.ok.0, c.add_counted_rows.auto.sums, ap length c.deref_mut.ensures.value)) in
    let sums = c.deref.result.now in
    let p = c.args.field in
    IfOk-weaker c.reduced.result (λ v. v.items ≡ map (λ x. x % p) sums)
    (λ v. dense p v.items ≡ combination (dense p c.args.counts.now) (sparse_rows p c.args.rows.now))
    (λ v e. ap (dense p) e ∙ dense_remainders p sums ∙ ap (dense p) (c.deref.ensures.value ∙ left)
    ∙ combined_all p c.args.width c.args.rows.now (dense p c.args.counts.now) c.deref_mut.result.now c.add_counted_rows.new.sums start
    c.add_counted_rows.ensures.sum) c.reduced.ensures.items
