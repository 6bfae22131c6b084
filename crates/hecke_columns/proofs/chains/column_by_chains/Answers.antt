use Rattle.std.proofs.Common.{◌≡◌, length, replicate, ◌∙◌, ap, subst, arith, rules}
use Rattle.std.proofs.lemmas.List.{with_items_is}
use Rattle.std.proofs.lemmas.Result.{IfOk-weaker}
use Rattle.linear_algebra.specs.Dense.{dense}
use Rattle.heilbronn_sets.specs.Merel.{merel_matrices}
use Rattle.quotient_coords.specs.Quotient.{AreCoordinates}
use Rattle.hecke_columns.specs.Hecke.{IsColumn}
use Rattle.hecke_columns.proofs.ChainSums.{IsColumn-from_chains}
use Rattle.hecke_columns.proofs.chains.column_by_chains.Goals as goal

pub returns : goal.returns
returns c =
    let p = c.args.space.now.characteristic in
    let left : c.deref.result.now ≡ c.add_chains.new.counts = c.deref.ensures.value
    ∙ with_items_is c.in_ok-counts.counts c.add_chains.new.counts
    (omega (arith, c.in_ok-counts.counts.ok.0, c.add_chains.auto.counts, ap (λ xs. length xs) c.deref_mut.ensures.value)) in
    let start : c.deref_mut.result.now ≡ replicate c.count.result 0 = c.deref_mut.ensures.value
    ∙ c.in_ok-counts.ensures.items_if_clones_equal (search rules) in
    IfOk-weaker c.coords_of_counts.result (AreCoordinates c.args.space.now.level (dense p c.deref.result.now))
    (IsColumn c.args.space.now (merel_matrices c.args.n) c.args.k)
    (λ values h. IsColumn-from_chains c.args.space.now c.args.n c.args.k c.count.result c.add_chains.new.counts values c.requires.place
    c.requires.some (rw (start, c.field.ensures, c.level-level.ensures) at c.in_ok-add_chains.ensures.sums)
    (subst (λ xs. AreCoordinates c.args.space.now.level (dense p xs) values) left h))
    c.coords_of_counts.ensures
