use Rattle.std.proofs.Common.{◌≡◌, inl, length, refl, sym, ◌∙◌, ap, subst, arith, rules}
use Rattle.std.proofs.lemmas.List.{with_items_is, length-replicate}
use Rattle.linear_algebra.specs.Prime.{IsPrime}
use Rattle.quotient_coords.specs.Quotient.{dimension}
use Rattle.dense_mat.specs.Echelon.{AreRows}
use Rattle.hecke_ops.specs.Operators.{AreColumns, IsOperator, KeepsRelations}
use Rattle.hecke_ops.proofs.AllColumns.{rows_of_columns}
use Rattle.hecke_ops.proofs.FirstFailing.{failing_or_keeps}
use Rattle.hecke_ops.proofs.Vetted.{AreColumns-same, AreColumns-equal, IsFirstFailing-equal, IsKeptList-equal, KeepsRelations-equal, dimension-equal}
use Rattle.hecke_ops.proofs.Vetted.{found_is_first, some_operator}
use Rattle.hecke_ops.proofs.vetting.vet.Goals as goal

pub all_columns-requires-clause-width : goal.all_columns-requires-clause-width
all_columns-requires-clause-width g c = c.dim.ensures.dimension ∙ ap (λ s. dimension s.level s.characteristic) (sym c.requires.setting)

pub first_failing-requires-clause-kept : goal.first_failing-requires-clause-kept
first_failing-requires-clause-kept g c = IsKeptList-equal c.kept.result.now (sym c.level-2.ensures) (sym c.field-2.ensures) c.kept.ensures

pub first_failing-requires-clause-width : goal.first_failing-requires-clause-width
first_failing-requires-clause-width g c =
    ap (λ xs. length xs) (c.deref_mut.ensures.value ∙ c.in_ok-sum.ensures.items_if_clones_equal (search rules)) ∙ length-replicate c.dim-2.result 0
    ∙ c.dim-2.ensures.dimension ∙ dimension-equal (sym c.level-2.ensures) (sym c.field-2.ensures)

pub first_failing-requires-clause-rows : goal.first_failing-requires-clause-rows
first_failing-requires-clause-rows g c =
    let L = (g.C.ColumnSource.matrices c.args.columns.now).list in
    let N = c.level-2.result.now in
    let p = c.field-2.result in
    let width : dimension N p ≡ length c.deref_mut.result.now =
    sym (ap (λ xs. length xs) (c.deref_mut.ensures.value ∙ c.in_ok-sum.ensures.items_if_clones_equal (search rules))
    ∙ length-replicate c.dim-2.result 0 ∙ c.dim-2.ensures.dimension ∙ dimension-equal (sym c.level-2.ensures) (sym c.field-2.ensures)) in
    subst (λ n. AreRows p n c.deref.result.now) width (rows_of_columns N p L c.deref.result.now
    (AreColumns-equal L (sym c.level-2.ensures) (sym c.field-2.ensures) (sym c.deref.ensures.value)
    (AreColumns-same L c.in_ok-all.all.items c.requires.setting c.in_ok-all.ensures.columns)))

pub returns-in-Some-clause-refused : goal.returns-in-Some-clause-refused
returns-in-Some-clause-refused g c =
    let L = (g.C.ColumnSource.matrices c.args.columns.now).list in
    let all = AreColumns-same L c.in_ok-all.all.items c.requires.setting c.in_ok-all.ensures.columns in
    let left : c.of.result ≡ c.first_failing.new.sum = c.of.ensures ∙ with_items_is c.in_ok-sum.sum c.first_failing.new.sum
    (omega (arith, c.in_ok-sum.sum.ok.0, c.first_failing.auto.sum, ap (λ xs. length xs) c.deref_mut.ensures.value)) in
    IsFirstFailing-equal L c.in-Some.number c.level-2.ensures c.field-2.ensures (sym left)
    (c.in-Some.ensures.found L (AreColumns-equal L (sym c.level-2.ensures) (sym c.field-2.ensures) (sym c.deref.ensures.value) all))

pub returns-in-Some-clause-failing : goal.returns-in-Some-clause-failing
returns-in-Some-clause-failing g c = λ k coords h.
    let prime = subst IsPrime (c.characteristic-prime.ensures.value ∙ c.field.ensures) c.characteristic-prime.ensures.prime in
    inl (found_is_first c.args.space.now.level c.args.space.now.characteristic (g.C.ColumnSource.matrices c.args.columns.now).list
    c.in-Some.number k c.of.result coords prime (returns-in-Some-clause-refused g c) h)

pub matrix_of-requires-clause-rows : goal.matrix_of-requires-clause-rows
matrix_of-requires-clause-rows g c =
    let L = (g.C.ColumnSource.matrices c.args.columns.now).list in
    let N = c.args.space.now.level in
    let p = c.args.space.now.characteristic in
    rows_of_columns N p L c.deref-in-None.result.now (subst (AreColumns N p L) (sym c.deref-in-None.ensures.value)
    (AreColumns-same L c.in_ok-all.all.items c.requires.setting c.in_ok-all.ensures.columns))

pub of-requires-in-None : goal.of-requires-in-None
of-requires-in-None g c =
    let L = (g.C.ColumnSource.matrices c.args.columns.now).list in
    let N = c.args.space.now.level in
    let p = c.args.space.now.characteristic in
    let modulus : c.modulus.result ≡ N = c.modulus.ensures.modulus ∙ c.level-in-None.ensures in
    let all : AreColumns N p L c.in_ok-all.all.items =
    AreColumns-same L c.in_ok-all.all.items c.requires.setting c.in_ok-all.ensures.columns in
    let keeps : KeepsRelations N p L =
    KeepsRelations-equal L c.level-2.ensures c.field-2.ensures (c.in-None.ensures.none refl L
    (AreColumns-equal L (sym c.level-2.ensures) (sym c.field-2.ensures) (sym c.deref.ensures.value) all)) in
    some_operator c.modulus.result c.field-in-None.result L c.in_ok-matrix_of-in-None.field-0 (sym modulus) (sym c.field-in-None.ensures) keeps
    (c.in_ok-matrix_of-in-None.ensures L (subst (AreColumns N p L) (sym c.deref-in-None.ensures.value) all))

pub returns-clause-operator : goal.returns-clause-operator
returns-clause-operator g c =
    let L = (g.C.ColumnSource.matrices c.args.columns.now).list in
    let N = c.args.space.now.level in
    let p = c.args.space.now.characteristic in
    let all : AreColumns N p L c.in_ok-all.all.items =
    AreColumns-same L c.in_ok-all.all.items c.requires.setting c.in_ok-all.ensures.columns in
    let keeps : KeepsRelations N p L =
    KeepsRelations-equal L c.level-2.ensures c.field-2.ensures (c.in-None.ensures.none refl L
    (AreColumns-equal L (sym c.level-2.ensures) (sym c.field-2.ensures) (sym c.deref.ensures.value) all)) in
    subst (λ a. IsOperator N p L a.columns) (sym c.of-in-None.ensures) (record {
      keeps = keeps;
      matrix = c.in_ok-matrix_of-in-None.ensures L (subst (AreColumns N p L) (sym c.deref-in-None.ensures.value) all);
    })

pub returns-clause-failing : goal.returns-clause-failing
returns-clause-failing g c = λ k coords h.
    let prime = subst IsPrime (c.characteristic-prime.ensures.value ∙ c.field.ensures) c.characteristic-prime.ensures.prime in
    absurd (failing_or_keeps prime h (returns-clause-operator g c).keeps)
