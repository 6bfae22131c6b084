use Rattle.std.proofs.Common.{◌≡◌, ◌≢◌, ◌<◌, ◌≤◌, ℕ, List, length, sym, ◌∙◌, ap, inl, inr, arith}
use Rattle.std.proofs.lemmas.Bool.{cases_lt}
use Rattle.linear_algebra.specs.Residue.{residue}
use Rattle.linear_algebra.specs.Sparse.{sparse, IsCombo}
use Rattle.linear_algebra.proofs.SparseLaws.{sparse_at, sparse_elsewhere}
use Rattle.field_table.specs.Terms.{place_at}
use Rattle.field_table.proofs.search.number_at.Goals as goal
use Rattle.field_table.proofs.search.number_at.Goals.{else-i-terms-via-then-i-terms+else-terms-i, else-i-terms-via-else-i-terms}

-- where the first term from the place on is not at the place, no term is
none : (ts : List (ℕ × ℕ)) (i place : ℕ) → IsCombo ts → ((k : ℕ) → k < i → place_at ts k < place)
    → ((k : ℕ) → i ≤ k → k < length ts → place ≤ place_at ts k)
    → (i < length ts → place_at ts i ≢ place) → (p : ℕ) → residue p 0 ≡ sparse p ts place
none ts i place combo below from other p = sym (sparse_elsewhere p ts place (λ j l e. elim (cases_lt j i) [
  | inl before ↦ let f : place_at ts j < place = below j before in omega arith
  | inr after ↦ at j l e (omega arith)
]))
  where
    at : (j : ℕ) → j < length ts → place_at ts j ≡ place → i ≤ j → ⊥
    at j l e after = elim (cases_lt i j) [
      | inl later ↦
          let f : place ≤ place_at ts i = from i (omega arith) (omega arith) in
          let g : place_at ts i < place_at ts j = combo.rising i j later l in
          omega arith
      | inr not_later ↦ let same : j ≡ i = omega arith in other (omega arith) (ap (place_at ts) (sym same) ∙ e)
    ]

pub returns-then-terms-i-clause-number : goal.returns-then-terms-i-clause-number
returns-then-terms-i-clause-number c = λ p. sym (ap (sparse p c.args.terms.now) (sym c.if-terms-i.true)
    ∙ sparse_at p c.args.terms.now c.requires.rising c.first_from-i.result c.if-i-terms.true)

pub returns-else-i-terms-clause-number : goal.returns-else-i-terms-clause-number
returns-else-i-terms-clause-number c = none c.args.terms.now c.first_from-i.result c.args.place c.requires.rising c.first_from-i.ensures.below
    c.first_from-i.ensures.from
    (λ l e. elim c.else-i-terms.branch [
      | else-i-terms-via-then-i-terms+else-terms-i w ↦ w.if-terms-i.false e
      | else-i-terms-via-else-i-terms w ↦ absurd (omega (arith, w.if-i-terms.false))
    ])
