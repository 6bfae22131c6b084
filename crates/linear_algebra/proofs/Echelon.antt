-- Rows in reduced echelon form: the coefficients of a combination stand at the lead places.
use Rattle.std.proofs.Common.{◌≡◌, ◌<◌, ℕ, List, length, sym, ◌∙◌, ap}
use Rattle.linear_algebra.specs.Vector.{Vector, combination}
use Rattle.linear_algebra.specs.Span.{InSpan, Independent}
use Rattle.linear_algebra.specs.Echelon.{IsReducedEchelon}
use Rattle.linear_algebra.proofs.Rows.{combination_at, combination_same}

-- a combination has the coefficient of row j at its lead
pub combination_at_lead : {p : ℕ} (rows : List (Vector p)) (e : IsReducedEchelon rows) (c : Vector p) (j : ℕ) → j < length rows
    → combination c rows (e.lead j) ≡ c j
combination_at_lead rows e c j l = combination_at c rows (e.lead j) j l (e.first j l).0 (λ i u n. e.alone i j u l n)

-- rows in reduced echelon form are independent
pub independent_echelon : {p : ℕ} (rows : List (Vector p)) → IsReducedEchelon rows → Independent rows
independent_echelon rows e = record { only_zero = λ c z j l. sym (combination_at_lead rows e c j l) ∙ ap (λ v. v (e.lead j)) z }

-- a vector of the span is the combination by its own entries at the lead places
pub by_leads : {p : ℕ} (rows : List (Vector p)) (e : IsReducedEchelon rows) (v : Vector p) → InSpan rows v → v ≡ combination (λ j. v (e.lead j)) rows
by_leads rows e v h = h.is_combination ∙ combination_same h.coefficients (λ j. v (e.lead j)) rows
    (λ j l. sym (combination_at_lead rows e h.coefficients j l) ∙ ap (λ w. w (e.lead j)) (sym h.is_combination))
