-- Kept rows: each vector of the span is a combination of them in one way.
use Rattle.std.proofs.Common.{◌≡◌, ◌⊎◌, ◌<◌, ◌≤◌, ℕ, zero, suc, List, [], ◌∷◌, length, take, refl, sym, ◌∙◌, ap, inl, inr, arith, add-one}
use Rattle.std.proofs.Math.Decide.{ℕ_discrete}
use Rattle.std.proofs.Math.Seq.{take-length}
use Rattle.std.proofs.lemmas.Bool.{cases_lt}
use Rattle.linear_algebra.specs.Residue.{Residue, residue, ◌⊗◌}
use Rattle.linear_algebra.specs.Prime.{IsPrime}
use Rattle.linear_algebra.specs.Vector.{Vector, ◌⊞◌, ◌⊡◌, zeros, tail, combination, minus}
use Rattle.linear_algebra.specs.Span.{Each, none, more, row, InSpan}
use Rattle.linear_algebra.specs.Coordinates.{IsOverKept, AreKeptCoefficients}
use Rattle.linear_algebra.proofs.ResidueLaws
use Rattle.linear_algebra.proofs.Vectors.{plus_comm, plus-zeros, zero-scale}
use Rattle.linear_algebra.proofs.Differences.{sub_self, minus_self, minus_none, combination-minus}
use Rattle.linear_algebra.proofs.Rows.{combination-take}
use Rattle.linear_algebra.proofs.Spans.{cons}
use Rattle.linear_algebra.proofs.Dimension.{row_from_others}

-- coefficients over kept rows: 0
pub IsOverKept-zeros : {p : ℕ} (rows : List (Vector p)) → IsOverKept rows zeros
IsOverKept-zeros rows = record { elsewhere = λ i n. refl }

-- sums
pub IsOverKept-plus : {p : ℕ} (rows : List (Vector p)) (c d : Vector p) → IsOverKept rows c → IsOverKept rows d → IsOverKept rows (c ⊞ d)
IsOverKept-plus {p} rows c d h k = record { elsewhere = λ i n. rw (h.elsewhere i n, k.elsewhere i n) (ResidueLaws.add-zero (residue p 0)) }

-- multiples
pub IsOverKept-scale : {p : ℕ} (rows : List (Vector p)) (a : Residue p) (c : Vector p) → IsOverKept rows c → IsOverKept rows (a ⊡ c)
IsOverKept-scale {p} rows a c h = record { elsewhere = λ i n. rw (h.elsewhere i n, ResidueLaws.mul_comm a (residue p 0)) (ResidueLaws.zero-mul a) }

-- differences
pub IsOverKept-minus : {p : ℕ} → 0 < p → (rows : List (Vector p)) (c d : Vector p) → IsOverKept rows c → IsOverKept rows d
    → IsOverKept rows (minus c d)
IsOverKept-minus {p} positive rows c d h k = record { elsewhere = λ i n. rw (h.elsewhere i n, k.elsewhere i n) (sub_self positive (residue p 0)) }

-- combinations
pub IsOverKept-combination : {p : ℕ} (rows : List (Vector p)) (c : Vector p) (logs : List (Vector p)) → Each (IsOverKept rows) logs
    → IsOverKept rows (combination c logs)
IsOverKept-combination rows c [] none = IsOverKept-zeros rows
IsOverKept-combination rows c (l ∷ logs) (more h hs) = IsOverKept-plus rows (c 0 ⊡ l) (combination (tail c) logs) (IsOverKept-scale rows (c 0) l h)
    (IsOverKept-combination rows (tail c) logs hs)

-- only 0 combines kept rows to 0
pub over_kept_zeros : {p : ℕ} → IsPrime p → (rows : List (Vector p)) (c : Vector p) → IsOverKept rows c → combination c rows ≡ zeros → c ≡ zeros
over_kept_zeros {p} prime rows c kept z = λ i j. at j (cases_lt j (length rows)) i
  where
    held : (n : ℕ) → n < length rows → combination c (take n rows) ⊞ (c n ⊡ row rows n) ≡ zeros
        → (c n ≡ residue p 0) ⊎ ((b : Residue p) × (c n ⊗ b ≡ residue p 1)) → c n ≡ residue p 0
    held n l e (inl zero_at) = zero_at
    held n l e (inr (b, one)) =
        let h : InSpan (take n rows) (row rows n) = row_from_others prime (row rows n) (take n rows) (cons (c n) c) b one
        (plus_comm (c n ⊡ row rows n) (combination c (take n rows)) ∙ e) in
        kept.elsewhere n (λ k. k.apart h)

    first : (n : ℕ) → n ≤ length rows → combination c (take n rows) ≡ zeros → (j : ℕ) → j < n → c j ≡ residue p 0
    first zero l e j u = absurd (omega arith)
    first (suc n) l e j u = by_place (ℕ_discrete j n) (first n (omega arith) less)
      where
        split : combination c (take n rows) ⊞ (c n ⊡ row rows n) ≡ zeros
        split = sym (combination-take c rows n l) ∙ ap (λ m. combination c (take m rows)) (add-one n) ∙ e

        none_here : c n ≡ residue p 0
        none_here = held n l split (ResidueLaws.zero_or_inverse prime (c n))

        less : combination c (take n rows) ≡ zeros
        less = sym (plus-zeros (combination c (take n rows))) ∙ ap (λ v. combination c (take n rows) ⊞ v)
            (sym (ap (λ a. a ⊡ row rows n) none_here ∙ zero-scale (row rows n))) ∙ split

        by_place : Dec (j ≡ n) → ((j : ℕ) → j < n → c j ≡ residue p 0) → c j ≡ residue p 0
        by_place (yes same) smaller = ap c same ∙ none_here
        by_place (no other) smaller = smaller j (omega arith)

    at : (j : ℕ) → (j < length rows) ⊎ (length rows ≤ j) → c j ≡ residue p 0
    at j (inl l) = first (length rows) (omega arith) (ap (combination c) (take-length rows) ∙ z) j l
    at j (inr l) = kept.elsewhere j (λ k. let w : j < length rows = k.within in absurd (omega arith))

-- coefficients over kept rows are determined by what they combine to
pub over_kept_once : {p : ℕ} → IsPrime p → (rows : List (Vector p)) (c d : Vector p) → IsOverKept rows c → IsOverKept rows d
    → combination c rows ≡ combination d rows → c ≡ d
over_kept_once {p} prime rows c d h k e =
    let positive : 0 < p = omega (arith, prime.above_one) in
    minus_none positive c d (over_kept_zeros prime rows (minus c d) (IsOverKept-minus positive rows c d h k)
    (combination-minus positive c d rows ∙ ap (λ v. minus v (combination d rows)) e ∙ minus_self positive (combination d rows)))

-- the coefficients of a difference over kept rows are unique
pub trace_once : {p : ℕ} → IsPrime p → (rows : List (Vector p)) (x y c d : Vector p) → AreKeptCoefficients rows x y c → AreKeptCoefficients rows x y d
    → c ≡ d
trace_once prime rows x y c d h k = over_kept_once prime rows c d h.over_kept k.over_kept (h.adds_up ∙ sym k.adds_up)
