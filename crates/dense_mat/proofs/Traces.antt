-- The sum of the diagonal, entry by entry.
use Rattle.std.proofs.Common.{◌≡◌, ◌+◌, ◌%◌, ℕ, List, sum, map, sym, ◌∙◌, ap, arith}
use Rattle.std.proofs.Math.Nat.{mod-add-mod}
use Rattle.std.specs.List.{range_with_len}
use Rattle.std.proofs.lemmas.List.FromFn.{sum_by-map-range_with_len_more}
use Rattle.dense_mat.specs.Matrix.{entry}

-- one entry more
pub trace_more : (p : ℕ) (columns : List (List ℕ)) (n before a after : ℕ)
    → before ≡ sum (map (λ k. entry columns k k) (range_with_len 0 n)) % p → a ≡ entry columns n n → after ≡ (before + a) % p
    → after ≡ sum (map (λ k. entry columns k k) (range_with_len 0 (n + 1))) % p
trace_more p columns n before a after h is_entry e =
    e ∙ ap (λ b. (b + a) % p) h ∙ mod-add-mod (sum (map (λ k. entry columns k k) (range_with_len 0 n))) p a
    ∙ ap (λ b. (sum (map (λ k. entry columns k k) (range_with_len 0 n)) + b) % p) is_entry
    ∙ ap (λ s. s % p) (sym (sum_by-map-range_with_len_more (λ x. x) (λ k. entry columns k k) 0 n n (omega arith)))
