-- Sums of products of lists of numbers.
--   inner_product_before xs ys n   the sum of xs_k ys_k over the places k below n
--   inner_product xs ys            the sum over all places of xs
use Rattle.std.specs.Prelude.{ℕ, ◌*◌, List, length, sum, map, slice_index}
use Rattle.std.specs.List.{range_with_len}

abbrev pub inner_product_before : List ℕ → List ℕ → ℕ → ℕ
inner_product_before xs ys n = sum (map (λ k. slice_index xs k * slice_index ys k) (range_with_len 0 n))

abbrev pub inner_product : List ℕ → List ℕ → ℕ
inner_product xs ys = inner_product_before xs ys (length xs)
