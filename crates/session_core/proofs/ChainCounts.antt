-- How many chains Merel's set of determinant n falls into, and how many matrices they have together.
use Rattle.std.proofs.Common.{◌≡◌, ◌<◌, ◌≤◌, ◌^◌, ℕ, List, length, pos, sym, ◌∙◌, ap, refl, arith}
use Rattle.std.specs.List.{flat_map, sum_by}
use Rattle.std.specs.Ordering.{int_eq}
use Rattle.std.proofs.lemmas.List.{length-map}
use Rattle.std.proofs.lemmas.List.Concat.{length-flat_map}
use Rattle.std.proofs.lemmas.List.Sorted.{length_permutation}
use Rattle.std.proofs.lemmas.List.Sums.{count_by-le-length, length-filter}
use Rattle.p1_normal.specs.declared.matrix.Matrix.{Matrix}
use Rattle.p1_normal.specs.declared.matrix.TheConstants.{MAX_DET}
use Rattle.heilbronn_sets.specs.Merel.{merel_matrices, starts}
use Rattle.heilbronn_chains.specs.Chains.{AreChains, member}
use Rattle.heilbronn_chains.proofs.ChainLists.{chains_permutation}
use Rattle.heilbronn_chains.proofs.NoFault.{merel_few}

-- the chains have the matrices of the set
pub chain_lengths : (n : ℕ) (css : List (List Matrix)) → 0 < n → AreChains n css → sum_by (λ ms. length ms) css ≡ length (merel_matrices n)
chain_lengths n css some h = sym (length-flat_map (λ ms. ms) css)
    ∙ sym (length_permutation (flat_map (λ ms. ms) css) (merel_matrices n) (chains_permutation n css some h))

-- they are as many as the starts
pub chain_number : (n : ℕ) (css : List (List Matrix)) → AreChains n css → length css ≡ length (starts n)
chain_number n css h = sym (length-map css (λ ms. member ms 0)) ∙ ap length h.begins

-- both numbers fit
pub lengths_fit : (n : ℕ) (css : List (List Matrix)) → 0 < n → n ≤ MAX_DET → AreChains n css → sum_by (λ ms. length ms) css < 2 ^ 32
lengths_fit n css some limit h = omega (arith, chain_lengths n css some h, merel_few n (merel_matrices n) some limit refl)

pub number_fits : (n : ℕ) (css : List (List Matrix)) → 0 < n → n ≤ MAX_DET → AreChains n css → length css < 2 ^ 32
number_fits n css some limit h =
    omega (
      arith,
      chain_number n css h,
      merel_few n (merel_matrices n) some limit refl,
      length-filter (λ m. int_eq m.b (pos 0)) (merel_matrices n),
      count_by-le-length (λ m. int_eq m.b (pos 0)) (merel_matrices n),
    )
