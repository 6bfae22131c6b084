-- Hecke sums along chains, as the code takes them.
use Rattle.std.proofs.Common.{◌≡◌, ◌+◌, ◌%◌, ◌<◌, ◌≤◌, ℕ, List, [], ◌∷◌, ◌++◌, length, get_or, replicate, set, refl, sym, ◌∙◌, ap, subst}
use Rattle.std.specs.Prelude.{pos}
use Rattle.std.specs.List.{flat_map}
use Rattle.std.proofs.lemmas.List.{append-nil}
use Rattle.std.proofs.lemmas.Grind.{flat_map-append}
use Rattle.linear_algebra.specs.Vector.{◌⊞◌, zeros}
use Rattle.linear_algebra.specs.Dense.{dense}
use Rattle.linear_algebra.proofs.Vectors.{plus-zeros, plus_assoc}
use Rattle.linear_algebra.proofs.SparseLaws.{sparse_nil}
use Rattle.p1_normal.specs.declared.matrix.Matrix.{Matrix}
use Rattle.p1_normal.specs.Actions.{image_number}
use Rattle.p1_normal.specs.Points.{symbols}
use Rattle.p1_normal.specs.Units.{gcd}
use Rattle.heilbronn_sets.specs.Merel.{IsMerel, merel_matrices, starts}
use Rattle.heilbronn_sets.proofs.Faults.{zero_matrix}
use Rattle.heilbronn_chains.specs.Chains.{Follows, degree}
use Rattle.heilbronn_chains.proofs.Walks.{IsBeginning, degree_is, IsPart, Walked, walk_begins, walk_goes_on, walk_ends, part_none, part_more, part_all}
use Rattle.heilbronn_chains.proofs.ChainLists.{chains_permutation}
use Rattle.quotient_coords.specs.Quotient.{AreCoordinates, Ground}
use Rattle.hecke_columns.specs.Hecke.{IsColumn, symbol_sum}
use Rattle.hecke_columns.specs.Chains.{AddsChainSum, AddsChainSums}
use Rattle.hecke_columns.proofs.Hits.{sparse-hits}
use Rattle.hecke_columns.proofs.Permuted.{IsColumn-permutation, sum_more, symbol_sum-append}
use Rattle.hecke_columns.proofs.Columns.{IsColumn-from_dense}

-- the sum over no matrix is 0
symbol_sum-none : (p N k : ℕ) → symbol_sum {p = p} N [] k ≡ zeros
symbol_sum-none p N k = sym (sparse-hits p N [] k) ∙ sparse_nil p

pub sum_none : (p N k : ℕ) (start : List ℕ) → dense p start ≡ dense p start ⊞ symbol_sum N [] k
sum_none p N k start = sym (ap (λ v. dense p start ⊞ v) (symbol_sum-none p N k) ∙ plus-zeros (dense p start))

-- the walk from a start has come to last, and the matrices so far are counted
pub record Counted (N p n k : ℕ) (start last : Matrix) (old counts : List ℕ) : Type 0 where
  pub items : List Matrix
  pub walked : Walked n start last [] items
  pub sum : dense p counts ≡ dense p old ⊞ symbol_sum N items k

pub count_begins : (N p n k : ℕ) (start : Matrix) (old : List ℕ) (hit v : ℕ) → IsMerel n start → hit ≡ image_number N k start → hit < length old
    → v ≡ (get_or old hit 0 + 1) % p
    → Counted N p n k start start old (set old hit v)
count_begins N p n k start old hit v h is within e = record {
  items = start ∷ [];
  walked = walk_begins n start [] (start ∷ []) h refl;
  sum = sum_more p N [] start k old old hit v is within e (sum_none p N k old);
}

pub count_goes_on : (N p n k : ℕ) (start last next : Matrix) (old counts : List ℕ) (hit v : ℕ) → Follows n last next → hit ≡ image_number N k next
    → hit < length counts → v ≡ (get_or counts hit 0 + 1) % p
    → Counted N p n k start last old counts → Counted N p n k start next old (set counts hit v)
count_goes_on N p n k start last next old counts hit v f is within e w = record {
  items = w.items ++ next ∷ [];
  walked = walk_goes_on n start last next [] w.items (w.items ++ next ∷ []) w.walked f refl;
  sum = sum_more p N w.items next k old counts hit v is within e w.sum;
}

pub count_ends : (N p n k : ℕ) (start last : Matrix) (old counts : List ℕ) → IsMerel n start → start.b ≡ pos 0 → last.c ≡ pos 0
    → Counted N p n k start last old counts → AddsChainSum N p n k start old counts
count_ends N p n k start last old counts h begins e w =
    let a = walk_ends n start last [] w.items h begins w.walked e in
    record { chain = a.chain; is = a.is; first = a.first; sum = w.sum ∙ ap (λ ms. dense p old ⊞ symbol_sum N ms k) a.items }

-- the chains of the first starts are counted
pub record PartCounted (N p n k : ℕ) (i : ℕ) (old counts : List ℕ) : Type 0 where
  pub chains : List (List Matrix)
  pub part : IsPart n i chains
  pub sum : dense p counts ≡ dense p old ⊞ symbol_sum N (flat_map (λ ms. ms) chains) k

pub counted_none : (N p n k : ℕ) (old : List ℕ) → PartCounted N p n k 0 old old
counted_none N p n k old = record { chains = []; part = part_none n [] refl; sum = sum_none p N k old }

pub counted_more : (N p n k i : ℕ) (items : List Matrix) (old counts new : List ℕ) → items ≡ starts n → i < length items
    → PartCounted N p n k i old counts
    → AddsChainSum N p n k (get_or items i zero_matrix) counts new → PartCounted N p n k (i + 1) old new
counted_more N p n k i items old counts new e l h a = record {
  chains = h.chains ++ a.chain ∷ [];
  part = part_more n i items h.chains (h.chains ++ a.chain ∷ []) a.chain e l h.part a.is a.first refl;
  sum = a.sum ∙ ap (λ v. v ⊞ symbol_sum N a.chain k) h.sum ∙ plus_assoc (dense p old) (symbol_sum N (flat_map (λ ms. ms) h.chains) k)
      (symbol_sum N a.chain k)
      ∙ ap (λ v. dense p old ⊞ v) (sym (symbol_sum-append p N (flat_map (λ ms. ms) h.chains) a.chain k)
      ∙ ap (λ ms. symbol_sum N ms k) (ap (λ xs. flat_map (λ ms. ms) h.chains ++ xs) (sym (append-nil a.chain))
      ∙ sym (flat_map-append (λ ms. ms) h.chains (a.chain ∷ []))));
}

pub counted_all : (N p n k i : ℕ) (items : List Matrix) (old counts : List ℕ) → items ≡ starts n → length items ≤ i → PartCounted N p n k i old counts
    → AddsChainSums N p n k old counts
counted_all N p n k i items old counts e l h = record { chains = h.chains; are = part_all n i items h.chains e l h.part; sum = h.sum }

-- what follows by its own determinant follows by that of the start
pub member_after : {N p n k : ℕ} {start last next : Matrix} {old counts : List ℕ} → Counted N p n k start last old counts
    → Follows (degree last) last next → Follows n last next
member_after {N} {p} {n} {k} {start} {last} {next} w f = subst (λ d. Follows d last next) (degree_is n last w.walked.is_member) f

-- what a start of the list keeps
pub start_coprime : (N n i : ℕ) (items : List Matrix) → (b : IsBeginning n (get_or items i zero_matrix)) → gcd n N ≡ 1
    → gcd (degree (get_or items i zero_matrix)) N ≡ 1
start_coprime N n i items b coprime = ap (λ d. gcd d N) b.degree_is ∙ coprime

-- the counts of the images of symbol k along all chains, made from zeros, give the column over Merel's set
pub IsColumn-from_chains : (g : Ground) (n k m : ℕ) (counts : List ℕ) (values : List ℕ) → k < length (symbols g.level) → 0 < n
    → AddsChainSums g.level g.characteristic n k (replicate m 0) counts → AreCoordinates g.level (dense g.characteristic counts) values
    → IsColumn g (merel_matrices n) k values
IsColumn-from_chains g n k m counts values within some h coordinates =
    IsColumn-permutation g (flat_map (λ ms. ms) h.chains) (merel_matrices n) k values within (chains_permutation n h.chains some h.are)
    (IsColumn-from_dense g (flat_map (λ ms. ms) h.chains) k m counts values within h.sum coordinates)
