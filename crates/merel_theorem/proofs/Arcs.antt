-- The arc of a lattice is the sum of a symbol over the chain of the lattice. It joins the two ends of the chain, so that it depends on the lattice
-- alone; and Merel's sum of determinant n of a symbol is the sum of its arcs over all lattices of index n.
use Rattle.merel_theorem.proofs.Classes.{Same, difference, same_by, same_from, same_sym, same_trans}
use Rattle.merel_theorem.proofs.Totals.{total, total-joined, total-map, total-more, total-none, total-permutation, total_congruent}
use Rattle.std.proofs.Common.{ℕ, sym, ap, subst, List, [], length, refl, ◌≡◌, ◌<◌, ◌∷◌, ◌∙◌}
use Rattle.linear_algebra.specs.Vector.{Vector, ◌⊞◌, minus}
use Rattle.linear_algebra.specs.Coordinates.{unit}
use Rattle.p1_normal.specs.Points.{symbols}
use Rattle.p1_normal.specs.Actions.{image_number}
use Rattle.heilbronn_sets.specs.Merel.{merel_matrices, starts}
use Rattle.hecke_columns.specs.Hecke.{symbol_sum, merel_sum}
use Rattle.std.specs.Prelude.{pos}
use Rattle.p1_normal.specs.declared.matrix.Matrix.{Matrix}
use Rattle.p1_normal.specs.Units.{gcd}
use Rattle.merel_theorem.proofs.Terms.{identity, by_identity}
use Rattle.heilbronn_chains.proofs.Runs.{merel_from_start, chain_run, has_run, chain_from_run, start_from_merel}
use Rattle.heilbronn_chains.specs.Chains.{IsChain, member}
use Rattle.merel_theorem.proofs.Bases.{Over, Over_trans, Over_sym, start_of, left_identity, Over_refl}
use Rattle.heilbronn_chains.proofs.ChainLists.{All-starts, chains_permutation}
use Rattle.std.specs.List.{flat_map}
use Rattle.merel_theorem.proofs.Chains.{from_end, chain_sum, sum-none, sum-more}
use Rattle.merel_theorem.proofs.Lands.{chains_from}
use Rattle.hecke_columns.proofs.Sums.{hecke_sum-unit}
use Rattle.merel_theorem.proofs.Moved.{HasIndex, index_invertible, index_nonzero, start_index}
use Rattle.merel_theorem.proofs.Respects.{identity_index}

-- ---- from 0 to infinity in the lattice of g
unfoldable pub arc : {p : ℕ} → ℕ → ℕ → Matrix → Vector p
arc N k g = minus (from_end N k g (pos 0) (pos 1)) (from_end N k g (pos 1) (pos 0))

pub arc_is : (p N k q : ℕ) (g t : Matrix) (ms : List Matrix) → 0 < p → k < length (symbols N) → HasIndex N q g → IsChain q ms → member ms 0 ≡ t
    → Over g t
    → Same {p = p} N (symbol_sum N ms (image_number N k identity)) (arc N k g)
unfolding arc
arc_is p N k q g t ms positive within index chain first over =
    difference positive (symbol_sum N ms (image_number N k identity)) (from_end N k g (pos 1) (pos 0)) (from_end N k g (pos 0) (pos 1))
    (chain_sum p N k q g identity ms positive index.positive within (index_invertible N q g index) (index_nonzero N q g index)
    (index_invertible N 1 identity (identity_index N)) chain (subst (Over g) (sym (left_identity (member ms 0) ∙ first)) over))

-- that of each basis of the lattice
pub arc_over : (p N k q : ℕ) (g m : Matrix) → 0 < p → k < length (symbols N) → HasIndex N q g → HasIndex N q m → Over g m → Same {p = p} N
    (arc N k g) (arc N k m)
arc_over p N k q g m positive within index other over =
    let t = start_of q g index.positive index.determinant_is in
    let merel = merel_from_start q t.start index.positive t.is in
    let r = has_run q t.start merel in
    let ms : List Matrix = t.start ∷ r.rest in
    let chain = chain_from_run q t.start r.rest merel t.is.upper r.run in
    same_trans positive (same_sym positive (arc_is p N k q g t.start ms positive within index chain refl (Over_sym t.over)))
    (arc_is p N k q m t.start ms positive within other chain refl (Over_sym (Over_trans t.over over)))

-- ---- Merel's sum of one symbol, over all lattices of index q
pub symbol_total : (p N k : ℕ) (L : List Matrix) → symbol_sum {p = p} N L k ≡ total (λ m. unit (image_number N k m)) L
symbol_total p N k [] = sum-none p N k ∙ sym (total-none (λ m. unit (image_number N k m)))
symbol_total p N k (m ∷ L) = sum-more p N m L k ∙ ap (λ v. unit (image_number N k m) ⊞ v) (symbol_total p N k L) ∙ sym
    (total-more (λ m. unit (image_number N k m)) m L)

pub single_sum : (p N q k : ℕ) → 0 < p → 0 < q → gcd q N ≡ 1 → k < length (symbols N) → Same {p = p} N (merel_sum N q (unit k))
    (total (arc N k) (starts q))
single_sum p N q k positive some coprime within =
    let L : List Matrix = merel_matrices q in
    let c = chains_from q (starts q) some (All-starts q) in
    let image : Matrix → Vector p = λ m. unit (image_number N k m) in
    same_trans positive (same_from positive (hecke_sum-unit N L k within ∙ symbol_total p N k L
    ∙ sym (total-permutation image (flat_map (λ ms. ms) c.chains) L
    (chains_permutation q c.chains some (record { chains = c.are; begins = c.begins })))
    ∙ total-joined image c.chains))
    (same_trans positive (total_congruent positive (IsChain q) (total image) (λ ms. arc N k (member ms 0)) c.chains c.are along)
    (same_from positive (sym (total-map (arc {p = p} N k) (λ ms. member ms 0) c.chains) ∙ ap (total (arc {p = p} N k)) c.begins)))
  where
    along : (ms : List Matrix) → IsChain q ms → Same {p = p} N (total (λ m. unit (image_number N k m)) ms) (arc N k (member ms 0))
    along ms chain =
        let r = chain_run q ms chain in
        let index : HasIndex N q r.first = start_index N q r.first some coprime (start_from_merel q r.first r.is_member r.begins) in
        let first : member ms 0 ≡ r.first = ap (λ ws. member ws 0) r.is in
        same_by (sym (symbol_total p N k ms) ∙ ap (symbol_sum {p = p} N ms) (sym (by_identity N k within))) (ap (arc N k) first)
        (arc_is p N k q r.first r.first ms positive within index chain first (Over_refl r.first))
