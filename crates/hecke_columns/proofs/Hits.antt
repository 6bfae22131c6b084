-- How often the symbols are hit: counts as vectors.
use Rattle.std.proofs.Common.{◌≡◌, ◌+◌, ◌%◌, ◌<◌, ℕ, List, length, get_or, set, take, refl, sym, ◌∙◌, ap, arith}
use Rattle.std.proofs.lemmas.List.{get_or-map, length-map, take_all}
use Rattle.std.proofs.lemmas.List.Elements.{All-set}
use Rattle.linear_algebra.specs.Residue.{residue}
use Rattle.linear_algebra.specs.Vector.{◌⊞◌, ◌⊡◌}
use Rattle.linear_algebra.specs.Dense.{dense}
use Rattle.linear_algebra.specs.Sparse.{sparse}
use Rattle.linear_algebra.proofs.Vectors.{one-scale}
use Rattle.field_table.specs.Residues.{AreResidues}
use Rattle.field_table.proofs.Lists.{dense_more, dense_start}
use Rattle.manin_relations.proofs.RelationVectors.{ones, sparse-ones}
use Rattle.p1_normal.specs.declared.matrix.Matrix.{Matrix}
use Rattle.p1_normal.specs.Actions.{image_number}
use Rattle.hecke_columns.specs.Hecke.{images, symbol_sum}

-- a term of 1 at the image of symbol k by each matrix
abbrev pub hits : ℕ → List Matrix → ℕ → List (ℕ × ℕ)
hits N L k = ones 1 (images N L k)

-- they are as many as the matrices
length-hits : (N : ℕ) (L : List Matrix) (k : ℕ) → length (hits N L k) ≡ length L
length-hits N L k = length-map (images N L k) (λ j. (j, 1)) ∙ length-map L (image_number N k)

-- the term of matrix i
get_or-hits : (N : ℕ) (L : List Matrix) (k i : ℕ) (d : Matrix) → i < length L → get_or (hits N L k) i (0, 0) ≡ (image_number N k (get_or L i d), 1)
get_or-hits N L k i d l =
    get_or-map (λ j. (j, 1)) (images N L k) i 0 (0, 0) (omega (arith, length-map L (image_number N k)))
    ∙ ap (λ j. (j, 1)) (get_or-map (image_number N k) L i d 0 l)

-- their sum counts the images
pub sparse-hits : (p N : ℕ) (L : List Matrix) (k : ℕ) → sparse p (hits N L k) ≡ symbol_sum N L k
unfolding symbol_sum
sparse-hits p N L k = λ i j. sparse-ones p 1 (images N L k) j refl i

-- the hits of the first i matrices are added to a list of residues
pub record AreAdded (p N : ℕ) (L : List Matrix) (k : ℕ) (start : List ℕ) (i : ℕ) (counts : List ℕ) : Type 0 where
  pub sum : dense p counts ≡ dense p start ⊞ residue p 1 ⊡ sparse p (take i (hits N L k))
  pub residues : AreResidues p counts

-- none yet
pub added_none : (p N : ℕ) (L : List Matrix) (k : ℕ) (start : List ℕ) → AreResidues p start → AreAdded p N L k start 0 start
added_none p N L k start residues = record { sum = dense_start p 1 start (hits N L k); residues = residues }

-- one more
pub added_more : (p N : ℕ) (L : List Matrix) (k : ℕ) (start : List ℕ) (i : ℕ) (counts : List ℕ) (d : Matrix) (hit v : ℕ) → i < length L
    → hit ≡ image_number N k (get_or L i d) → hit < length counts
    → v ≡ (get_or counts hit 0 + 1) % p → v < p → AreAdded p N L k start i counts → AreAdded p N L k start (i + 1) (set counts hit v)
added_more p N L k start i counts d hit v l is_hit within e below h =
    let term = get_or-hits N L k i d l in
    record {
      sum = dense_more p 1 hit 1 v counts start (hits N L k) i (omega (arith, length-hits N L k)) (ap (λ t. t.0) term ∙ sym is_hit)
          (ap (λ t. t.1) term) within e h.sum;
      residues = All-set (λ x. x < p) counts hit v below h.residues;
    }

-- all of them are the sum of the symbol
pub added_all : (p N : ℕ) (L : List Matrix) (k : ℕ) (start counts : List ℕ) → AreAdded p N L k start (length L) counts
    → dense p counts ≡ dense p start ⊞ symbol_sum N L k
added_all p N L k start counts h =
    h.sum ∙ ap (λ v. dense p start ⊞ v) (one-scale (sparse p (take (length L) (hits N L k)))
    ∙ ap (sparse p) (take_all (length L) (hits N L k) (omega (arith, length-hits N L k))) ∙ sparse-hits p N L k)
