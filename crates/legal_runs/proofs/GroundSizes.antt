-- The numbers of a ground are below 2^32: of its symbols, of its residues, and of the parts of its splittings.
use Rattle.std.proofs.Common.{◌<◌, ◌≤◌, ◌*◌, ℕ, List, [], ◌∷◌, length, map, All, get_or, arith}
use Rattle.std.proofs.lemmas.List.Elements.{All-map, All-nil, All-cons}
use Rattle.linear_algebra.specs.Dense.{dense_rows}
use Rattle.linear_algebra.specs.Prime.{IsPrime}
use Rattle.linear_algebra.specs.Span.{Each, more, InSpan}
use Rattle.field_table.specs.Residues.{AreResidues, HasResidues}
use Rattle.field_table.specs.Table.{IsListed}
use Rattle.field_table.specs.Terms.{HasPlacesBelow}
use Rattle.field_table.proofs.TableFacts.{listed_small}
use Rattle.p1_normal.specs.declared.level.TheConstants.{MAX_LEVEL}
use Rattle.p1_normal.specs.declared.point.Point.{Point}
use Rattle.p1_normal.specs.Points.{symbol_at, symbols, IsBelow}
use Rattle.p1_normal.proofs.Marking.{length-symbols, small_square}
use Rattle.p1_normal.proofs.Numbers.{IsNumber-symbol_at}
use Rattle.p1_normal.proofs.Symbols.{symbol_is}
use Rattle.quotient_coords.specs.Quotient.{Ground, dimension, ground_of}
use Rattle.quotient_coords.proofs.Spaces.{dimension-le}
use Rattle.dense_mat.specs.Subspace.{Subspace, IsBasisOf}
use Rattle.dense_mat.proofs.Bases.{few_of-basis}
use Rattle.script_text.specs.declared.space.SpaceLine.{SpaceLine}
use Rattle.script_text.specs.Valid.{IsSpace}
use Rattle.legal_runs.proofs.WrittenLexemes.{IsSmall, IsSmallPoint, IsSmallPair}

pub record IsGround (g : Ground) : Type 0 where
  pub some : 0 < g.level
  pub few : g.level ≤ MAX_LEVEL
  pub listed : IsListed g.characteristic

-- the space of a script has such a ground
pub space_ground : (space : SpaceLine) → IsSpace space → IsGround (ground_of space.modulus space.characteristic)
space_ground space is = record { some = omega (arith, is.least); few = is.most; listed = is.listed }

module _ (g : Ground) (is : IsGround g) where
  pub few_symbols : length (symbols g.level) ≤ MAX_LEVEL * MAX_LEVEL
  few_symbols = omega (arith, length-symbols g.level, small_square g.level is.few)

  pub few_dimensions : dimension g.level g.characteristic ≤ MAX_LEVEL * MAX_LEVEL
  few_dimensions = omega (arith, dimension-le g.level g.characteristic, few_symbols)

  pub point_small : (q : Point) → IsBelow g.level q → IsSmallPoint q
  point_small q below = (omega (arith, below.first, is.few), omega (arith, below.second, is.few))

  pub symbols_small : (ks : List ℕ) → All (λ k. k < length (symbols g.level)) ks → All IsSmallPoint (map (symbol_at g.level) ks)
  symbols_small ks below = All-map IsSmallPoint (symbol_at g.level) ks
      (λ i d l. point_small (symbol_at g.level (get_or ks i d)) (symbol_is g.level (get_or ks i d) (symbol_at g.level (get_or ks i d)) is.some
      (IsNumber-symbol_at g.level (get_or ks i d) (below i d l))).below)

  pub residue_small : (x : ℕ) → x < g.characteristic → IsSmall x
  residue_small x l = omega (arith, l, listed_small g.characteristic is.listed)

  pub residues_small : (xs : List ℕ) → AreResidues g.characteristic xs → All IsSmall xs
  residues_small xs h = λ k d l. residue_small (get_or xs k d) (h k d l)

  pub terms_small : (ts : List (ℕ × ℕ)) → HasPlacesBelow (2 * length (symbols g.level)) ts → HasResidues g.characteristic ts → All IsSmallPair ts
  terms_small ts places residues = λ k d l. (omega (arith, places k d l, few_symbols), residue_small (get_or ts k d).1 (residues k d l))

-- the bases of parts are not larger than the space
pub sizes_few : (p d : ℕ) → IsPrime p → (parts : List Subspace) → Each (λ (b : Subspace). IsBasisOf p d (InSpan (dense_rows p b.rows)) b) parts
    → All (λ n. n ≤ d) (map (λ (part : Subspace). length part.rows) parts)
sizes_few p d prime [] h = All-nil (λ n. n ≤ d)
sizes_few p d prime (b ∷ parts) (more k h) =
    All-cons (λ n. n ≤ d) (length b.rows) (map (λ (part : Subspace). length part.rows) parts)
    (few_of-basis p d prime (InSpan (dense_rows p b.rows)) b k) (sizes_few p d prime parts h)
