-- The terms of an image, one after another.
use Rattle.std.proofs.Common.{◌≡◌, ◌+◌, ◌<◌, ℕ, ℤ, pos, Bool, true, List, [], ◌∷◌, ◌++◌, length, get_or, take, map, replicate, sym, ◌∙◌, ap, subst}
use Rattle.std.specs.List.{Contains}
use Rattle.std.proofs.lemmas.List.{map_more, get_or_default}
use Rattle.linear_algebra.specs.Vector.{◌⊞◌}
use Rattle.linear_algebra.specs.Sparse.{single, sparse}
use Rattle.linear_algebra.proofs.SparseLaws.{sparse-append, sparse-one, sparse_nil}
use Rattle.linear_algebra.specs.Integers.{residue_of}
use Rattle.field_table.specs.Terms.{residue_terms}
use Rattle.quotient_coords.specs.Quotient.{Ground, AreCoordinates, dimension}
use Rattle.p1_normal.specs.declared.matrix.Matrix.{Matrix}
use Rattle.hecke_columns.specs.Hecke.{AddsColumn, hecke_sum}
use Rattle.hecke_columns.proofs.Columns.{columns_start, columns_step}
use Rattle.session_core.proofs.DemandLemmas.{Contains-map}

-- what is read past the end of the terms
abbrev pub no_pair : ℕ × ℤ
no_pair = (0, pos 0)

-- one more term of a vector
sparse_residue_more : (p i : ℕ) (terms : List (ℕ × ℤ)) (t : ℕ × ℤ) → i < length terms → t ≡ get_or terms i no_pair
    → sparse p (residue_terms p (take i terms)) ⊞ single p t.0 (residue_of p t.1) ≡ sparse p (residue_terms p (take (i + 1) terms))
sparse_residue_more p i terms t within here = sym (
    ap (sparse p) (map_more (λ (s : ℕ × ℤ). (s.0, residue_of p s.1)) terms i no_pair within)
    ∙ ap (λ (s : ℕ × ℤ). sparse p (residue_terms p (take i terms) ++ (s.0, residue_of p s.1) ∷ [])) (sym here)
    ∙ sparse-append p (residue_terms p (take i terms)) ((t.0, residue_of p t.1) ∷ [])
    ∙ ap (λ v. sparse p (residue_terms p (take i terms)) ⊞ v) (sparse-one p (t.0, residue_of p t.1)))

-- before the first term there are zeros
pub image_start : (g : Ground) (L : List Matrix) (d : ℕ) (values : List ℕ) → 0 < g.characteristic → d ≡ dimension g.level g.characteristic
    → values ≡ replicate d 0
    → AreCoordinates g.level (hecke_sum g.level L (sparse g.characteristic [])) values
image_start g L d values positive count zero =
    subst (AreCoordinates g.level (hecke_sum g.level L (sparse g.characteristic []))) (sym (zero ∙ ap (λ k. replicate k 0) count))
    (subst (λ v. AreCoordinates g.level (hecke_sum g.level L v) (replicate (dimension g.level g.characteristic) 0))
    (sym (sparse_nil g.characteristic)) (columns_start g L positive))

-- after one more term there are the coordinates with it
pub image_more : (g : Ground) (L : List Matrix) (i a : ℕ) (terms : List (ℕ × ℤ)) (t : ℕ × ℤ) (old new : List ℕ) → 0 < g.characteristic
    → i < length terms → t ≡ get_or terms i no_pair
    → a ≡ residue_of g.characteristic t.1
    → AreCoordinates g.level (hecke_sum g.level L (sparse g.characteristic (residue_terms g.characteristic (take i terms)))) old
    → AddsColumn g L t.0 a old new
    → AreCoordinates g.level (hecke_sum g.level L (sparse g.characteristic (residue_terms g.characteristic (take (i + 1) terms)))) new
image_more g L i a terms t old new positive within here same before added =
    subst (λ v. AreCoordinates g.level (hecke_sum g.level L v) new) (sparse_residue_more g.characteristic i terms t within here)
    (subst (λ r. AreCoordinates g.level (hecke_sum g.level L (sparse g.characteristic (residue_terms g.characteristic (take i terms)) ⊞ single
    g.characteristic t.0 r)) new) same
    (columns_step g L (sparse g.characteristic (residue_terms g.characteristic (take i terms))) t.0 a old new positive before added))

-- a source that gives the symbols of all terms gives that of the term at i
pub gives_at : (numbers : List (ℕ × ℤ)) (i : ℕ) (before now : ℕ → Bool) → i < length numbers → now ≡ before
    → ((k : ℕ) → Contains (map (λ (t : ℕ × ℤ). t.0) numbers) k → before k ≡ true) → now (get_or numbers i no_pair).0 ≡ true
gives_at numbers i before now within same given =
    subst (λ (f : ℕ → Bool). f (get_or numbers i no_pair).0 ≡ true) (sym same)
    (given (get_or numbers i no_pair).0 (Contains-map (λ (t : ℕ × ℤ). t.0) numbers (get_or numbers i no_pair)
    (i, within, get_or_default numbers i (get_or numbers i no_pair) no_pair within)))

-- the dimension at equal grounds
pub same_ground : (s g : Ground) → s ≡ g → dimension s.level s.characteristic ≡ dimension g.level g.characteristic
same_ground s g same = ap (λ (x : Ground). dimension x.level x.characteristic) same

-- a column that was added at an equal ground
pub added_at : (s g : Ground) (L M : List Matrix) (k a : ℕ) (old new : List ℕ) → s ≡ g → L ≡ M → AddsColumn s L k a old new
    → AddsColumn g M k a old new
added_at s g L M k a old new same list added =
    subst (λ (K : List Matrix). AddsColumn g K k a old new) list (subst (λ (x : Ground). AddsColumn x L k a old new) same added)
