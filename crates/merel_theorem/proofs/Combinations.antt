-- Maps of combinations that are given by the images of the symbols, as Hecke sums and star are: where two of them agree at each symbol modulo the
-- relations, they agree at each combination.
use Rattle.std.proofs.Common.{◌≡◌, ◌+◌, ◌<◌, ℕ, List, [], ◌∷◌, length, map, refl, sym, ◌∙◌, ap, arith}
use Rattle.std.specs.List.{range_with_len}
use Rattle.std.proofs.lemmas.List.FromFn.{get_or-range_with_len, length-map-range_with_len, length-range_with_len}
use Rattle.linear_algebra.specs.Residue.{Residue}
use Rattle.linear_algebra.specs.Vector.{Vector, ◌⊞◌, ◌⊡◌, zeros, tail, combination}
use Rattle.linear_algebra.specs.Span.{row}
use Rattle.linear_algebra.specs.Coordinates.{unit}
use Rattle.linear_algebra.proofs.ResidueLaws.{mul_comm}
use Rattle.linear_algebra.proofs.Vectors.{plus-zeros, plus_middle, scale-plus, scale-scale, scale-zeros, combination-combinations}
use Rattle.linear_algebra.proofs.Elimination.{combination-unit}
use Rattle.linear_algebra.proofs.Rows.{row-map}
use Rattle.linear_algebra.proofs.Congruence.{Congruent-combination}
use Rattle.p1_normal.specs.Points.{symbols}
use Rattle.p1_normal.specs.Actions.{image_number, matrix_star}
use Rattle.manin_relations.specs.Relations.{relations, Congruent}
use Rattle.heilbronn_sets.specs.Merel.{merel_matrices}
use Rattle.hecke_columns.specs.Hecke.{symbol_sum, merel_sum}
use Rattle.star_map.specs.Star.{star}
use Rattle.merel_theorem.proofs.Classes.{Same, same_by}

-- f x is the sum over all symbols k of x's residue at k times the image of k
pub record BySymbols {p : ℕ} (N : ℕ) (f : Vector p → Vector p) : Type 0 where
  pub image : ℕ → Vector p
  pub is : (x : Vector p) → f x ≡ combination x (map image (range_with_len 0 (length (symbols N))))

-- the image of symbol k, among those of all symbols
pub image_at : {p : ℕ} (N : ℕ) (g : ℕ → Vector p) (k : ℕ) → k < length (symbols N) → row (map g (range_with_len 0 (length (symbols N)))) k ≡ g k
image_at N g k within =
    row-map g (range_with_len 0 (length (symbols N))) k 0 (omega (arith, within, length-range_with_len 0 (length (symbols N))))
    ∙ ap g (get_or-range_with_len 0 (length (symbols N)) k 0 within ∙ plain k)
  where
    plain : (k : ℕ) → 0 + k ≡ k
    plain k = omega arith

pub length-images : {p : ℕ} (N : ℕ) (g : ℕ → Vector p) → length (map g (range_with_len 0 (length (symbols N)))) ≡ length (symbols N)
length-images N g = length-map-range_with_len g 0 (length (symbols N))

-- it is the map's value at k alone
pub value_at_symbol : {p : ℕ} (N : ℕ) (f : Vector p → Vector p) (h : BySymbols N f) (k : ℕ) → k < length (symbols N) → f (unit k) ≡ h.image k
value_at_symbol N f h k within =
    h.is (unit k) ∙ combination-unit (map h.image (range_with_len 0 (length (symbols N)))) k (omega (arith, within, length-images N h.image))
    ∙ image_at N h.image k within

-- what holds at each symbol holds at each combination
pub from_symbols : (p N : ℕ) (f g : Vector p → Vector p) → 0 < p → BySymbols N f → BySymbols N g
    → ((k : ℕ) → k < length (symbols N) → Same N (f (unit k)) (g (unit k))) → (x : Vector p) → Congruent N (f x) (g x)
from_symbols p N f g positive h j each x = (same_by (h.is x) (j.is x) whole).congruent
  where
    whole : Same N (combination x (map h.image (range_with_len 0 (length (symbols N)))))
        (combination x (map j.image (range_with_len 0 (length (symbols N)))))
    whole = record {
      congruent = Congruent-combination positive (relations {p = p} N) x (map h.image (range_with_len 0 (length (symbols N))))
          (map j.image (range_with_len 0 (length (symbols N)))) (length-images N h.image ∙ sym (length-images N j.image))
          (λ k l.
          let within : k < length (symbols N) = omega (arith, l, length-images N h.image) in
          (same_by (image_at N h.image k within ∙ sym (value_at_symbol N f h k within))
          (image_at N j.image k within ∙ sym (value_at_symbol N g j k within))
          (each k within)).congruent);
    }

-- ---- the maps
pub merel_by : {p : ℕ} (N n : ℕ) → BySymbols {p = p} N (merel_sum N n)
merel_by N n = record { image = symbol_sum N (merel_matrices n); is = λ x. refl }

pub star_by : {p : ℕ} (N : ℕ) → BySymbols {p = p} N (star N)
star_by N = record { image = λ k. unit (image_number N k matrix_star); is = λ x. refl }

-- one after the other
images_of_images : {p : ℕ} (f : Vector p → Vector p) (g : ℕ → Vector p) (ks : List ℕ) → map f (map g ks) ≡ map (λ k. f (g k)) ks
images_of_images f g [] = refl
images_of_images f g (k ∷ ks) = ap (λ vs. f (g k) ∷ vs) (images_of_images f g ks)

pub after_by : {p : ℕ} (N : ℕ) (f g : Vector p → Vector p) → BySymbols N f → BySymbols N g → BySymbols N (λ x. f (g x))
after_by {p} N f g h j = record {
  image = λ k. combination (j.image k) basis;
  is = λ x.
      h.is (g x) ∙ ap (λ v. combination v basis) (j.is x)
      ∙ sym (combination-combinations x (map j.image (range_with_len 0 (length (symbols N)))) basis)
      ∙ ap (combination x) (images_of_images (λ v. combination v basis) j.image (range_with_len 0 (length (symbols N))));
}
  where
    basis : List (Vector p)
    basis = map h.image (range_with_len 0 (length (symbols N)))

-- one, and a times another
both_images : {p : ℕ} (c : Vector p) (a : Residue p) (f g : ℕ → Vector p) (ks : List ℕ)
    → combination c (map f ks) ⊞ (a ⊡ combination c (map g ks)) ≡ combination c (map (λ k. f k ⊞ (a ⊡ g k)) ks)
both_images c a f g [] = ap (λ v. zeros ⊞ v) (scale-zeros a) ∙ plus-zeros zeros
both_images {p} c a f g (k ∷ ks) =
    let F : Vector p = combination (tail c) (map f ks) in
    let G : Vector p = combination (tail c) (map g ks) in
    sym (ap (λ v. (c 0 ⊡ (f k ⊞ (a ⊡ g k))) ⊞ v) (sym (both_images (tail c) a f g ks))
    ∙ ap (λ v. v ⊞ (F ⊞ (a ⊡ G))) (scale-plus (c 0) (f k) (a ⊡ g k) ∙ ap (λ v. (c 0 ⊡ f k) ⊞ v) (turned (c 0) a (g k)))
    ∙ plus_middle (c 0 ⊡ f k) (a ⊡ (c 0 ⊡ g k)) F (a ⊡ G)
    ∙ ap (λ v. ((c 0 ⊡ f k) ⊞ F) ⊞ v) (sym (scale-plus a (c 0 ⊡ g k) G)))
  where
    turned : {p : ℕ} (b a : Residue p) (v : Vector p) → b ⊡ (a ⊡ v) ≡ a ⊡ (b ⊡ v)
    turned b a v = sym (scale-scale b a v) ∙ ap (λ c. c ⊡ v) (mul_comm b a) ∙ scale-scale a b v

pub plus_by : {p : ℕ} (N : ℕ) (a : Residue p) (f g : Vector p → Vector p) → BySymbols N f → BySymbols N g → BySymbols N (λ x. f x ⊞ (a ⊡ g x))
plus_by N a f g h j = record {
  image = λ k. h.image k ⊞ (a ⊡ j.image k);
  is = λ x. ap (λ v. v ⊞ (a ⊡ g x)) (h.is x) ∙ ap (λ v. combination x (map h.image (range_with_len 0 (length (symbols N)))) ⊞ (a ⊡ v)) (j.is x)
      ∙ both_images x a h.image j.image (range_with_len 0 (length (symbols N)));
}
