-- Powers of an operator, and their images on a stable subspace.
use Rattle.std.proofs.Common.{◌≡◌, ◌+◌, ◌<◌, ℕ, zero, suc, List, [], ◌∷◌, map, refl, sym, ◌∙◌, ap, subst, arith}
use Rattle.linear_algebra.specs.Residue.{Residue}
use Rattle.linear_algebra.specs.Vector.{Vector, ◌⊞◌, ◌⊡◌, zeros, tail, combination, minus, EndsBefore}
use Rattle.linear_algebra.specs.Span.{Each, InSpan}
use Rattle.linear_algebra.proofs.Vectors.{combination-plus, combination-scale, combination-zeros}
use Rattle.linear_algebra.proofs.Differences.{combination-minus}
use Rattle.linear_algebra.proofs.Support.{EndsBefore-combination}
use Rattle.stable_subspaces.specs.Operator.{apply, power, IsStable, InImage}

-- the power of a sum
pub power-plus : {p : ℕ} (n : ℕ) (a : List (Vector p)) (v w : Vector p) → power n a (v ⊞ w) ≡ power n a v ⊞ power n a w
power-plus zero a v w = refl
power-plus (suc n) a v w = ap (apply a) (power-plus n a v w) ∙ combination-plus (power n a v) (power n a w) a

-- of a multiple
pub power-scale : {p : ℕ} (n : ℕ) (a : List (Vector p)) (c : Residue p) (v : Vector p) → power n a (c ⊡ v) ≡ c ⊡ power n a v
power-scale zero a c v = refl
power-scale (suc n) a c v = ap (apply a) (power-scale n a c v) ∙ combination-scale c (power n a v) a

-- powers commute with A
pub power-apply : {p : ℕ} (n : ℕ) (a : List (Vector p)) (v : Vector p) → power n a (apply a v) ≡ apply a (power n a v)
power-apply zero a v = refl
power-apply (suc n) a v = ap (apply a) (power-apply n a v)

-- of 0
pub power-zeros : {p : ℕ} (n : ℕ) (a : List (Vector p)) → power n a zeros ≡ zeros
power-zeros zero a = refl
power-zeros (suc n) a = ap (apply a) (power-zeros n a) ∙ combination-zeros a

-- powers keep a stable subspace
pub power_stays : {p : ℕ} (n : ℕ) (a rows : List (Vector p)) (v : Vector p) → IsStable a rows → InSpan rows v → InSpan rows (power n a v)
power_stays zero a rows v s h = h
power_stays (suc n) a rows v s h = s.stays (power n a v) (power_stays n a rows v s h)

-- the image of the next power lies in the image of this one
pub image_down : {p : ℕ} (n : ℕ) (a rows : List (Vector p)) (v : Vector p) → IsStable a rows → InImage (suc n) a rows v → InImage n a rows v
image_down n a rows v s h = record {
  source = apply a h.source;
  inside = s.stays h.source h.inside;
  is_value = h.is_value
      ∙ sym (power-apply n a h.source);
}

-- and so in the image of each power before
pub downs : {p : ℕ} {a rows : List (Vector p)} (j n : ℕ) (v : Vector p) → IsStable a rows → InImage (j + n) a rows v → InImage n a rows v
downs {a = a} {rows = rows} zero n v s h = subst (λ m. InImage m a rows v) (let e : 0 + n ≡ n = omega arith in e) h
downs {a = a} {rows = rows} (suc j) n v s h = downs j n v s (image_down (j + n) a rows v s
    (subst (λ m. InImage m a rows v) (let e : suc j + n ≡ suc (j + n) = omega arith in e) h))

-- a power of a sum of exponents
pub power-add : {p : ℕ} (m n : ℕ) (a : List (Vector p)) (v : Vector p) → power (m + n) a v ≡ power m a (power n a v)
power-add zero n a v = ap (λ k. power k a v) (let e : 0 + n ≡ n = omega arith in e)
power-add (suc m) n a v = ap (λ k. power k a v) (let e : suc m + n ≡ suc (m + n) = omega arith in e) ∙ ap (apply a) (power-add m n a v)

-- of a difference
pub power-minus : {p : ℕ} → 0 < p → (n : ℕ) (a : List (Vector p)) (v w : Vector p) → power n a (minus v w) ≡ minus (power n a v) (power n a w)
power-minus positive zero a v w = refl
power-minus positive (suc n) a v w = ap (apply a) (power-minus positive n a v w) ∙ combination-minus positive (power n a v) (power n a w) a

-- of a combination
pub power-combination : {p : ℕ} (n : ℕ) (a : List (Vector p)) (c : Vector p) (rows : List (Vector p))
    → power n a (combination c rows) ≡ combination c (map (power n a) rows)
power-combination n a c [] = power-zeros n a
power-combination n a c (r ∷ rows) = power-plus n a (c 0 ⊡ r) (combination (tail c) rows)
    ∙ rw (power-scale n a (c 0) r, power-combination n a (tail c) rows) refl

-- a power of a vector of length d has length d, where the columns have
pub EndsBefore-power : {p : ℕ} (n d : ℕ) (a : List (Vector p)) (v : Vector p) → Each (EndsBefore d) a → EndsBefore d v → EndsBefore d (power n a v)
EndsBefore-power zero d a v ends h = h
EndsBefore-power (suc n) d a v ends h = EndsBefore-combination d (power n a v) a ends

-- the image of the span is spanned by the images of the rows
pub InSpan-image : {p : ℕ} (n : ℕ) (a rows : List (Vector p)) (v : Vector p) → InImage n a rows v → InSpan (map (power n a) rows) v
InSpan-image n a rows v h = record {
  coefficients = h.inside.coefficients;
  is_combination = h.is_value ∙ ap (power n a) h.inside.is_combination
      ∙ power-combination n a h.inside.coefficients rows;
}

-- and what the images of the rows span is in the image
pub image_from_span : {p : ℕ} (n : ℕ) (a rows : List (Vector p)) (v : Vector p) → InSpan (map (power n a) rows) v → InImage n a rows v
image_from_span n a rows v h = record {
  source = combination h.coefficients rows;
  inside =
      record { coefficients = h.coefficients; is_combination = refl };
  is_value = h.is_combination ∙ sym (power-combination n a h.coefficients rows);
}
