-- Fitting's splitting: where the images of the powers stop shrinking, each vector is in one way the sum of a vector that some power sends to 0
-- and of one that lies in the image of each power.
use Rattle.std.proofs.Common.{◌≡◌, ◌+◌, ◌<◌, ◌≤◌, ℕ, zero, suc, List, map, length, refl, sym, ◌∙◌, ap, subst, arith}
use Rattle.std.proofs.Math.ListN.{length-map}
use Rattle.std.proofs.Math.Decide.{ℕ_discrete}
use Rattle.linear_algebra.specs.Prime.{IsPrime}
use Rattle.linear_algebra.specs.Vector.{Vector, ◌⊞◌, zeros, combination, minus, EndsBefore}
use Rattle.linear_algebra.specs.Span.{Each, InSpan}
use Rattle.linear_algebra.proofs.Vectors.{combination-zeros, combination-combinations}
use Rattle.linear_algebra.proofs.Rows.{combination_same}
use Rattle.linear_algebra.proofs.Spans.{Each-weaker, Each-map, Each-InSpan}
use Rattle.linear_algebra.proofs.Differences.{minus_self, minus_and_plus, minus_across, minus_none}
use Rattle.linear_algebra.proofs.Congruence.{InSpan-minus}
use Rattle.linear_algebra.proofs.Dimension.{spans_all, independent_le}
use Rattle.linear_algebra.proofs.Existence.{basis_exists}
use Rattle.linear_algebra.proofs.Spanning.{independent_from_spanning}
use Rattle.stable_subspaces.specs.Operator.{apply, power, IsStable, InImage, InKernel}
use Rattle.stable_subspaces.specs.Fitting.{generalised_kernel, eventual_image, IsImageBasis, IsFittingPair}
use Rattle.stable_subspaces.specs.Splitting.{IsSumOfTwo}
use Rattle.stable_subspaces.proofs.Powers.{power-minus, power-zeros, power-apply, power-add, power_stays, image_down, downs, EndsBefore-power, InSpan-image, image_from_span}

-- kernels and images of powers hold differences
InKernel-minus : {p : ℕ} → 0 < p → (n : ℕ) (a rows : List (Vector p)) (v w : Vector p) → InKernel n a rows v → InKernel n a rows w
    → InKernel n a rows (minus v w)
InKernel-minus positive n a rows v w h g = record {
  inside = InSpan-minus positive rows v w h.inside g.inside;
  is_zero = power-minus positive n a v w
      ∙ rw (h.is_zero, g.is_zero) (minus_self positive zeros);
}

-- images of powers hold differences
InImage-minus : {p : ℕ} → 0 < p → (n : ℕ) (a rows : List (Vector p)) (v w : Vector p) → InImage n a rows v → InImage n a rows w
    → InImage n a rows (minus v w)
InImage-minus positive n a rows v w h g = record {
  source = minus h.source g.source;
  inside = InSpan-minus positive rows h.source g.source h.inside g.inside;
  is_value = ap (λ x. minus x w) h.is_value ∙ ap (minus (power n a h.source)) g.is_value ∙ sym (power-minus positive n a h.source g.source);
}

module _ {p : ℕ} (prime : IsPrime p) (a rows : List (Vector p)) (s : IsStable a rows) (k : ℕ) (first next : List (Vector p))
    (f : IsImageBasis k a rows first) (g : IsImageBasis (suc k) a rows next) (same : length next ≡ length first) where
  -- a prime is above 0
  positive : 0 < p
  positive = omega (arith, prime.above_one)

  -- the image of the power k is that of the next power
  pub stops : (v : Vector p) → InImage k a rows v → InImage (suc k) a rows v
  stops v h = g.only v (spans_all prime first next g.independent (Each-weaker next (λ w e. f.all w (image_down k a rows w s (g.only w e)))
      (Each-InSpan next)) same v (f.all v h))

  -- and of each later one
  pub lasts : (j : ℕ) (v : Vector p) → InImage k a rows v → InImage (j + k) a rows v
  lasts zero v h = subst (λ n. InImage n a rows v) (let e : k ≡ 0 + k = omega arith in e) h
  lasts (suc j) v h =
      let t = stops v h in
      let u = lasts j (power k a t.source) (record { source = t.source; inside = t.inside; is_value = refl }) in
      subst (λ n. InImage n a rows v) (let e : suc (j + k) ≡ suc j + k = omega arith in e)
      (record { source = u.source; inside = u.inside; is_value = t.is_value ∙ ap (apply a) u.is_value })

  -- so it is the eventual image
  pub in_all : (v : Vector p) → InImage k a rows v → eventual_image a rows v
  in_all v h n = downs k n v s (subst (λ m. InImage m a rows v) (let e : n + k ≡ k + n = omega arith in e) (lasts n v h))

  -- each vector is such a sum
  pub splits : (w : Vector p) → InSpan rows w → (z : Vector p) × (u : Vector p) × generalised_kernel a rows z × eventual_image a rows u × (w ≡ z ⊞ u)
  splits w h = (
    minus w u,
    u,
    (k, record { inside = InSpan-minus positive rows w u h (power_stays k a rows y s t.inside); is_zero = gone }),
    in_all u
        (record { source = y; inside = t.inside; is_value = refl }),
    sym (minus_and_plus positive w u),
  )
    where
      t : InImage (k + k) a rows (power k a w)
      t = lasts k (power k a w) (record { source = w; inside = h; is_value = refl })

      y : Vector p
      y = t.source

      u : Vector p
      u = power k a y

      gone : power k a (minus w u) ≡ zeros
      gone = power-minus positive k a w u ∙ ap (minus (power k a w)) (sym (power-add k k a y) ∙ sym t.is_value) ∙ minus_self positive (power k a w)

  -- the images of the basis under A
  images : List (Vector p)
  images = map (λ d. combination d a) first

  -- they span the image of the power k
  row_from_images : (v : Vector p) → InSpan first v → InSpan images v
  unfolding images
  row_from_images v h =
      let t = stops v (f.only v h) in
      let c = f.all (power k a t.source) (record { source = t.source; inside = t.inside; is_value = refl }) in
      record {
        coefficients = c.coefficients;
        is_combination = t.is_value ∙ ap (apply a) c.is_combination
            ∙ sym (combination-combinations c.coefficients first a);
      }

  -- A sends only 0 of the image to 0
  one_to_one : (v : Vector p) → InSpan first v → apply a v ≡ zeros → v ≡ zeros
  unfolding images
  one_to_one v h z =
      let i = independent_from_spanning prime images first f.independent (Each-weaker first row_from_images (Each-InSpan first))
      (length-map first (λ d. combination d a)) in
      let none' = i.only_zero h.coefficients (combination-combinations h.coefficients first a ∙ ap (apply a) (sym h.is_combination) ∙ z) in
      h.is_combination ∙ combination_same h.coefficients zeros first (λ j l. none' j
      (subst (λ n. j < n) (sym (length-map first (λ d. combination d a))) l)) ∙ combination-zeros first

  -- A keeps the image of the power k
  first_stays : (v : Vector p) → InSpan first v → InSpan first (apply a v)
  first_stays v h =
      let t = f.only v h in
      f.all (apply a v) (record {
        source = apply a t.source;
        inside = s.stays t.source t.inside;
        is_value = ap (apply a) t.is_value
            ∙ sym (power-apply k a t.source);
      })

  -- and so do its powers
  powers_stay : (n : ℕ) (v : Vector p) → InSpan first v → InSpan first (power n a v)
  powers_stay zero v h = h
  powers_stay (suc n) v h = first_stays (power n a v) (powers_stay n v h)

  -- a power of A sends only 0 of the image to 0
  only_zero_at : (n : ℕ) (v : Vector p) → InSpan first v → power n a v ≡ zeros → v ≡ zeros
  only_zero_at zero v h z = z
  only_zero_at (suc n) v h z = only_zero_at n v h (one_to_one (power n a v) (powers_stay n v h) z)

  -- a vector that some power sends to 0 is sent to 0 by the power k
  pub kernel_stops : (v : Vector p) → generalised_kernel a rows v → InKernel k a rows v
  kernel_stops v (n, h) = record {
    inside = h.inside;
    is_zero = only_zero_at n (power k a v) (f.all (power k a v) (record { source = v; inside = h.inside; is_value = refl }))
        (sym (power-add n k a v) ∙ ap (λ m. power m a v) (let e : n + k ≡ k + n = omega arith in e) ∙ power-add k n a v ∙ ap (power k a) h.is_zero
        ∙ power-zeros k a);
  }

  -- only 0 is in both parts
  pub apart : (v : Vector p) → generalised_kernel a rows v → eventual_image a rows v → v ≡ zeros
  apart v (n, h) l = only_zero_at n v (f.all v (l k)) h.is_zero

  -- the parts of a vector are unique
  pub parts_once : (z u z' u' : Vector p) → generalised_kernel a rows z → generalised_kernel a rows z' → eventual_image a rows u
      → eventual_image a rows u' → z ⊞ u ≡ z' ⊞ u' → (z ≡ z') × (u ≡ u')
  parts_once z u z' u' h h' g g' e =
      let across : minus z z' ≡ minus u' u = minus_across positive z u z' u' e in
      let kernel : generalised_kernel a rows (minus z z') = (k, InKernel-minus positive k a rows z z' (kernel_stops z h) (kernel_stops z' h')) in
      let image : eventual_image a rows (minus z z') = λ n. subst (InImage n a rows) (sym across)
      (InImage-minus positive n a rows u' u (g' n) (g n)) in
      let none' : minus z z' ≡ zeros = apart (minus z z') kernel image in
      (minus_none positive z z' none', sym (minus_none positive u' u (sym across ∙ none')))

-- a falling size stands still somewhere
stands_still : (size : ℕ → ℕ) → ((n : ℕ) → size (suc n) ≤ size n) → (fuel n : ℕ) → size n ≤ fuel → (k : ℕ) × (size (suc k) ≡ size k)
stands_still size falls zero n l = (n, omega (arith, falls n))
stands_still size falls (suc fuel) n l = by_case (ℕ_discrete (size (suc n)) (size n)) (stands_still size falls fuel (suc n))
  where
    by_case : Dec (size (suc n) ≡ size n) → (size (suc n) ≤ fuel → (k : ℕ) × (size (suc k) ≡ size k)) → (k : ℕ) × (size (suc k) ≡ size k)
    by_case (yes e) later = (n, e)
    by_case (no other) later = later (omega (arith, falls n))

module _ {p : ℕ} (prime : IsPrime p) (d : ℕ) (a rows : List (Vector p)) (columns : Each (EndsBefore d) a) (ends : Each (EndsBefore d) rows)
    (s : IsStable a rows) where
  -- the images of the rows have length d
  image_ends : (n : ℕ) → Each (EndsBefore d) (map (power n a) rows)
  image_ends n = Each-map (power n a) rows (Each-weaker rows (λ v h. EndsBefore-power n d a v columns h) ends)

  -- the image of each power has a basis
  pub image_basis : (n : ℕ) → (basis : List (Vector p)) × IsImageBasis n a rows basis
  image_basis n =
      let (basis, b) = basis_exists prime d (map (power n a) rows) (image_ends n) in (
        basis,
        record {
          independent = b.independent;
          all = λ v h. b.same.forth v (InSpan-image n a rows v h);
          only =
              λ v h. image_from_span n a rows v (b.same.back v h);
        },
      )

  -- the dimension of the image of the power n
  size : ℕ → ℕ
  size n = length (image_basis n).0

  -- does not grow with n
  falls : (n : ℕ) → size (suc n) ≤ size n
  unfolding size
  falls n = let f = (image_basis n).1 in let g = (image_basis (suc n)).1 in
      independent_le prime (image_basis n).0 (image_basis (suc n)).0 g.independent
      (Each-weaker (image_basis (suc n)).0 (λ v h. f.all v (image_down n a rows v s (g.only v h))) (Each-InSpan (image_basis (suc n)).0))

  -- and stands still somewhere
  still : (k : ℕ) × (size (suc k) ≡ size k)
  still = stands_still size falls (size 0) 0 (omega arith)

  -- each vector is in exactly one way the sum of a vector of the generalised kernel and of one of the eventual image
  pub fitting_splits : (w : Vector p) → InSpan rows w → (z : Vector p) × (u : Vector p) × generalised_kernel a rows z × eventual_image a rows u
      × (w ≡ z ⊞ u)
  unfolding size
  fitting_splits w h = splits prime a rows s still.0 (image_basis still.0).0 (image_basis (suc still.0)).0 (image_basis still.0).1
      (image_basis (suc still.0)).1 still.1 w h

  -- and in one way only
  pub fitting_once : (z u z' u' : Vector p) → generalised_kernel a rows z → generalised_kernel a rows z' → eventual_image a rows u
      → eventual_image a rows u' → z ⊞ u ≡ z' ⊞ u' → (z ≡ z') × (u ≡ u')
  unfolding size
  fitting_once z u z' u' h h' g g' e = parts_once prime a rows s still.0 (image_basis still.0).0 (image_basis (suc still.0)).0 (image_basis still.0).1
      (image_basis (suc still.0)).1 still.1 z u z' u' h h' g g' e

  -- spans that are the two parts have the whole as their direct sum
  pub fitting_pair_sum : (k i : List (Vector p)) → IsFittingPair a rows k i → IsSumOfTwo rows k i
  fitting_pair_sum k i f = record {
    left = λ v h. (f.kernel_only v h).1.inside;
    right = λ v h. let t = f.image_only v h 0 in subst (InSpan rows) (sym t.is_value) t.inside;
    splits = λ v h. let (z, u, hz, hu, e) = fitting_splits v h in (z, u, f.kernel_all z hz, f.image_all u hu, e);
    once = λ x y x' y' hx hx' hy hy' e. fitting_once x y x' y' (f.kernel_only x hx) (f.kernel_only x' hx') (f.image_only y hy) (f.image_only y' hy')
        e;
  }
