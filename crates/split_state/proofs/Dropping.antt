-- A direct sum stays one where parts with 0 alone are left out.
use Rattle.std.proofs.Common.{◌≡◌, ℕ, List, [], ◌∷◌, refl, sym, ◌∙◌, ap}
use Rattle.linear_algebra.specs.Vector.{Vector, ◌⊞◌, zeros}
use Rattle.linear_algebra.specs.Span.{InSpan}
use Rattle.linear_algebra.proofs.Vectors.{zeros-plus}
use Rattle.linear_algebra.proofs.Spans.{InSpan-zeros}
use Rattle.stable_subspaces.specs.Splitting.{Choice, none, more, vector_sum, IsDirectSum}

-- news has the parts of full, less some with 0 alone
pub data Dropped {p : ℕ} : List (List (Vector p)) → List (List (Vector p)) → Type 0 where
  no_parts : Dropped [] []
  keeps : {w : List (Vector p)} {full news : List (List (Vector p))} → Dropped full news → Dropped (w ∷ full) (w ∷ news)
  drops : {w : List (Vector p)} {full news : List (List (Vector p))} → ((v : Vector p) → InSpan w v → v ≡ zeros) → Dropped full news
      → Dropped (w ∷ full) news

-- a choice from all has one from the kept parts with the same sum
shrink : {p : ℕ} {full news : List (List (Vector p))} {vs : List (Vector p)} → Dropped full news → Choice full vs
    → (ws : List (Vector p)) × Choice news ws × (vector_sum vs ≡ vector_sum ws)
shrink no_parts none = ([], none, refl)
shrink (keeps r) (more {v = v} h c) = let (ws, k, e) = shrink r c in (v ∷ ws, more h k, ap (λ w. v ⊞ w) e)
shrink (drops zero_alone r) (more {v = v} {vs = vs} h c) = let (ws, k, e) = shrink r c in
    (ws, k, ap (λ w. w ⊞ vector_sum vs) (zero_alone v h) ∙ zeros-plus (vector_sum vs) ∙ e)

-- a choice from the kept parts with 0 from the others
abbrev grow : {p : ℕ} {full news : List (List (Vector p))} → Dropped full news → List (Vector p) → List (Vector p)
grow no_parts xs = []
grow (keeps r) [] = []
grow (keeps r) (x ∷ xs) = x ∷ grow r xs
grow (drops zero_alone r) xs = zeros ∷ grow r xs

-- is a choice from all
grow_choice : {p : ℕ} {full news : List (List (Vector p))} {xs : List (Vector p)} → (r : Dropped full news) → Choice news xs → Choice full (grow r xs)
grow_choice no_parts none = none
grow_choice (keeps r) (more h c) = more h (grow_choice r c)
grow_choice (drops {w = w} zero_alone r) c = more (InSpan-zeros w) (grow_choice r c)

-- with the same sum
grow_sum : {p : ℕ} {full news : List (List (Vector p))} {xs : List (Vector p)} → (r : Dropped full news) → Choice news xs
    → vector_sum (grow r xs) ≡ vector_sum xs
grow_sum no_parts none = refl
grow_sum (keeps r) (more {v = v} h c) = ap (λ w. v ⊞ w) (grow_sum r c)
grow_sum {xs = xs} (drops zero_alone r) c = zeros-plus (vector_sum (grow r xs)) ∙ grow_sum r c

-- equal lists have equal heads and tails
pub heads : {A : Type 0} (x y : A) (xs ys : List A) → x ∷ xs ≡ y ∷ ys → (x ≡ y) × (xs ≡ ys)
heads x y xs ys e = (cc, cc)

-- and tells the choice
grow_once : {p : ℕ} {full news : List (List (Vector p))} {xs ys : List (Vector p)} → (r : Dropped full news) → Choice news xs → Choice news ys
    → grow r xs ≡ grow r ys → xs ≡ ys
grow_once no_parts none none e = refl
grow_once (keeps r) (more {v = x} {vs = xs} h c) (more {v = y} {vs = ys} g k) e =
    let (first, rest) = heads x y (grow r xs) (grow r ys) e in cc (first, grow_once r c k rest)
grow_once {xs = xs} {ys = ys} (drops zero_alone r) c k e = grow_once r c k (heads zeros zeros (grow r xs) (grow r ys) e).1

-- so a direct sum stays one
pub dropped_direct : {p : ℕ} (d : ℕ) (full news : List (List (Vector p))) → Dropped full news → IsDirectSum d full → IsDirectSum d news
dropped_direct {p} d full news r s = record {
  some_choice = λ v l. some v (s.some_choice v l);
  one_choice = λ xs ys c k e. grow_once r c k (s.one_choice (grow r xs) (grow r ys) (grow_choice r c) (grow_choice r k)
      (grow_sum r c ∙ e ∙ sym (grow_sum r k)));
}
  where
    some : (v : Vector p) → (vs : List (Vector p)) × Choice full vs × (v ≡ vector_sum vs)
        → (ws : List (Vector p)) × Choice news ws × (v ≡ vector_sum ws)
    some v (vs, c, e) = let (ws, k, same) = shrink r c in (ws, k, e ∙ same)
