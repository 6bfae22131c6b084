-- A direct sum stays one where each part is replaced by two whose sum it is.
use Rattle.std.proofs.Common.{◌≡◌, ℕ, List, [], ◌∷◌, refl, sym, ◌∙◌, ap}
use Rattle.linear_algebra.specs.Vector.{Vector, ◌⊞◌}
use Rattle.linear_algebra.specs.Span.{InSpan}
use Rattle.linear_algebra.proofs.Vectors.{plus_assoc}
use Rattle.linear_algebra.proofs.Spans.{InSpan-plus}
use Rattle.stable_subspaces.specs.Splitting.{Choice, none, more, vector_sum, IsDirectSum, IsSumOfTwo, Refined, done, next}

-- a choice from the parts, with the sum that it has
pub record Chosen {p : ℕ} (parts : List (List (Vector p))) (sum : Vector p) : Type 0 where
  pub pieces : List (Vector p)
  pub choice : Choice parts pieces
  pub adds_up : vector_sum pieces ≡ sum

-- a choice from the parts, with the first vector split in two
split_next : {p : ℕ} {w k i : List (Vector p)} {news : List (List (Vector p))} (v s : Vector p) → IsSumOfTwo w k i → InSpan w v → Chosen news s
    → Chosen (k ∷ i ∷ news) (v ⊞ s)
split_next v s two h c =
    let (x, y, hx, hy, e) = two.splits v h in
    record {
      pieces = x ∷ y ∷ c.pieces;
      choice = more hx (more hy c.choice);
      adds_up = ap (λ t. x ⊞ (y ⊞ t)) c.adds_up ∙ sym (plus_assoc x y s) ∙ ap (λ t. t ⊞ s) (sym e);
    }

-- each choice from the parts has one from the new parts with the same sum
split_choice : {p : ℕ} {parts news : List (List (Vector p))} {vs : List (Vector p)} → Refined parts news → Choice parts vs
    → Chosen news (vector_sum vs)
split_choice done none = record { pieces = []; choice = none; adds_up = refl }
split_choice (next two r) (more {v = v} {vs = vs} h c) = split_next v (vector_sum vs) two h (split_choice r c)

-- a choice from the new parts, joined in pairs
data Paired {p : ℕ} : List (List (Vector p)) → List (List (Vector p)) → List (Vector p) → List (Vector p) → Type 0 where
  no_pairs : Paired [] [] [] []
  pair : {w k i : List (Vector p)} {parts news : List (List (Vector p))} {x y : Vector p} {xs vs : List (Vector p)}
      → IsSumOfTwo w k i → InSpan k x → InSpan i y → Paired parts news xs vs → Paired (w ∷ parts) (k ∷ i ∷ news) (x ∷ y ∷ xs) ((x ⊞ y) ∷ vs)

-- each choice from the new parts joins in pairs
paired : {p : ℕ} {parts news : List (List (Vector p))} {xs : List (Vector p)} → Refined parts news → Choice news xs
    → (vs : List (Vector p)) × Paired parts news xs vs
paired done none = ([], no_pairs)
paired (next two r) (more {v = x} hx (more {v = y} hy c)) = let (vs, q) = paired r c in ((x ⊞ y) ∷ vs, pair two hx hy q)

-- and the pairs are a choice from the parts with the same sum
paired_choice : {p : ℕ} {parts news : List (List (Vector p))} {xs vs : List (Vector p)} → Paired parts news xs vs
    → Choice parts vs × (vector_sum vs ≡ vector_sum xs)
paired_choice no_pairs = (none, refl)
paired_choice (pair {w = w} {x = x} {y = y} {xs = xs} two hx hy q) =
    let (c, e) = paired_choice q in
    (more (InSpan-plus w x y (two.left x hx) (two.right y hy)) c, ap (λ t. (x ⊞ y) ⊞ t) e ∙ plus_assoc x y (vector_sum xs))

-- equal lists have equal heads and tails
heads : {A : Type 0} (x y : A) (xs ys : List A) → x ∷ xs ≡ y ∷ ys → (x ≡ y) × (xs ≡ ys)
heads x y xs ys e = (cc, cc)

-- choices whose pairs are equal are equal
paired_once : {p : ℕ} {parts news : List (List (Vector p))} {xs ys vs ws : List (Vector p)} → Paired parts news xs vs → Paired parts news ys ws
    → vs ≡ ws → xs ≡ ys
paired_once no_pairs no_pairs e = refl
paired_once (pair {x = x} {y = y} {vs = vs} two hx hy q) (pair {x = x'} {y = y'} {vs = vs'} two' hx' hy' q') e =
    let (first, rest) = heads (x ⊞ y) (x' ⊞ y') vs vs' e in
    let (ex, ey) = two.once x y x' y' hx hx' hy hy' first in
    cc (ex, ey, paired_once q q' rest)

-- a direct sum stays one under refinement
pub refined_direct : {p : ℕ} (d : ℕ) (parts news : List (List (Vector p))) → Refined parts news → IsDirectSum d parts → IsDirectSum d news
refined_direct {p} d parts news r s = record {
  some_choice = λ v l. some v (s.some_choice v l);
  one_choice = λ xs ys c c' e. once xs ys (paired r c) (paired r c') e;
}
  where
    some : (v : Vector _) → (vs : List (Vector p)) × Choice parts vs × (v ≡ vector_sum vs)
        → (ws : List (Vector p)) × Choice news ws × (v ≡ vector_sum ws)
    some v (vs, c, e) = let k = split_choice r c in (k.pieces, k.choice, e ∙ sym k.adds_up)

    once : (xs ys : List (Vector p)) → (vs : List (Vector p)) × Paired parts news xs vs → (ws : List (Vector p)) × Paired parts news ys ws
        → vector_sum xs ≡ vector_sum ys → xs ≡ ys
    once xs ys (vs, q) (ws, q') e =
        let (c, f) = paired_choice q in
        let (c', f') = paired_choice q' in
        paired_once q q' (s.one_choice vs ws c c' (f ∙ e ∙ sym f'))
