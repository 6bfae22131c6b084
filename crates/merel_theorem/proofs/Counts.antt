-- How many lattices of index m a lattice of index m n lies in: as many as of index n (`counts_same`); and the lattices of index m n in that of h
-- are those of h times the starts of determinant n (`multiples`).
use Rattle.std.proofs.Common.{◌≡◌, ◌≢◌, ◌*◌, ◌<◌, ◌≤◌, ℕ, Bool, List, [], ◌∷◌, length, All, sym, ◌∙◌, ap, subst, arith}
use Rattle.std.specs.Prelude.{ℤ, pos, ◌*ℤ◌, filter}
use Rattle.std.specs.List.{Contains}
use Rattle.std.specs.List.Sorted.{IsPermutation}
use Rattle.std.proofs.lemmas.List.Elements.{All-nil, All-cons, All-contains, All-filter}
use Rattle.std.proofs.lemmas.List.Kept.{AllPairs-filter}
use Rattle.p1_normal.specs.declared.matrix.Matrix.{Matrix}
use Rattle.p1_normal.specs.Actions.{product, determinant}
use Rattle.heilbronn_sets.specs.Merel.{starts}
use Rattle.heilbronn_chains.specs.Starts.{IsStart}
use Rattle.heilbronn_chains.proofs.ChainLists.{All-starts, Contains-starts}
use Rattle.merel_theorem.proofs.Bases.{determinant-product, cancelled, times_comm, product_assoc, Over, Over_sym, Over_trans, Over-left, start_of, start_determinant, one_start}
use Rattle.merel_theorem.proofs.Factors.{Divides, Divides-over, divides, divides_from_test, test_from_divides, cancel_left, Symmetric, symmetric, across, across_divides, across_one, across_determinant}
use Rattle.merel_theorem.proofs.Lands.{Lands, none, more, lands_starts, lands_apart, landed, starts_apart}
use Rattle.merel_theorem.proofs.Members.{contains_filter, fewer, filtered_passes, same_members}
use Rattle.merel_theorem.proofs.Moved.{positive_times}

pub filtered_start : (n : ℕ) (p : Matrix → Bool) (x : Matrix) → Contains (filter p (starts n)) x → IsStart n x
filtered_start n p x inside = All-contains (IsStart n) (filter p (starts n)) x (All-filter p (IsStart n) (starts n) (All-starts n)) inside

-- the cofactor's determinant
pub cofactor_determinant : (m n : ℕ) (h w t : Matrix) → 0 < m → determinant h ≡ pos m → determinant t ≡ pos (m * n) → t ≡ product h w
    → determinant w ≡ pos n
cofactor_determinant m n h w t some e f is = cancelled m (determinant w) (pos n) some
    (times_comm (determinant w) (pos m) ∙ ap (λ z. z *ℤ determinant w) (sym e) ∙ sym (determinant-product h w) ∙ ap determinant (sym is) ∙ f
    ∙ times_comm (pos m) (pos n))

-- ---- factors of determinant m and n of t belong to one another
record Partner (m n : ℕ) (t : Matrix) (s : Symmetric t) (h p : Matrix) : Type 0 where
  start : IsStart m h
  cofactor : Matrix
  is : t ≡ product h cofactor
  one : determinant cofactor ≡ pos n
  over : Over p (across s cofactor)

counts_le : (m n : ℕ) (t : Matrix) (s : Symmetric t) → 0 < m → 0 < n → determinant t ≡ pos (m * n)
    → length (filter (λ h. divides m h t) (starts m)) ≤ length (filter (λ h. divides n h t) (starts n))
counts_le m n t s some other det =
    fewer (Partner m n t s) (filter (λ h. divides m h t) (starts m)) (filter (λ h. divides n h t) (starts n))
    (AllPairs-filter (λ x y. x ≢ y) (λ h. divides m h t) (starts m) (starts_apart m))
    (λ h inside.
    let start = filtered_start m (λ h. divides m h t) h inside in
    let h_det = start_determinant m h some start in
    let d = divides_from_test m h t some h_det (filtered_passes (λ h. divides m h t) (starts m) h inside) in
    let w_det = cofactor_determinant m n h d.cofactor t some h_det det d.is in
    let p = start_of n (across s d.cofactor) other (across_determinant t d.cofactor s ∙ w_det) in (
      p.start,
      record { start = start; cofactor = d.cofactor; is = d.is; one = w_det; over = p.over },
      contains_filter (λ h. divides n h t) (starts n) p.start ((Contains-starts n p.start other).1 p.is)
          (test_from_divides n p.start t (start_determinant n p.start other p.is) (Divides-over p.over (across_divides t h d.cofactor s d.is))),
    ))
    (λ h k p a b. sym (one_start m k h some b.start a.start
    (across_one t h k a.cofactor b.cofactor s n other a.one a.is b.is (Over_trans (Over_sym a.over) b.over))))

pub counts_same : (m n : ℕ) (t : Matrix) → 0 < m → 0 < n → IsStart (m * n) t
    → length (filter (λ h. divides m h t) (starts m)) ≡ length (filter (λ h. divides n h t) (starts n))
counts_same m n t some other is =
    let s = symmetric (m * n) t (positive_times m n some other) is in
    let det : determinant t ≡ pos (m * n) = start_determinant (m * n) t (positive_times m n some other) is in
    let swapped : m * n ≡ n * m = omega arith in
    let low = counts_le m n t s some other det in
    let high = counts_le n m t s other some (det ∙ ap pos swapped) in
    omega (arith, low, high)

-- ---- the lattices below that of h are those of the starts that h divides
over_without : (m : ℕ) (h : Matrix) → 0 < m → determinant h ≡ pos m → (g k : Matrix) → Over (product h g) (product h k) → Over g k
over_without m h some det g k over = record {
  factor = over.factor;
  is = cancel_left m h k (product g over.factor) some det (over.is ∙ product_assoc h g over.factor);
  one = over.one;
}

lands_divides : (q : ℕ) (s : Matrix) (hs ts : List Matrix) → Lands q (product s) hs ts → All (Divides s) ts
lands_divides q s [] [] none = All-nil (Divides s)
lands_divides q s [] (t ∷ ts) x = elim x [ ]
lands_divides q s (h ∷ hs) [] x = elim x [ ]
lands_divides q s (h ∷ hs) (t ∷ ts) (more is over rest) =
    let back = Over_sym over in
    All-cons (Divides s) t ts (record { cofactor = product h back.factor; is = back.is ∙ product_assoc s h back.factor })
    (lands_divides q s hs ts rest)

pub multiples : (m n : ℕ) (h : Matrix) (ts : List Matrix) → 0 < m → 0 < n → determinant h ≡ pos m → Lands (m * n) (product h) (starts n) ts
    → IsPermutation ts (filter (λ t. divides m h t) (starts (m * n)))
multiples m n h ts some other det lands =
    let all : 0 < m * n = positive_times m n some other in
    let test : Matrix → Bool = λ t. divides m h t in
    same_members ts (filter test (starts (m * n)))
    (lands_apart n (m * n) (product h) (starts n) ts other (over_without m h some det) (All-starts n) (starts_apart n) lands)
    (AllPairs-filter (λ x y. x ≢ y) test (starts (m * n)) (starts_apart (m * n)))
    (λ x inside. contains_filter test (starts (m * n)) x
    ((Contains-starts (m * n) x all).1 (All-contains (IsStart (m * n)) ts x (lands_starts (m * n) (product h) (starts n) ts lands) inside))
    (test_from_divides m h x det (All-contains (Divides h) ts x (lands_divides (m * n) h (starts n) ts lands) inside)))
    (λ x inside.
    let is = filtered_start (m * n) test x inside in
    let d = divides_from_test m h x some det (filtered_passes test (starts (m * n)) x inside) in
    let w_det = cofactor_determinant m n h d.cofactor x some det (start_determinant (m * n) x all is) d.is in
    let k = start_of n d.cofactor other w_det in
    let r = landed (m * n) (product h) k.start (starts n) ts lands ((Contains-starts n k.start other).1 k.is) in
    let over : Over r.start x = subst (Over r.start) (sym d.is) (Over_trans r.over (Over-left h k.over)) in
    subst (Contains ts) (one_start (m * n) r.start x all r.is is over) r.contains)
