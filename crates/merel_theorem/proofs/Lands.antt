-- A map of lattices that keeps different lattices apart takes the lattices of one index to lattices of another; a matrix of determinant 1 on the
-- left permutes those of one index (`lands_permutation`). Each start begins a chain.
use Rattle.std.proofs.Common.{◌≡◌, ◌≢◌, ◌+◌, ◌<◌, ℕ, zero, suc, List, [], ◌∷◌, All, refl, sym, ◌∙◌, ap, subst, arith}
use Rattle.std.specs.Prelude.{ℤ, pos, neg_ℤ, ◌*ℤ◌, map}
use Rattle.std.specs.Ordering.{int_eq}
use Rattle.std.specs.List.{Contains, AllPairs}
use Rattle.std.specs.List.Sorted.{IsPermutation}
use Rattle.std.proofs.lemmas.Int.{ints}
use Rattle.std.proofs.lemmas.List.Elements.{All-nil, All-cons, All-head, All-tail, All-contains, Contains-append_right}
use Rattle.std.proofs.lemmas.List.Kept.{AllPairs-cons, AllPairs-filter}
use Rattle.p1_normal.specs.declared.matrix.Matrix.{Matrix}
use Rattle.p1_normal.specs.Actions.{product, determinant}
use Rattle.heilbronn_sets.specs.Merel.{merel_matrices, starts}
use Rattle.heilbronn_chains.specs.Starts.{IsStart}
use Rattle.heilbronn_chains.specs.Chains.{IsChain, member}
use Rattle.heilbronn_chains.specs.Order.{rank}
use Rattle.heilbronn_chains.proofs.Runs.{has_run, chain_from_run, merel_from_start}
use Rattle.heilbronn_chains.proofs.Order.{merel_rises, pairs_head, pairs_tail}
use Rattle.heilbronn_chains.proofs.ChainLists.{All-starts, Contains-starts}
use Rattle.merel_theorem.proofs.Terms.{same_matrix}
use Rattle.merel_theorem.proofs.Bases.{adjoint, determinant-adjoint, determinant-product, one_times, undone_left, Over, Over_sym, Over_trans, Over-left, Over-cancel, start_of, start_determinant, one_start}
use Rattle.merel_theorem.proofs.Members.{same_members}

pub starts_apart : (n : ℕ) → AllPairs (λ x y. x ≢ y) (starts n)
starts_apart n = λ i j d l lower.
    let rises = AllPairs-filter (λ x y. rank (n + 1) x < rank (n + 1) y) (λ m. int_eq m.b (pos 0)) (merel_matrices n)
    (merel_rises n (n + 1) (omega arith)) i j d l lower in
    λ e. let same = ap (rank (n + 1)) e in omega (arith, rises, same)

-- each matrix of the second list is the start that f of that of the first is over
pub data Lands (q : ℕ) (f : Matrix → Matrix) : List Matrix → List Matrix → Type 0 where
  none : Lands q f [] []
  more : {t h : Matrix} {ts hs : List Matrix} → IsStart q t → Over t (f h) → Lands q f hs ts → Lands q f (h ∷ hs) (t ∷ ts)

pub lands : (n q : ℕ) (f : Matrix → Matrix) (hs : List Matrix) → 0 < q → ((h : Matrix) → IsStart n h → determinant (f h) ≡ pos q) → All
    (IsStart n) hs
    → (ts : List Matrix) × Lands q f hs ts
lands n q f [] some det all = ([], none)
lands n q f (h ∷ hs) some det all =
    let t = start_of q (f h) some (det h (All-head (IsStart n) h hs all)) in
    let (ts, rest) = lands n q f hs some det (All-tail (IsStart n) h hs all) in
    (t.start ∷ ts, more t.is t.over rest)

pub lands_starts : (q : ℕ) (f : Matrix → Matrix) (hs ts : List Matrix) → Lands q f hs ts → All (IsStart q) ts
lands_starts q f [] [] none = All-nil (IsStart q)
lands_starts q f [] (t ∷ ts) x = elim x [ ]
lands_starts q f (h ∷ hs) [] x = elim x [ ]
lands_starts q f (h ∷ hs) (t ∷ ts) (more is over rest) = All-cons (IsStart q) t ts is (lands_starts q f hs ts rest)

-- lattices that differ go to lattices that differ
abbrev pub Keeps : (Matrix → Matrix) → Type 0
Keeps f = (g m : Matrix) → Over (f g) (f m) → Over g m

lands_other : (n q : ℕ) (f : Matrix → Matrix) (t h : Matrix) (hs ts : List Matrix) → 0 < n → Keeps f → IsStart n h → Over t (f h) → All
    (IsStart n) hs
    → All (λ w. h ≢ w) hs → Lands q f hs ts → All (λ w. t ≢ w) ts
lands_other n q f t h [] [] some keeps is over all apart none = All-nil (λ w. t ≢ w)
lands_other n q f t h [] (u ∷ ts) some keeps is over all apart x = elim x [ ]
lands_other n q f t h (k ∷ hs) [] some keeps is over all apart x = elim x [ ]
lands_other n q f t h (k ∷ hs) (u ∷ ts) some keeps is over all apart (more start above rest) =
    All-cons (λ w. t ≢ w) u ts (λ same. All-head (λ w. h ≢ w) k hs apart
    (one_start n h k some is (All-head (IsStart n) k hs all)
    (keeps h k (Over_trans (Over_sym over) (subst (λ w. Over w (f k)) (sym same) above)))))
    (lands_other n q f t h hs ts some keeps is over (All-tail (IsStart n) k hs all) (All-tail (λ w. h ≢ w) k hs apart) rest)

pub lands_apart : (n q : ℕ) (f : Matrix → Matrix) (hs ts : List Matrix) → 0 < n → Keeps f → All (IsStart n) hs → AllPairs (λ x y. x ≢ y) hs
    → Lands q f hs ts
    → AllPairs (λ x y. x ≢ y) ts
lands_apart n q f [] [] some keeps all apart none = apart
lands_apart n q f [] (t ∷ ts) some keeps all apart x = elim x [ ]
lands_apart n q f (h ∷ hs) [] some keeps all apart x = elim x [ ]
lands_apart n q f (h ∷ hs) (t ∷ ts) some keeps all apart (more is over rest) =
    AllPairs-cons (λ x y. x ≢ y) t ts
    (lands_other n q f t h hs ts some keeps (All-head (IsStart n) h hs all) over (All-tail (IsStart n) h hs all)
    (pairs_head (λ x y. x ≢ y) h hs apart) rest)
    (lands_apart n q f hs ts some keeps (All-tail (IsStart n) h hs all) (pairs_tail (λ x y. x ≢ y) h hs apart) rest)

pub record Landed (q : ℕ) (f : Matrix → Matrix) (h : Matrix) (ts : List Matrix) : Type 0 where
  pub start : Matrix
  pub is : IsStart q start
  pub over : Over start (f h)
  pub contains : Contains ts start

pub landed : (q : ℕ) (f : Matrix → Matrix) (h : Matrix) (hs ts : List Matrix) → Lands q f hs ts → Contains hs h → Landed q f h ts
landed q f h [] [] none (j, l, same) = absurd (omega (arith, l))
landed q f h [] (t ∷ ts) x inside = elim x [ ]
landed q f h (k ∷ hs) [] x inside = elim x [ ]
landed q f h (k ∷ hs) (t ∷ ts) (more is over rest) (zero, l, same) = record {
  start = t;
  is = is;
  over = subst (λ w. Over t (f w)) same over;
  contains = (0, omega arith, refl);
}
landed q f h (k ∷ hs) (t ∷ ts) (more is over rest) (suc j, l, same) =
    let r = landed q f h hs ts rest (j, omega (arith, l), same) in
    record { start = r.start; is = r.is; over = r.over; contains = Contains-append_right (t ∷ []) ts r.start r.contains }

-- where f reaches each lattice of index n, it permutes the starts
pub lands_onto : (n : ℕ) (f : Matrix → Matrix) (ts : List Matrix) → 0 < n → Keeps f
    → ((x : Matrix) → IsStart n x → (y : Matrix) × (determinant y ≡ pos n) × ((h : Matrix) → Over h y → Over (f h) x))
    → Lands n f (starts n) ts → IsPermutation ts (starts n)
lands_onto n f ts some keeps reached h =
    same_members ts (starts n) (lands_apart n n f (starts n) ts some keeps (All-starts n) (starts_apart n) h) (starts_apart n)
    (λ x inside. (Contains-starts n x some).1 (All-contains (IsStart n) ts x (lands_starts n f (starts n) ts h) inside))
    (λ x inside.
    let is : IsStart n x = (Contains-starts n x some).0 inside in
    let (y, det, back) = reached x is in
    let k = start_of n y some det in
    let r = landed n f k.start (starts n) ts h ((Contains-starts n k.start some).1 k.is) in
    subst (Contains ts) (one_start n r.start x some r.is is (Over_trans r.over (back k.start k.over))) r.contains)

one_by : (s m : Matrix) (n : ℕ) → determinant s ≡ pos 1 → determinant m ≡ pos n → determinant (product s m) ≡ pos n
one_by s m n e f = determinant-product s m ∙ ap (λ z. z *ℤ determinant m) e ∙ one_times (determinant m) ∙ f

-- a matrix of determinant 1 on the left
pub lands_by_one : (n : ℕ) (s : Matrix) → 0 < n → determinant s ≡ pos 1 → (ts : List Matrix) × Lands n (product s) (starts n) ts
lands_by_one n s some e = lands n n (product s) (starts n) some (λ h is. one_by s h n e (start_determinant n h some is)) (All-starts n)

undone_other : (s m : Matrix) → determinant s ≡ pos 1 → product s (product (adjoint s) m) ≡ m
undone_other s m e = ap (λ w. product w (product (adjoint s) m)) (sym twice) ∙ undone_left (adjoint s) m (determinant-adjoint s ∙ e)
  where
    double : (z : ℤ) → neg_ℤ (neg_ℤ z) ≡ z
    double z = omega (arith, ints)

    twice : adjoint (adjoint s) ≡ s
    twice = same_matrix refl (double s.b) (double s.c) refl

pub lands_permutation : (n : ℕ) (s : Matrix) (ts : List Matrix) → 0 < n → determinant s ≡ pos 1 → Lands n (product s) (starts n) ts
    → IsPermutation ts (starts n)
lands_permutation n s ts some e h = lands_onto n (product s) ts some (λ g m over. Over-cancel s e over)
    (λ x is. (
      product (adjoint s) x,
      one_by (adjoint s) x n (determinant-adjoint s ∙ e) (start_determinant n x some is),
      λ k over. subst (Over (product s k)) (undone_other s x e) (Over-left s over),
    )) h

-- ---- a chain for each start
pub record ChainsFrom (n : ℕ) (hs : List Matrix) : Type 0 where
  pub chains : List (List Matrix)
  pub are : All (IsChain n) chains
  pub begins : map (λ ms. member ms 0) chains ≡ hs

pub chains_from : (n : ℕ) (hs : List Matrix) → 0 < n → All (IsStart n) hs → ChainsFrom n hs
chains_from n [] some all = record { chains = []; are = All-nil (IsChain n); begins = refl }
chains_from n (h ∷ hs) some all =
    let is : IsStart n h = All-head (IsStart n) h hs all in
    let merel = merel_from_start n h some is in
    let r = has_run n h merel in
    let rest = chains_from n hs some (All-tail (IsStart n) h hs all) in
    record {
      chains = (h ∷ r.rest) ∷ rest.chains;
      are = All-cons (IsChain n) (h ∷ r.rest) rest.chains (chain_from_run n h r.rest merel is.upper r.run) rest.are;
      begins = ap (λ ws. h ∷ ws) rest.begins;
    }
