-- Lists of steps, and the matrices after them.
use Rattle.std.proofs.Common.{◌≡◌, ◌+◌, ◌*◌, ◌<◌, ◌≤◌, ℕ, zero, suc, List, [], ◌∷◌, ◌++◌, length, get_or, All, refl, sym, ◌∙◌, ap, subst, arith}
use Rattle.std.specs.Prelude.{pos, unsigned_abs, ◌<ℤ◌, ◌≤ℤ◌, ◌+ℤ◌, ◌*ℤ◌}
use Rattle.std.specs.List.{flat_map}
use Rattle.std.specs.List.Sorted.{IsPermutation}
use Rattle.std.proofs.lemmas.Int.{ints}
use Rattle.std.proofs.lemmas.List.{append-nil, append_assoc}
use Rattle.std.proofs.lemmas.List.Elements.{All-nil, All-head, All-tail, All-push}
use Rattle.std.proofs.lemmas.Grind.{flat_map-append}
use Rattle.p1_normal.specs.declared.matrix.Matrix.{Matrix}
use Rattle.p1_normal.specs.declared.matrix.TheConstants.{MAX_DET}
use Rattle.p1_normal.specs.Actions.{product}
use Rattle.heilbronn_sets.specs.Merel.{IsMerel, merel_matrices, starts}
use Rattle.heilbronn_sets.proofs.Faults.{zero_matrix}
use Rattle.heilbronn_sets.proofs.Entries.{entries_sum}
use Rattle.heilbronn_sets.proofs.Members.{member_entries}
use Rattle.heilbronn_chains.specs.Chains.{Follows}
use Rattle.heilbronn_chains.specs.Turns.{turn}
use Rattle.heilbronn_chains.proofs.ChainLists.{chains_permutation}
use Rattle.heilbronn_chains.proofs.Turns.{steps_on, quotient_unique}
use Rattle.heilbronn_chains.proofs.Walks.{IsPart, Walked, walk_begins, walk_goes_on, walk_ends, part_none, part_more, part_all}
use Rattle.hecke_columns.specs.declared.steps.Step.{Step}
use Rattle.hecke_columns.specs.declared.steps.Step.TheVariants as steps
use Rattle.hecke_columns.specs.Steps.{AddsSteps, AreSteps, IsTurnWithin, after, identity, last_of, matrices_from, matrices_of}

-- one step more
pub matrices-push : (m : Matrix) (ss : List Step) (s : Step) → matrices_from m (ss ++ s ∷ []) ≡ matrices_from m ss ++ after (last_of m ss) s ∷ []
matrices-push m [] s = refl
matrices-push m (t ∷ ss) s = ap (λ ks. after m t ∷ ks) (matrices-push (after m t) ss s)

pub last-push : (m : Matrix) (ss : List Step) (s : Step) → last_of m (ss ++ s ∷ []) ≡ after (last_of m ss) s
last-push m [] s = refl
last-push m (t ∷ ss) s = last-push (after m t) ss s

-- what each matrix after a step keeps, the last keeps
pub last_keeps : (P : Matrix → Type 0) (m : Matrix) (ss : List Step) → P m → All P (matrices_from m ss) → P (last_of m ss)
last_keeps P m [] h all = h
last_keeps P m (s ∷ ss) h all =
    last_keeps P (after m s) ss (All-head P (after m s) (matrices_from (after m s) ss) all)
    (All-tail P (after m s) (matrices_from (after m s) ss) all)

-- the lower row of a member
pub record IsLowerRow (n : ℕ) (m : Matrix) : Type 0 where
  pub lower : m.c ≡ pos (unsigned_abs m.c)
  pub right : m.d ≡ pos (unsigned_abs m.d)
  pub below : unsigned_abs m.c < unsigned_abs m.d
  pub few : unsigned_abs m.d ≤ n

pub lower_row : (n : ℕ) (m : Matrix) → IsMerel n m → IsLowerRow n m
lower_row n m h =
    let k = member_entries n m h in
    let sum = entries_sum n k.a k.b k.c k.d k.entries in
    let left = k.entries.left in
    let right = k.entries.right in
    let c : unsigned_abs m.c ≡ k.c = ap (λ w. unsigned_abs w.c) k.is in
    let d : unsigned_abs m.d ≡ k.d = ap (λ w. unsigned_abs w.d) k.is in
    record {
      lower = ap (λ w. w.c) k.is ∙ ap pos (sym c);
      right = ap (λ w. w.d) k.is ∙ ap pos (sym d);
      below = omega (arith, c, d, right);
      few = omega (arith, d, sum, left);
    }

-- a matrix with a next one has c > 0
pub lower_some : (m : Matrix) → (m.c ≡ pos 0 → ⊥) → m.c ≡ pos (unsigned_abs m.c) → 0 < unsigned_abs m.c
lower_some m other e = positive (unsigned_abs m.c) (λ z. other (e ∙ ap pos z))
  where
    positive : (c : ℕ) → (c ≡ 0 → ⊥) → 0 < c
    positive zero z = absurd (z refl)
    positive (suc c) z = omega arith

-- the matrix that follows is that after the turn by the least quotient
pub follows_by_turn : (n : ℕ) (m k : Matrix) (q : ℕ) → 0 < n → IsMerel n m → Follows n m k → unsigned_abs m.d ≤ q * unsigned_abs m.c
    → q * unsigned_abs m.c < unsigned_abs m.d + unsigned_abs m.c → k ≡ product m (turn (pos q))
follows_by_turn n m k q some h f low high =
    let s = steps_on n m k some h f in
    let row = lower_row n m h in
    let c = unsigned_abs m.c in
    let d = unsigned_abs m.d in
    let r = s.quotient in
    let covers : pos d ≤ℤ (pos r *ℤ pos c) = subst (λ x. x ≤ℤ (pos r *ℤ pos c)) row.right (subst (λ y. m.d ≤ℤ (pos r *ℤ y)) row.lower s.covers) in
    let least : (pos r *ℤ pos c) <ℤ (pos d +ℤ pos c) =
    subst (λ x. (pos r *ℤ pos c) <ℤ (x +ℤ pos c)) row.right (subst (λ y. (pos r *ℤ y) <ℤ (m.d +ℤ y)) row.lower s.least) in
    let same : r ≡ q = quotient_unique r q c d (omega (arith, ints, covers)) (omega (arith, ints, least)) low high in
    s.turned ∙ ap (λ x. product m (turn (pos x))) same

-- the least quotient is at most d
pub least_few : (q c d : ℕ) → 0 < c → q * c < d + c → q ≤ d
least_few zero c d some high = omega arith
least_few (suc q) zero d some high = absurd (omega (arith, some))
least_few (suc q) (suc c) d some high = omega (arith, high)

-- the steps along a chain from its start up to last are behind the list
pub record Stepping (n : ℕ) (start last : Matrix) (old steps : List Step) : Type 0 where
  pub items : List Matrix
  pub walked : Walked n start last [] items
  pub matrices : matrices_of steps ≡ matrices_of old ++ items
  pub end : last_of identity steps ≡ last
  pub turns : All IsTurnWithin old → All IsTurnWithin steps

pub stepping_begins : (n : ℕ) (start : Matrix) (old new : List Step) → IsMerel n start → new ≡ old ++ steps.Begin start ∷ []
    → Stepping n start start old new
stepping_begins n start old new h e = record {
  items = start ∷ [];
  walked = walk_begins n start [] (start ∷ []) h refl;
  matrices = ap matrices_of e ∙ matrices-push identity old (steps.Begin start);
  end = ap (last_of identity) e ∙ last-push identity old (steps.Begin start);
  turns = λ all. subst (All IsTurnWithin) (sym e) (All-push IsTurnWithin old (steps.Begin start) all tt);
}

pub stepping_goes_on : (n : ℕ) (start last next : Matrix) (old list new : List Step) (q : ℕ) → 0 < n → n ≤ MAX_DET → 0 < unsigned_abs last.c
    → Follows n last next → unsigned_abs last.d ≤ q * unsigned_abs last.c → q * unsigned_abs last.c < unsigned_abs last.d + unsigned_abs last.c
    → new ≡ list ++ steps.Turn q ∷ [] → Stepping n start last old list → Stepping n start next old new
stepping_goes_on n start last next old list new q some limit more f low high e w =
    let row = lower_row n last w.walked.is_member in
    let is : after (last_of identity list) (steps.Turn q) ≡ next = ap (λ m. product m (turn (pos q))) w.end
    ∙ sym (follows_by_turn n last next q some w.walked.is_member f low high) in
    let few : q ≤ MAX_DET = omega (arith, least_few q (unsigned_abs last.c) (unsigned_abs last.d) more high, row.few, limit) in
    record {
      items = w.items ++ next ∷ [];
      walked = walk_goes_on n start last next [] w.items (w.items ++ next ∷ []) w.walked f refl;
      matrices = ap matrices_of e ∙ matrices-push identity list (steps.Turn q) ∙ ap (λ m. matrices_of list ++ m ∷ []) is
          ∙ ap (λ ms. ms ++ next ∷ []) w.matrices ∙ append_assoc (matrices_of old) w.items (next ∷ []);
      end = ap (last_of identity) e ∙ last-push identity list (steps.Turn q) ∙ is;
      turns = λ all. subst (All IsTurnWithin) (sym e) (All-push IsTurnWithin list (steps.Turn q) (w.turns all) few);
    }

pub stepping_ends : (n : ℕ) (start last : Matrix) (old list : List Step) → IsMerel n start → start.b ≡ pos 0 → last.c ≡ pos 0
    → Stepping n start last old list → AddsSteps n start old list
stepping_ends n start last old list h begins z w =
    let a = walk_ends n start last [] w.items h begins w.walked z in
    record {
      chain = a.chain;
      is = a.is;
      first = a.first;
      matrices = w.matrices ∙ ap (λ ms. matrices_of old ++ ms) a.items;
      turns = w.turns;
    }

-- the steps along the chains of the first starts
pub record PartStepped (n i : ℕ) (list : List Step) : Type 0 where
  pub chains : List (List Matrix)
  pub part : IsPart n i chains
  pub matrices : matrices_of list ≡ flat_map (λ ms. ms) chains
  pub turns : All IsTurnWithin list

pub stepped_none : (n : ℕ) (list : List Step) → list ≡ [] → PartStepped n 0 list
stepped_none n list e = record {
  chains = [];
  part = part_none n [] refl;
  matrices = ap matrices_of e;
  turns = subst (All IsTurnWithin) (sym e) (All-nil IsTurnWithin);
}

pub stepped_more : (n i : ℕ) (items : List Matrix) (list new : List Step) → items ≡ starts n → i < length items → PartStepped n i list
    → AddsSteps n (get_or items i zero_matrix) list new → PartStepped n (i + 1) new
stepped_more n i items list new e l h a = record {
  chains = h.chains ++ a.chain ∷ [];
  part = part_more n i items h.chains (h.chains ++ a.chain ∷ []) a.chain e l h.part a.is a.first refl;
  matrices = a.matrices ∙ ap (λ ms. ms ++ a.chain) h.matrices ∙ ap (λ xs. flat_map (λ ms. ms) h.chains ++ xs) (sym (append-nil a.chain))
      ∙ sym (flat_map-append (λ ms. ms) h.chains (a.chain ∷ []));
  turns = a.turns h.turns;
}

pub stepped_all : (n i : ℕ) (items : List Matrix) (list : List Step) → 0 < n → n ≤ MAX_DET → items ≡ starts n → length items ≤ i
    → PartStepped n i list → AreSteps n list
stepped_all n i items list some limit e l h = record {
  some = some;
  limit = limit;
  turns = h.turns;
  matrices = subst (λ ms. IsPermutation ms (merel_matrices n)) (sym h.matrices)
      (chains_permutation n h.chains some (part_all n i items h.chains e l h.part));
}
