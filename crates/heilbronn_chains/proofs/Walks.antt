-- Walks along a chain, as the code takes them.
use Rattle.std.proofs.Common.{◌≡◌, ◌+◌, ◌<◌, ◌≤◌, ℕ, zero, suc, List, [], ◌∷◌, ◌++◌, length, get_or, take, All, refl, sym, ◌∙◌, ap, subst, arith}
use Rattle.std.specs.Prelude.{ℤ, pos, negsuc, map, unsigned_abs, ◌<ℤ◌, ◌≤ℤ◌}
use Rattle.std.specs.List.{flat_map}
use Rattle.std.proofs.lemmas.Int.{ints}
use Rattle.std.proofs.lemmas.List.{append-nil, map-append, take_more}
use Rattle.std.proofs.lemmas.List.Elements.{All-nil, All-cons, All-append}
use Rattle.std.proofs.lemmas.Grind.{flat_map-append}
use Rattle.p1_normal.specs.declared.matrix.Matrix.{Matrix}
use Rattle.p1_normal.specs.declared.matrix.TheConstants.{MAX_DET}
use Rattle.heilbronn_sets.specs.Merel.{IsMerel, starts}
use Rattle.heilbronn_sets.proofs.Faults.{zero_matrix}
use Rattle.heilbronn_chains.specs.Chains.{Follows, IsChain, AddsChain, AreChains, JoinsChains, member, degree}
use Rattle.heilbronn_chains.proofs.Runs.{IsRun, Follows-falls, chain_from_run, merel_from_start}
use Rattle.heilbronn_chains.proofs.ChainLists.{All-starts}

pub degree_is : (n : ℕ) (m : Matrix) → IsMerel n m → degree m ≡ n
degree_is n m h = ap unsigned_abs h.determinant_is

-- the walk from a start has come to last: what goes on from last goes on from the start
pub record Walked (n : ℕ) (start last : Matrix) (old items : List Matrix) : Type 0 where
  pub middle : List Matrix
  pub is : items ≡ old ++ start ∷ middle
  pub on : (ks : List Matrix) → IsRun n last ks → IsRun n start (middle ++ ks)
  pub is_member : IsMerel n last

pub walk_begins : (n : ℕ) (start : Matrix) (old items : List Matrix) → IsMerel n start → items ≡ old ++ start ∷ [] → Walked n start start old items
walk_begins n start old items h e = record { middle = []; is = e; on = λ ks run. run; is_member = h }

joined : (xs ys zs : List Matrix) → (xs ++ ys) ++ zs ≡ xs ++ (ys ++ zs)
joined [] ys zs = refl
joined (x ∷ xs) ys zs = ap (λ us. x ∷ us) (joined xs ys zs)

pub walk_goes_on : (n : ℕ) (start last next : Matrix) (old items new : List Matrix) → Walked n start last old items → Follows n last next →
    new ≡ items ++ next ∷ [] → Walked n start next old new
walk_goes_on n start last next old items new w h e = record {
  middle = w.middle ++ next ∷ [];
  is = e ∙ ap (λ xs. xs ++ next ∷ []) w.is ∙ joined old (start ∷ w.middle) (next ∷ []);
  on = λ ks run. subst (IsRun n start) (sym (joined w.middle (next ∷ []) ks)) (w.on (next ∷ ks) (h, run));
  is_member = h.is_member;
}

pub walk_ends : (n : ℕ) (start last : Matrix) (old items : List Matrix) → IsMerel n start → start.b ≡ pos 0 → Walked n start last old items →
    last.c ≡ pos 0 → AddsChain n start old items
walk_ends n start last old items h begins w e = record {
  chain = start ∷ w.middle;
  is = chain_from_run n start w.middle h begins (subst (IsRun n start) (append-nil w.middle) (w.on [] e));
  first = refl;
  items = w.is;
}

-- the measure of the walk
pub walk_smaller : (n : ℕ) (last next : Matrix) → Follows n last next → unsigned_abs next.c < unsigned_abs last.c
walk_smaller n last next h = lesser next.c last.c h.is_member.lower (Follows-falls n last next h)
  where
    lesser : (x y : ℤ) → pos 0 ≤ℤ x → x <ℤ y → unsigned_abs x < unsigned_abs y
    lesser (pos x) (pos y) low l = omega (arith, ints, l)
    lesser (pos x) (negsuc y) low l = absurd (omega (arith, ints, l))
    lesser (negsuc x) y low l = absurd (omega (arith, ints, low))

-- ---- the chains of the first starts
pub record IsPart (n k : ℕ) (css : List (List Matrix)) : Type 0 where
  pub chains : All (IsChain n) css
  pub begins : map (λ ms. member ms 0) css ≡ take k (starts n)

-- what a start keeps
pub record IsBeginning (n : ℕ) (m : Matrix) : Type 0 where
  pub degree_is : degree m ≡ n
  pub limit : degree m ≤ MAX_DET
  pub is_member : IsMerel (degree m) m
  pub begins : m.b ≡ pos 0

pub start_at : (n k : ℕ) (items : List Matrix) → 0 < n → n ≤ MAX_DET → items ≡ starts n → k < length items →
    IsBeginning n (get_or items k zero_matrix)
start_at n k items some few e l =
    let within : k < length (starts n) = omega (arith, l, ap length e) in
    subst (IsBeginning n) (sym (ap (λ ws. get_or ws k zero_matrix) e)) (beginning within)
  where
    beginning : k < length (starts n) → IsBeginning n (get_or (starts n) k zero_matrix)
    beginning within =
        let start = All-starts n k zero_matrix within in
        let merel = merel_from_start n (get_or (starts n) k zero_matrix) some start in
        let is = degree_is n (get_or (starts n) k zero_matrix) merel in
        record {
          degree_is = is;
          limit = omega (arith, is, few);
          is_member =
              subst (λ d. IsMerel d (get_or (starts n) k zero_matrix)) (sym is) merel;
          begins = start.upper;
        }

pub part_none : (n : ℕ) (css : List (List Matrix)) → css ≡ [] → IsPart n 0 css
part_none n css e = record { chains = subst (All (IsChain n)) (sym e) (All-nil (IsChain n)); begins = ap (map (λ ms. member ms 0)) e }

pub part_more : (n k : ℕ) (items : List Matrix) (css new : List (List Matrix)) (ms : List Matrix) → items ≡ starts n → k < length items →
    IsPart n k css →
    IsChain n ms → member ms 0 ≡ get_or items k zero_matrix → new ≡ css ++ ms ∷ [] → IsPart n (k + 1) new
part_more n k items css new ms e l h chain first is =
    let within : k < length (starts n) = omega (arith, l, ap length e) in
    record {
      chains = subst (All (IsChain n)) (sym is) (All-append (IsChain n) css (ms ∷ []) h.chains
          (All-cons (IsChain n) ms [] chain (All-nil (IsChain n))));
      begins = ap (map (λ ms. member ms 0)) is ∙ map-append (λ ms. member ms 0) css (ms ∷ []) ∙ ap (λ ws. ws ++ member ms 0 ∷ []) h.begins
          ∙ ap (λ w. take k (starts n) ++ w ∷ []) (first ∙ ap (λ ws. get_or ws k zero_matrix) e) ∙ sym (take_more (starts n) k zero_matrix within);
    }

pub part_all : (n k : ℕ) (items : List Matrix) (css : List (List Matrix)) → items ≡ starts n → length items ≤ k → IsPart n k css → AreChains n css
part_all n k items css e l h = record { chains = h.chains; begins = h.begins ∙ take-all (starts n) k (omega (arith, l, ap length e)) }
  where
    take-all : (xs : List Matrix) (k : ℕ) → length xs ≤ k → take k xs ≡ xs
    take-all [] zero m = refl
    take-all [] (suc k) m = refl
    take-all (x ∷ xs) zero m = absurd (omega (arith, m))
    take-all (x ∷ xs) (suc k) m = ap (λ ys. x ∷ ys) (take-all xs k (omega (arith, m)))

-- the same, one chain behind the other
pub record IsJoined (n k : ℕ) (list : List Matrix) : Type 0 where
  pub chains : List (List Matrix)
  pub part : IsPart n k chains
  pub items : list ≡ flat_map (λ ms. ms) chains

pub joined_none : (n : ℕ) (list : List Matrix) → list ≡ [] → IsJoined n 0 list
joined_none n list e = record { chains = []; part = part_none n [] refl; items = e }

pub joined_more : (n k : ℕ) (items list new : List Matrix) → items ≡ starts n → k < length items → IsJoined n k list →
    AddsChain n (get_or items k zero_matrix) list new → IsJoined n (k + 1) new
joined_more n k items list new e l h a = record {
  chains = h.chains ++ a.chain ∷ [];
  part = part_more n k items h.chains (h.chains ++ a.chain ∷ []) a.chain e l h.part a.is a.first refl;
  items = a.items ∙ ap (λ xs. xs ++ a.chain) h.items ∙ ap (λ xs. flat_map (λ ms. ms) h.chains ++ xs) (sym (append-nil a.chain))
      ∙ sym (flat_map-append (λ ms. ms) h.chains (a.chain ∷ []));
}

pub joined_all : (n k : ℕ) (items list : List Matrix) → items ≡ starts n → length items ≤ k → IsJoined n k list → JoinsChains n list
joined_all n k items list e l h = record { chains = h.chains; are = part_all n k items h.chains e l h.part; items = h.items }
