-- Tables of the numbers of symbols in a list, and the columns that they find.
use Rattle.std.proofs.Common.{◌≡◌, ◌<◌, ◌+◌, ◌||◌, ℕ, Bool, true, false, List, [], ◌∷◌, All, Option, None, Some, IsSome, length, map, take, set, get_or, replicate, nat_eq, refl, sym, ◌∙◌, ap, subst, arith, rules}
use Rattle.std.specs.Set.{is_member}
use Rattle.std.proofs.lemmas.Bool.{eqb-true, eqb-false}
use Rattle.std.proofs.lemmas.Grind.{get_or-set_at}
use Rattle.std.proofs.lemmas.List.{get_or-map, get_or-set_other, get_or-replicate, get_or_past, take_all, take_more, length-replicate}
use Rattle.std.proofs.lemmas.List.Folds.{list_any-append}
use Rattle.quotient_coords.specs.Quotient.{Ground}
use Rattle.heilbronn_sets.specs.Merel.{merel_matrices}
use Rattle.hecke_columns.specs.Hecke.{HeckeColumn, IsColumn, IsHeckeColumn}
use Rattle.hecke_columns.specs.Gathering.{FindsSymbols, IsGatheredAt, number_at}
use Rattle.hecke_columns.proofs.Columns.{IsColumn-same}

-- the table has numbers for the first i of the symbols
pub record FindsFirst (given : List ℕ) (i : ℕ) (numbers : List (Option ℕ)) : Type 0 where
  pub found : (k j : ℕ) → number_at numbers k ≡ Some j → (j < length given) × (get_or given j 0 ≡ k)
  pub every : (k : ℕ) → is_member nat_eq (take i given) k ≡ true → IsSome (number_at numbers k)

-- a table of nothing has no number
none_at : (m k : ℕ) → number_at (replicate m None) k ≡ None
none_at m k = grind (arith, get_or-replicate, get_or_past, length-replicate)

pub finds_none : (given : List ℕ) (m : ℕ) → FindsFirst given 0 (replicate m None)
finds_none given m = record {
  found = λ k j e. absurd (let none = none_at m k in cc);
  every = λ k e. absurd cc;
}

-- what is a member of a list with one symbol more
member_more : (given : List ℕ) (i k s : ℕ) → i < length given → s ≡ get_or given i 0 → nat_eq k s ≡ false
    → is_member nat_eq (take (i + 1) given) k ≡ true → is_member nat_eq (take i given) k ≡ true
member_more given i k s l is other h =
    let e : is_member nat_eq (take (i + 1) given) k ≡ (is_member nat_eq (take i given) k || (nat_eq k (get_or given i 0) || false))
    = ap (λ xs. is_member nat_eq xs k) (take_more given i 0 l) ∙ list_any-append (nat_eq k) (take i given) (get_or given i 0 ∷ []) in
    let o : nat_eq k (get_or given i 0) ≡ false = subst (λ n. nat_eq k n ≡ false) is other in
    left_one (is_member nat_eq (take i given) k) (nat_eq k (get_or given i 0)) o (sym e ∙ h)
  where
    left_one : (a b : Bool) → b ≡ false → (a || (b || false)) ≡ true → a ≡ true
    left_one true b e h = refl
    left_one false true e h = absurd cc
    left_one false false e h = h

pub finds_more : (given : List ℕ) (i s : ℕ) (numbers : List (Option ℕ)) → i < length given → s ≡ get_or given i 0 → s < length numbers
    → FindsFirst given i numbers → FindsFirst given (i + 1) (set numbers s (Some i))
finds_more given i s numbers l is within h = record {
  found = λ k j e. found_by k j (nat_eq k s) refl e;
  every = λ k e. every_by k (nat_eq k s) refl e;
}
  where
    here : (k : ℕ) → nat_eq k s ≡ true → number_at (set numbers s (Some i)) k ≡ Some i
    here k same = get_or-set_at numbers s k (Some i) None (eqb-true k s same) within

    there : (k : ℕ) → nat_eq k s ≡ false → number_at (set numbers s (Some i)) k ≡ number_at numbers k
    there k other = get_or-set_other numbers s k (Some i) None (eqb-false k s other)

    found_by : (k j : ℕ) (t : Bool) → nat_eq k s ≡ t → number_at (set numbers s (Some i)) k ≡ Some j
        → (j < length given) × (get_or given j 0 ≡ k)
    found_by k j true same e =
        let i_is : i ≡ j = let at = here k same in cc in
        subst (λ n. (n < length given) × (get_or given n 0 ≡ k)) i_is (l, sym is ∙ sym (eqb-true k s same))
    found_by k j false other e = h.found k j (sym (there k other) ∙ e)

    every_by : (k : ℕ) (t : Bool) → nat_eq k s ≡ t → is_member nat_eq (take (i + 1) given) k ≡ true
        → IsSome (number_at (set numbers s (Some i)) k)
    every_by k true same e = subst IsSome (sym (here k same)) (search rules)
    every_by k false other e = subst IsSome (sym (there k other)) (h.every k (member_more given i k s l is other e))

pub finds_all : (given : List ℕ) (i : ℕ) (numbers : List (Option ℕ)) → length given ≡ i → FindsFirst given i numbers → FindsSymbols given numbers
finds_all given i numbers e h = record {
  found = h.found;
  every = λ k has. h.every k (subst (λ xs. is_member nat_eq xs k ≡ true) (sym (take_all i given (omega (arith, e)))) has);
}

-- a column that is gathered at its symbol is that of the symbol
pub IsColumn-gathered : (g : Ground) (n k : ℕ) (c : HeckeColumn) → IsGatheredAt g n k c → IsHeckeColumn c → IsColumn g (merel_matrices n) k c.coords
IsColumn-gathered g n k c at h =
    subst (λ j. IsColumn g (merel_matrices n) j c.coords) at.symbol_is
    (IsColumn-same at.gathered.modulus at.gathered.characteristic (ap merel_matrices at.gathered.n_is) c.symbol c.coords h)

-- the element at a place of a list, and what a list of its elements' numbers has there
pub number_is : {X : Type 0} (f : X → ℕ) (xs : List X) (x : X) (j k : ℕ) → j < length xs → x ≡ get_or xs j x → get_or (map f xs) j 0 ≡ k → f x ≡ k
number_is f xs x j k l is e = ap f is ∙ sym (get_or-map f xs j x 0 l) ∙ e

pub All-at : {X : Type 0} (P : X → Type 0) (xs : List X) (x : X) (j : ℕ) → j < length xs → x ≡ get_or xs j x → All P xs → P x
All-at P xs x j l is all = subst P (sym is) (all j x l)

pub number_here : {X : Type 0} (f : X → ℕ) (xs : List X) (x : X) (i s : ℕ) → i < length xs → x ≡ get_or xs i x → s ≡ f x → s ≡ get_or (map f xs) i 0
number_here f xs x i s l is e = e ∙ ap f is ∙ sym (get_or-map f xs i x 0 l)
