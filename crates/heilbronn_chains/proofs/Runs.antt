-- Chains from a member on.
use Rattle.std.proofs.Common.{◌≡◌, ◌≢◌, ◌+◌, ◌-◌, ◌<◌, ◌≤◌, ◌⊎◌, ℕ, zero, suc, List, [], ◌∷◌, length, All, refl, sym, ◌∙◌, ap, subst, inl, inr, arith}
use Rattle.std.specs.Prelude.{ℤ, pos, negsuc, ◌-ℤ◌, ◌*ℤ◌, ◌<ℤ◌, ◌≤ℤ◌, unsigned_abs}
use Rattle.std.specs.List.{Contains, AllPairs}
use Rattle.std.proofs.lemmas.Bool.{cases_lt}
use Rattle.std.proofs.lemmas.Int.{ints}
use Rattle.std.proofs.lemmas.List.Elements.{All-nil, All-cons, All-head, All-tail, All-contains}
use Rattle.std.proofs.lemmas.List.Kept.{AllPairs-cons}
use Rattle.p1_normal.specs.declared.matrix.Matrix.{Matrix}
use Rattle.p1_normal.specs.Actions.{matrix, determinant}
use Rattle.heilbronn_sets.specs.Merel.{IsMerel}
use Rattle.heilbronn_chains.specs.Lattice.{SameLattice}
use Rattle.heilbronn_chains.specs.Starts.{IsStart}
use Rattle.heilbronn_chains.specs.Chains.{Follows, IsChain, IsChainOf, member}
use Rattle.heilbronn_chains.proofs.Integers.{is_gap, pos_gap, gaps, gap_same}
use Rattle.heilbronn_chains.proofs.Hermite.{has_start, some_factor, start_entries, start_unique}
use Rattle.heilbronn_chains.proofs.ColumnSteps.{SameLattice_refl, SameLattice_sym, SameLattice_trans}
use Rattle.heilbronn_chains.proofs.Steps.{Follows_unique, has_after, has_before}

-- the members after m: each follows the one before, and the last has c = 0
abbrev pub IsRun : ℕ → Matrix → List Matrix → Type 0
IsRun n m [] = m.c ≡ pos 0
IsRun n m (k ∷ ks) = Follows n m k × IsRun n k ks

-- c falls at each step
pub Follows-falls : (n : ℕ) (m k : Matrix) → Follows n m k → k.c <ℤ m.c
Follows-falls n m k h = subst (λ z. k.c <ℤ z) h.lower h.is_member.right

-- no member follows one with c = 0
pub Follows-last : (n : ℕ) (m k : Matrix) → m.c ≡ pos 0 → Follows n m k → ⊥
Follows-last n m k e h =
    let falls = Follows-falls n m k h in
    let low = h.is_member.lower in
    omega (arith, ints, e, falls, low)

-- a run from each member
pub record HasRun (n : ℕ) (m : Matrix) : Type 0 where
  pub rest : List Matrix
  pub run : IsRun n m rest

pub is_zero : (z : ℤ) → (z ≡ pos 0) ⊎ (z ≢ pos 0)
is_zero (pos zero) = inl refl
is_zero (pos (suc k)) = inr (λ e. omega (arith, ints, e))
is_zero (negsuc k) = inr (λ e. omega (arith, ints, e))

lesser : (x y : ℤ) (f : ℕ) → pos 0 ≤ℤ x → x <ℤ y → unsigned_abs y ≤ suc f → unsigned_abs x ≤ f
lesser (pos x) (pos y) f low l h = omega (arith, ints, l, h)
lesser (pos x) (negsuc y) f low l h = absurd (omega (arith, ints, l))
lesser (negsuc x) y f low l h = absurd (omega (arith, ints, low))

least : (z : ℤ) → unsigned_abs z ≤ 0 → z ≡ pos 0
least (pos zero) l = refl
least (pos (suc k)) l = absurd (omega (arith, l))
least (negsuc k) l = absurd (omega (arith, l))

run_within : (n fuel : ℕ) (m : Matrix) → IsMerel n m → unsigned_abs m.c ≤ fuel → HasRun n m
run_within n zero m h l = record { rest = []; run = least m.c l }
run_within n (suc fuel) m h l = elim (is_zero m.c) [
  | inl e ↦ record { rest = []; run = e }
  | inr more ↦
      let k = has_after n m h more in
      let r = run_within n fuel k.after k.follows.is_member (lesser k.after.c m.c fuel k.follows.is_member.lower
      (Follows-falls n m k.after k.follows) l) in
      record { rest = k.after ∷ r.rest; run = (k.follows, r.run) }
]

pub has_run : (n : ℕ) (m : Matrix) → IsMerel n m → HasRun n m
has_run n m h = run_within n (unsigned_abs m.c) m h (omega arith)

-- and only one
pub IsRun_unique : (n : ℕ) (m : Matrix) (ks ls : List Matrix) → 0 < n → IsRun n m ks → IsRun n m ls → ks ≡ ls
IsRun_unique n m [] [] some g h = refl
IsRun_unique n m [] (l ∷ ls) some g h = absurd (Follows-last n m l g h.0)
IsRun_unique n m (k ∷ ks) [] some g h = absurd (Follows-last n m k h g.0)
IsRun_unique n m (k ∷ ks) (l ∷ ls) some g h =
    let same : k ≡ l = Follows_unique n m k l some g.0 h.0 in
    ap (λ w. w ∷ ks) same ∙ ap (λ ws. l ∷ ws) (IsRun_unique n l ks ls some (subst (λ w. IsRun n w ks) same g.1) h.1)

-- ---- what holds of the members of a run
pub run_members : (n : ℕ) (m : Matrix) (ks : List Matrix) → IsRun n m ks → All (IsMerel n) ks
run_members n m [] h = All-nil (IsMerel n)
run_members n m (k ∷ ks) h = All-cons (IsMerel n) k ks h.0.is_member (run_members n k ks h.1)

pub run_lattice : (n : ℕ) (m l : Matrix) (ks : List Matrix) → SameLattice n l m → IsRun n m ks → All (SameLattice n l) ks
run_lattice n m l [] same h = All-nil (SameLattice n l)
run_lattice n m l (k ∷ ks) same h =
    let next : SameLattice n l k = SameLattice_trans n l m k same h.0.lattice in
    All-cons (SameLattice n l) k ks next (run_lattice n k l ks next h.1)

-- c is below that of an earlier member
pub IsBelow : Matrix → Matrix → Type 0
IsBelow m k = k.c <ℤ m.c

run_falls : (n : ℕ) (m l : Matrix) (ks : List Matrix) → ((k : Matrix) → k.c <ℤ m.c → k.c <ℤ l.c) → IsRun n m ks → All (λ k. k.c <ℤ l.c) ks
run_falls n m l [] below h = All-nil (λ k. k.c <ℤ l.c)
run_falls n m l (k ∷ ks) below h =
    let falls = Follows-falls n m k h.0 in
    All-cons (λ w. w.c <ℤ l.c) k ks (below k falls) (run_falls n k l ks (λ w lower. below w (omega (arith, ints, lower, falls))) h.1)

pub run_falling : (n : ℕ) (m : Matrix) (ks : List Matrix) → IsRun n m ks → AllPairs (λ l k. k.c <ℤ l.c) (m ∷ ks)
run_falling n m [] h = AllPairs-cons (λ l k. k.c <ℤ l.c) m [] (All-nil (λ k. k.c <ℤ m.c)) (λ i j d l lower. absurd (omega (arith, lower)))
run_falling n m (k ∷ ks) h = AllPairs-cons (λ l k. k.c <ℤ l.c) m (k ∷ ks) (run_falls n m m (k ∷ ks) (λ w lower. lower) h) (run_falling n k ks h.1)

run_pairs : (n : ℕ) (m : Matrix) (ks : List Matrix) → IsRun n m ks → AllPairs (SameLattice n) (m ∷ ks)
run_pairs n m [] h = AllPairs-cons (SameLattice n) m [] (All-nil (SameLattice n m)) (λ i j d l lower. absurd (omega (arith, lower)))
run_pairs n m (k ∷ ks) h = AllPairs-cons (SameLattice n) m (k ∷ ks) (run_lattice n m m (k ∷ ks) (SameLattice_refl n m) h) (run_pairs n k ks h.1)

run_last : (n : ℕ) (m : Matrix) (ks : List Matrix) → IsRun n m ks → (member (m ∷ ks) (length (m ∷ ks) - 1)).c ≡ pos 0
run_last n m [] h = h
run_last n m (k ∷ ks) h =
    let e : suc (length (k ∷ ks) - 1) ≡ length (m ∷ k ∷ ks) - 1 = omega arith in
    subst (λ j. (member (m ∷ k ∷ ks) j).c ≡ pos 0) e (run_last n k ks h.1)

run_steps : (n : ℕ) (m : Matrix) (ks : List Matrix) → IsRun n m ks → (j : ℕ) → suc j < length (m ∷ ks) →
    Follows n (member (m ∷ ks) j) (member (m ∷ ks) (suc j))
run_steps n m [] h j l = absurd (omega (arith, l))
run_steps n m (k ∷ ks) h zero l = h.0
run_steps n m (k ∷ ks) h (suc j) l = run_steps n k ks h.1 j (omega (arith, l))

run_links : (n : ℕ) (m : Matrix) (ks : List Matrix) → IsRun n m ks → (j : ℕ) → j + 1 < length (m ∷ ks) →
    Follows n (member (m ∷ ks) j) (member (m ∷ ks) (j + 1))
run_links n m ks h j l =
    let e : suc j ≡ j + 1 = omega arith in
    subst (λ i. Follows n (member (m ∷ ks) j) (member (m ∷ ks) i)) e (run_steps n m ks h j (omega (arith, l)))

-- ---- chains are the runs from the members with b = 0
pub chain_from_run : (n : ℕ) (m : Matrix) (ks : List Matrix) → IsMerel n m → m.b ≡ pos 0 → IsRun n m ks → IsChain n (m ∷ ks)
chain_from_run n m ks h first run = record {
  some = omega arith;
  members = All-cons (IsMerel n) m ks h (run_members n m ks run);
  lattice = run_pairs n m ks run;
  first = first;
  last = run_last n m ks run;
  upper = λ j l. (run_links n m ks run j l).upper;
  lower = λ j l. (run_links n m ks run j l).lower;
}

-- what a chain says of its matrices from one on
record Parts (n : ℕ) (ms : List Matrix) : Type 0 where
  members : All (IsMerel n) ms
  lattice : AllPairs (SameLattice n) ms
  last : (member ms (length ms - 1)).c ≡ pos 0
  upper : (k : ℕ) → k + 1 < length ms → (member ms (k + 1)).b ≡ (member ms k).a
  lower : (k : ℕ) → k + 1 < length ms → (member ms (k + 1)).d ≡ (member ms k).c

parts_tail : (n : ℕ) (m k : Matrix) (ks : List Matrix) → Parts n (m ∷ k ∷ ks) → Parts n (k ∷ ks)
parts_tail n m k ks h = record {
  members = All-tail (IsMerel n) m (k ∷ ks) h.members;
  lattice = λ i j d l lower. h.lattice (suc i) (suc j) d (omega (arith, l)) (omega (arith, lower));
  last = let e : length (m ∷ k ∷ ks) - 1 ≡ suc (length (k ∷ ks) - 1) = omega arith in subst (λ j. (member (m ∷ k ∷ ks) j).c ≡ pos 0) e h.last;
  upper = λ j l. let e : suc j + 1 ≡ suc (j + 1) = omega arith in subst (λ i. (member (m ∷ k ∷ ks) i).b ≡ (member (k ∷ ks) j).a) e
      (h.upper (suc j) (omega (arith, l)));
  lower = λ j l. let e : suc j + 1 ≡ suc (j + 1) = omega arith in subst (λ i. (member (m ∷ k ∷ ks) i).d ≡ (member (k ∷ ks) j).c) e
      (h.lower (suc j) (omega (arith, l)));
}

run_from_parts : (n : ℕ) (m : Matrix) (ks : List Matrix) → Parts n (m ∷ ks) → IsRun n m ks
run_from_parts n m [] h = h.last
run_from_parts n m (k ∷ ks) h = (
  record {
    is_member = h.members 1 (matrix (pos 0) (pos 0) (pos 0) (pos 0)) (omega arith);
    lattice = h.lattice 0 1 (matrix (pos 0) (pos 0) (pos 0) (pos 0)) (omega arith) (omega arith);
    upper = h.upper 0 (omega arith);
    lower = h.lower 0 (omega arith);
  },
  run_from_parts n k ks (parts_tail n m k ks h),
)

-- a chain by its first member and the run from it
pub record ChainRun (n : ℕ) (ms : List Matrix) : Type 0 where
  pub first : Matrix
  pub rest : List Matrix
  pub is : ms ≡ first ∷ rest
  pub is_member : IsMerel n first
  pub begins : first.b ≡ pos 0
  pub run : IsRun n first rest

pub chain_run : (n : ℕ) (ms : List Matrix) → IsChain n ms → ChainRun n ms
chain_run n [] h = absurd (let l = h.some in omega (arith, l))
chain_run n (m ∷ ks) h = record {
  first = m;
  rest = ks;
  is = refl;
  is_member = All-head (IsMerel n) m ks h.members;
  begins = h.first;
  run = run_from_parts n m ks (record { members = h.members; lattice = h.lattice; last = h.last; upper = h.upper; lower = h.lower });
}

-- a chain is determined by its first member
pub chain_by_first : (n : ℕ) (ms ks : List Matrix) → 0 < n → IsChain n ms → IsChain n ks → member ms 0 ≡ member ks 0 → ms ≡ ks
chain_by_first n ms ks some g h e =
    let x = chain_run n ms g in
    let y = chain_run n ks h in
    let same : x.first ≡ y.first = sym (ap (λ ws. member ws 0) x.is) ∙ e ∙ ap (λ ws. member ws 0) y.is in
    x.is ∙ ap (λ w. w ∷ x.rest) same ∙ ap (λ ws. y.first ∷ ws) (IsRun_unique n y.first x.rest y.rest some
    (subst (λ w. IsRun n w x.rest) same x.run) y.run) ∙ sym y.is

-- the members with b = 0 are the starts
pub start_from_merel : (n : ℕ) (m : Matrix) → IsMerel n m → m.b ≡ pos 0 → IsStart n m
start_from_merel n m h e = record { upper = e; diagonal = law m.a m.b m.c m.d e ∙ h.determinant_is; lower = h.lower; below = h.right }
  where
    law : (a b c d : ℤ) → b ≡ pos 0 → a *ℤ d ≡ a *ℤ d -ℤ b *ℤ c
    law a b c d e = rw e (product a c d)
      where
        product : (a c d : ℤ) → a *ℤ d ≡ a *ℤ d -ℤ pos 0 *ℤ c
        product a c d = rw (pos_gap 0, is_gap a, is_gap c, is_gap d) (simp gaps (gap_same _ _ _ _ (omega arith)))

pub merel_from_start : (n : ℕ) (m : Matrix) → 0 < n → IsStart n m → IsMerel n m
merel_from_start n m some h =
    let e = start_entries n m some h in
    let (more, right) = some_factor e.a e.d n e.diagonal some in
    subst (IsMerel n) (sym e.is) (record {
      left = omega (arith, ints, more);
      right = omega (arith, ints, e.below);
      upper = omega (arith, ints);
      lower = omega (arith, ints);
      determinant_is = omega (arith, ints, e.diagonal);
    })

-- a chain is determined by its lattice
pub chain_by_lattice : (n : ℕ) (ms ks : List Matrix) → 0 < n → IsChain n ms → IsChain n ks → SameLattice n (member ms 0) (member ks 0) → ms ≡ ks
chain_by_lattice n ms ks some g h same =
    let x = chain_run n ms g in
    let y = chain_run n ks h in
    let e = ap (λ ws. member ws 0) x.is in
    let f = ap (λ ws. member ws 0) y.is in
    let firsts : SameLattice n x.first y.first = subst (λ w. SameLattice n w y.first) e (subst (SameLattice n (member ms 0)) f same) in
    let first : x.first ≡ y.first = start_unique n x.first y.first some (start_from_merel n x.first x.is_member x.begins)
    (start_from_merel n y.first y.is_member y.begins) firsts in
    chain_by_first n ms ks some g h (e ∙ first ∙ sym f)

-- exactly one chain has the lattice of an integer matrix
pub chain_of : (n : ℕ) (m : Matrix) → 0 < n → determinant m ≡ pos n → IsChainOf n m
chain_of n m some e =
    let s = has_start n m some e in
    let h = merel_from_start n s.start some s.is in
    let r = has_run n s.start h in
    let is = chain_from_run n s.start r.rest h s.is.upper r.run in
    record {
      chain = s.start ∷ r.rest;
      is = is;
      lattice = s.same;
      only = λ ks other same. chain_by_lattice n ks (s.start ∷ r.rest) some other is
          (SameLattice_trans n (member ks 0) m s.start (SameLattice_sym n m (member ks 0) same) s.same);
    }

-- ---- each member stands in exactly one chain, once
-- with a member, a run holds the one that follows it
contains_next : (n : ℕ) (s : Matrix) (ks : List Matrix) (m k : Matrix) → 0 < n → IsRun n s ks → Contains (s ∷ ks) m → Follows n m k →
    Contains (s ∷ ks) k
contains_next n s [] m k some run (zero, l, same) h = absurd (Follows-last n s k run (subst (λ w. Follows n w k) (sym same) h))
contains_next n s [] m k some run (suc j, l, same) h = absurd (omega (arith, l))
contains_next n s (t ∷ ks) m k some run (zero, l, same) h =
    let next : t ≡ k = Follows_unique n s t k some run.0 (subst (λ w. Follows n w k) (sym same) h) in
    (1, omega arith, next)
contains_next n s (t ∷ ks) m k some run (suc j, l, same) h =
    let (i, within, here) = contains_next n t ks m k some run.1 (j, omega (arith, l), same) h in
    (suc i, omega (arith, within), here)

pub record ChainWith (n : ℕ) (m : Matrix) : Type 0 where
  pub chain : List Matrix
  pub is : IsChain n chain
  pub contains : Contains chain m

first_with : (n : ℕ) (m : Matrix) → IsMerel n m → m.b ≡ pos 0 → ChainWith n m
first_with n m h e = let r = has_run n m h in record {
  chain = m ∷ r.rest;
  is = chain_from_run n m r.rest h e r.run;
  contains =
      (0, omega arith, refl);
}

with_within : (n fuel : ℕ) (m : Matrix) → 0 < n → IsMerel n m → unsigned_abs m.b ≤ fuel → ChainWith n m
with_within n zero m some h l = first_with n m h (least m.b l)
with_within n (suc fuel) m some h l = elim (is_zero m.b) [
  | inl e ↦ first_with n m h e
  | inr more ↦
      let k = has_before n m h more in
      let w = with_within n fuel k.before some k.is_member (lesser k.before.b m.b fuel k.is_member.upper k.falls l) in
      let r = chain_run n w.chain w.is in
      record {
        chain = w.chain;
        is = w.is;
        contains = subst (λ ws. Contains ws m) (sym r.is)
            (contains_next n r.first r.rest k.before m some r.run (subst (λ ws. Contains ws k.before) r.is w.contains) k.follows);
      }
]

pub chain_with : (n : ℕ) (m : Matrix) → 0 < n → IsMerel n m → ChainWith n m
chain_with n m some h = with_within n (unsigned_abs m.b) m some h (omega arith)

-- each member of a chain has the lattice of the first
pub chain_lattice : (n : ℕ) (ms : List Matrix) (m : Matrix) → IsChain n ms → Contains ms m → SameLattice n (member ms 0) m
chain_lattice n ms m h inside =
    let r = chain_run n ms h in
    let all : All (SameLattice n r.first) (r.first ∷ r.rest) = All-cons (SameLattice n r.first) r.first r.rest (SameLattice_refl n r.first)
    (run_lattice n r.first r.first r.rest (SameLattice_refl n r.first) r.run) in
    subst (λ w. SameLattice n w m) (sym (ap (λ ws. member ws 0) r.is))
    (All-contains (SameLattice n r.first) (r.first ∷ r.rest) m all (subst (λ ws. Contains ws m) r.is inside))

pub chain_with_unique : (n : ℕ) (ms ks : List Matrix) (m : Matrix) → 0 < n → IsChain n ms → IsChain n ks → Contains ms m → Contains ks m → ms ≡ ks
chain_with_unique n ms ks m some g h in_one in_other =
    chain_by_lattice n ms ks some g h (SameLattice_trans n (member ms 0) m (member ks 0) (chain_lattice n ms m g in_one)
    (SameLattice_sym n (member ks 0) m (chain_lattice n ks m h in_other)))

-- and at one place of it
pub chain_falling : (n : ℕ) (ms : List Matrix) → IsChain n ms → AllPairs (λ l k. k.c <ℤ l.c) ms
chain_falling n ms h = let r = chain_run n ms h in subst (AllPairs (λ l k. k.c <ℤ l.c)) (sym r.is) (run_falling n r.first r.rest r.run)

pub one_place : (n : ℕ) (ms : List Matrix) (i j : ℕ) → IsChain n ms → i < length ms → j < length ms → member ms i ≡ member ms j → i ≡ j
one_place n ms i j h k l e = elim (cases_lt i j) [
  | inl lower ↦ absurd (apart i j lower l e)
  | inr upper ↦ elim (cases_lt j i) [
    | inl lower ↦ absurd (apart j i lower k (sym e))
    | inr same ↦ omega arith
  ]
]
  where
    apart : (i j : ℕ) → i < j → j < length ms → member ms i ≡ member ms j → ⊥
    apart i j lower l e =
        let falls : (member ms j).c <ℤ (member ms i).c = chain_falling n ms h i j (matrix (pos 0) (pos 0) (pos 0) (pos 0)) lower l in
        let same : (member ms i).c ≡ (member ms j).c = ap (λ w. w.c) e in
        omega (arith, ints, falls, same)
