-- What the sessions have learnt, as one of them learns more and the history grows.
use Rattle.std.proofs.Common.{◌≡◌, ℕ, zero, suc, ◌+◌, ◌<◌, ◌==◌, nat_lt, if◌then◌else◌, Bool, true, false, get_or, slice_index, Ok, Err, List, [], ◌∷◌, ◌++◌, length, take, slice_get, slice_set, Some, None, ◌⊎◌, inl, inr, refl, sym, ap, subst, ◌∙◌, arith}
use Rattle.std.specs.Arc.{arc_value}
use Rattle.std.proofs.lemmas.List.{take-append-le, take_all, get_or-map}
use Rattle.std.proofs.lemmas.Option.{slice_get-get_or}
use Rattle.quotient_coords.specs.Quotient.{Ground}
use Rattle.op_polynomials.specs.declared.entry.SplitEntry.{SplitEntry}
use Rattle.split_state.specs.Decomposition.{Decomposition}
use Rattle.split_state.specs.Versions.{IsVersion}
use Rattle.split_versions.specs.declared.fault.CommitFault.TheVariants as fault
use Rattle.reply_text.specs.declared.limits.TheConstants.{MAX_VERSIONS}
use Rattle.split_versions.specs.Histories.{commit_answer}
use Rattle.shared_core.specs.declared.learnt.Learnt.{Learnt}
use Rattle.shared_core.specs.declared.step.Outcome.{Outcome}
use Rattle.shared_core.specs.declared.step.Outcome.TheVariants.{Stale, Full, Committed}
use Rattle.shared_core.specs.Core.{commit_outcome}
use Rattle.shared_core.specs.Learning.{IsLearnt, AreLearnt, Commits, counts}
use Rattle.shared_core.specs.Verdicts.{IsVerdict, Verdict, accepted}

-- an item of a list with one replaced
place_after : {X : Type 0} (xs : List X) (k j : ℕ) (x y : X) → slice_get (slice_set xs k x) j ≡ Some y → (y ≡ x) ⊎ (slice_get xs j ≡ Some y)
place_after [] k j x y at = absurd cc
place_after (z ∷ xs) zero zero x y at = inl (let same : x ≡ y = cc in sym same)
place_after (z ∷ xs) zero (suc j) x y at = inr at
place_after (z ∷ xs) (suc k) zero x y at = inr at
place_after (z ∷ xs) (suc k) (suc j) x y at = place_after xs k j x y at

pub AreLearnt-set : (setting : Ground) (history : List SplitEntry) (ls : List Learnt) (k : ℕ) (l : Learnt) → AreLearnt setting history ls
    → IsLearnt setting history l → AreLearnt setting history (slice_set ls k l)
unfolding AreLearnt
AreLearnt-set setting history ls k l all new j m at =
    elim (place_after ls k j l m at) [
      | inl is ↦ subst (IsLearnt setting history) (sym is) new
      | inr old ↦ all j m old
    ]

pub AreLearnt-push : (setting : Ground) (history : List SplitEntry) (entry : SplitEntry) (ls : List Learnt) → AreLearnt setting history ls
    → AreLearnt setting (history ++ entry ∷ []) ls
unfolding AreLearnt
AreLearnt-push setting history entry ls all j l at =
    let old = all j l at in
    record {
      within = omega (arith, old.within, length_push history entry);
      version = subst (λ h. IsVersion setting h (arc_value l.splitting)) (sym (take-append-le l.count history (entry ∷ []) old.within)) old.version;
    }
  where
    length_push : (xs : List SplitEntry) (x : SplitEntry) → length (xs ++ x ∷ []) ≡ suc (length xs)
    length_push [] x = refl
    length_push (y ∷ xs) x = ap suc (length_push xs x)

pub counts-set : (ls : List Learnt) (k : ℕ) (l : Learnt) → counts (slice_set ls k l) ≡ slice_set (counts ls) k l.count
counts-set [] k l = refl
counts-set (m ∷ ls) zero l = refl
counts-set (m ∷ ls) (suc k) l = ap (λ ns. m.count ∷ ns) (counts-set ls k l)

pub learnt_at : (setting : Ground) (history : List SplitEntry) (ls : List Learnt) (k : ℕ) (l : Learnt) → AreLearnt setting history ls
    → slice_get ls k ≡ Some l → IsLearnt setting history l
unfolding AreLearnt
learnt_at setting history ls k l all at = all k l at

-- what a session has learnt, and its length
pub known_at : (setting : Ground) (history : List SplitEntry) (ls : List Learnt) (k : ℕ) (d : Learnt) → AreLearnt setting history ls → k < length ls
    → IsLearnt setting history (get_or ls k d) × ((get_or ls k d).count ≡ slice_index (counts ls) k)
known_at setting history ls k d all within = (
  learnt_at setting history ls k (get_or ls k d) all (slice_get-get_or ls k d within),
  sym
      (get_or-map (λ (l : Learnt). l.count) ls k d 0 within),
)

-- the version that was read
pub version_read : (setting N : Ground) (history : List SplitEntry) (l : Learnt) (parts : Decomposition) → setting ≡ N
    → IsLearnt setting history l → parts ≡ arc_value l.splitting → IsVersion N (take l.count history) parts
version_read setting N history l parts same known read = subst (IsVersion N (take l.count history)) (sym read)
    (subst (λ s. IsVersion s (take l.count history) (arc_value l.splitting)) same known.version)

-- a commit at what a session has learnt
pub commits : (setting N : Ground) (history : List SplitEntry) (count : ℕ) (l : Learnt) (parts : Decomposition) (entry : SplitEntry)
    (verdict : Verdict) (o : Outcome) → setting ≡ N → IsLearnt setting history l
    → l.count ≡ count → parts ≡ arc_value l.splitting → IsVerdict N parts entry.op verdict → o ≡ commit_outcome verdict l.count
    (length history) → Commits N history count entry o
commits setting N history count l parts entry verdict o same known is read says answers = (
  parts,
  verdict,
  subst (λ n. IsVersion N (take n history) parts) is (version_read setting N history l parts same known read),
  says,
  answers
      ∙ ap (λ n. commit_outcome verdict n (length history)) is,
)

-- what the history answers to a commit is the outcome
pub stale_is : (seen n count : ℕ) → Err (fault.Stale count) ≡ commit_answer seen n → Stale count ≡ commit_outcome accepted seen n
stale_is seen n count = by (nat_lt seen n) (n == MAX_VERSIONS)
  where
    by : (s t : Bool) → Err (fault.Stale count) ≡ (if s then Err (fault.Stale n) else (if t then Err fault.Full else Ok (n + 1)))
        → Stale count ≡ (if s then Stale n else (if t then Full else Committed (n + 1)))
    by true t e = ap Stale (let same : count ≡ n = cc in same)
    by false true e = absurd cc
    by false false e = absurd cc

pub full_is : (seen n : ℕ) → Err fault.Full ≡ commit_answer seen n → Full ≡ commit_outcome accepted seen n
full_is seen n = by (nat_lt seen n) (n == MAX_VERSIONS)
  where
    by : (s t : Bool) → Err fault.Full ≡ (if s then Err (fault.Stale n) else (if t then Err fault.Full else Ok (n + 1)))
        → Full ≡ (if s then Stale n else (if t then Full else Committed (n + 1)))
    by true t e = absurd cc
    by false true e = refl
    by false false e = absurd cc

pub committed_is : (seen n count : ℕ) → Ok count ≡ commit_answer seen n → Committed count ≡ commit_outcome accepted seen n
committed_is seen n count = by (nat_lt seen n) (n == MAX_VERSIONS)
  where
    by : (s t : Bool) → Ok count ≡ (if s then Err (fault.Stale n) else (if t then Err fault.Full else Ok (n + 1)))
        → Committed count ≡ (if s then Stale n else (if t then Full else Committed (n + 1)))
    by true t e = absurd cc
    by false true e = absurd cc
    by false false e = ap Committed (let same : count ≡ n + 1 = cc in same)

length_more : (xs : List SplitEntry) (x : SplitEntry) → length (xs ++ x ∷ []) ≡ length xs + 1
length_more [] x = refl
length_more (y ∷ xs) x = ap suc (length_more xs x) ∙ omega arith

-- the session of an accepted split learns the version that it makes
pub AreLearnt-commit : (setting : Ground) (history : List SplitEntry) (entry : SplitEntry) (ls : List Learnt) (k : ℕ) (l : Learnt) (seen : ℕ)
    → AreLearnt setting history ls → l.count ≡ length history + 1
    → seen ≡ length history → IsVersion setting (take seen history ++ entry ∷ []) (arc_value l.splitting) → AreLearnt setting
    (history ++ entry ∷ []) (slice_set ls k l)
AreLearnt-commit setting history entry ls k l seen all count is version =
    let whole : take seen history ≡ history = take_all seen history (omega arith) in
    let same : take l.count (history ++ entry ∷ []) ≡ take seen history ++ entry ∷ [] = take_all l.count (history ++ entry ∷ [])
    (omega (arith, length_more history entry)) ∙ ap (λ h. h ++ entry ∷ []) (sym whole) in
    AreLearnt-set setting (history ++ entry ∷ []) ls k l (AreLearnt-push setting history entry ls all)
    (record {
      within = omega (arith, length_more history entry);
      version = subst (λ h. IsVersion setting h (arc_value l.splitting))
          (sym same) version;
    })

-- an item of a list with one more
place_in_push : {X : Type 0} (xs : List X) (j : ℕ) (x y : X) → slice_get (xs ++ x ∷ []) j ≡ Some y → (y ≡ x) ⊎ (slice_get xs j ≡ Some y)
place_in_push [] zero x y at = inl (let same : x ≡ y = cc in sym same)
place_in_push [] (suc j) x y at = absurd cc
place_in_push (z ∷ xs) zero x y at = inr at
place_in_push (z ∷ xs) (suc j) x y at = place_in_push xs j x y at

-- one more session, which has learnt nothing, where there is nothing to learn
pub AreLearnt-nothing : (setting : Ground) (history : List SplitEntry) (ls : List Learnt) (l : Learnt) → AreLearnt setting history ls
    → history ≡ [] → l.count ≡ 0 → IsVersion setting history (arc_value l.splitting)
    → AreLearnt setting history (ls ++ l ∷ [])
unfolding AreLearnt
AreLearnt-nothing setting history ls l all none count version j m at =
    elim (place_in_push ls j l m at) [
      | inl is ↦ subst (IsLearnt setting history) (sym is)
          (record {
            within = omega (arith, count);
            version = subst (λ h. IsVersion setting h (arc_value l.splitting))
                (none ∙ sym (ap (take l.count) none ∙ take_all l.count [] (omega arith))) version;
          })
      | inr old ↦ all j m old
    ]

pub AreLearnt-nil : (setting : Ground) (history : List SplitEntry) → AreLearnt setting history []
unfolding AreLearnt
AreLearnt-nil setting history k l at = absurd (let none : None ≡ Some l = at in cc)

pub counts-push : (ls : List Learnt) (l : Learnt) → counts (ls ++ l ∷ []) ≡ counts ls ++ l.count ∷ []
counts-push [] l = refl
counts-push (m ∷ ls) l = ap (λ ns. m.count ∷ ns) (counts-push ls l)
