-- A reader whose states spell what they have read, and can each be completed, refuses exactly the first bad line.
use Rattle.std.proofs.Common.{◌≡◌, ℕ, suc, ◌<◌, ◌≤◌, List, [], ◌∷◌, ◌++◌, length, take, drop, Option, Some, None, Result, Ok, Err, refl, sym, ap, subst, ◌∙◌, append_assoc, add-one, length-append, arith, inl, inr, ◌⊎◌}
use Rattle.std.proofs.lemmas.List.{take-append-le, take-append-drop, append-nil}
use Rattle.reply_text.specs.FirstBad.{IsFirstBad}

-- what is there, or the number of the line that fails
abbrev pub or_line : {A T : Type 0} → ℕ → Option A → (A → Result T ℕ) → Result T ℕ
or_line n None next = Err n
or_line n (Some x) next = next x

-- Reading from a state on: the value, or the number of the line that fails. n is the number of the next line.
abbrev pub read_lines : {S L T : Type 0} → (S → L → Option S) → (S → Option T) → S → ℕ → List L → Result T ℕ
read_lines step finish s n [] = or_line n (finish s) (λ x. Ok x)
read_lines step finish s n (l ∷ ls) = or_line n (step s l) (λ t. read_lines step finish t (suc n) ls)

pub record Format (S L T : Type 0) : Type 1 where
  pub IsGood : T → Type 0
  pub lines_of : T → List L
  pub start : S
  pub step : S → L → Option S
  pub finish : S → Option T
  -- what holds of each state, and the lines that it has read
  pub Holds : S → Type 0
  pub spelled : S → List L
  pub starts : Holds start × (spelled start ≡ [])
  pub steps : (s t : S) (l : L) → Holds s → step s l ≡ Some t → Holds t × (spelled t ≡ spelled s ++ l ∷ [])
  pub finishes : (s : S) (x : T) → Holds s → finish s ≡ Some x → IsGood x × (lines_of x ≡ spelled s)
  pub completes : (s : S) → Holds s → (x : T) × (more : List L) × IsGood x × (lines_of x ≡ spelled s ++ more)
  pub again : (x : T) → IsGood x → read_lines step finish start 1 (lines_of x) ≡ Ok x

abbrev done : {T : Type 0} → T → Result T ℕ
done x = Ok x

ok_is : {T : Type 0} (x y : T) → done x ≡ done y → x ≡ y
ok_is x y e = cc

-- the reader is in this state once it has read what the state spells
pub record Reached {S L T : Type 0} (f : Format S L T) (s : S) : Type 0 where
  pub holds : f.Holds s
  pub from_start : (ls : List L)
      → read_lines f.step f.finish f.start 1 (f.spelled s ++ ls) ≡ read_lines f.step f.finish s (suc (length (f.spelled s))) ls

reached-start : {S L T : Type 0} (f : Format S L T) → Reached f f.start
reached-start f = record { holds = f.starts.0; from_start = λ ls. rw f.starts.1 refl }

step-on : {S L T : Type 0} (f : Format S L T) (s t : S) (n : ℕ) (l : L) (ls : List L) → f.step s l ≡ Some t
    → read_lines f.step f.finish s n (l ∷ ls) ≡ read_lines f.step f.finish t (suc n) ls
step-on f s t n l ls e = rw e refl

reached-next : {S L T : Type 0} (f : Format S L T) (s t : S) (l : L) → Reached f s → f.step s l ≡ Some t → Reached f t
reached-next f s t l r e =
    let next = f.steps s t l r.holds e in
    record {
      holds = next.0;
      from_start = λ ls. rw (next.1, append_assoc, r.from_start (l ∷ ls), step-on f s t _ l ls e, length-append (f.spelled s) (l ∷ []), add-one) refl;
    }

-- what is wrong at a line cannot begin a text
none_at : {S L T : Type 0} (f : Format S L T) (s : S) (ls : List L) (t : ℕ) → Reached f s
    → read_lines f.step f.finish s (suc (length (f.spelled s))) ls ≡ Err t
    → (x : T) → f.IsGood x → f.lines_of x ≡ f.spelled s ++ ls → ⊥
none_at f s ls t r e x good same =
    let yes = f.again x good in
    let no : read_lines f.step f.finish f.start 1 (f.lines_of x) ≡ Err t = rw same (r.from_start ls ∙ e) in
    absurd cc

take-front : {A : Type 0} (k : ℕ) (xs ys zs : List A) → k ≤ length xs → take k (xs ++ ys) ≡ take k (xs ++ zs)
take-front k xs ys zs le = rw (take-append-le k xs ys le, take-append-le k xs zs le) refl

earlier : {S L T : Type 0} (f : Format S L T) (s : S) (ls : List L) → f.Holds s → (k : ℕ) → k < suc (length (f.spelled s))
    → (x : T) × f.IsGood x × (take k (f.lines_of x) ≡ take k (f.spelled s ++ ls))
earlier f s ls holds k below =
    let whole = f.completes s holds in
    (whole.0, whole.2, rw whole.3 (take-front k (f.spelled s) whole.1 ls (omega arith)))

take-one-more : {A : Type 0} (front : List A) (l : A) (ls : List A) → take (suc (length front)) (front ++ l ∷ ls) ≡ front ++ l ∷ []
take-one-more [] l ls = refl
take-one-more (x ∷ front) l ls = ap (λ ys. x ∷ ys) (take-one-more front l ls)

-- the text of a value that has the lines so far and the next one begins with them
begins_with : {A : Type 0} (xs front : List A) (l : A) (ls : List A) → take (suc (length front)) xs ≡ take (suc (length front)) (front ++ l ∷ ls)
    → xs ≡ front ++ l ∷ drop (suc (length front)) xs
begins_with xs front l ls same =
    let whole = take-append-drop (suc (length front)) xs in
    sym whole ∙ ap (λ ys. ys ++ drop (suc (length front)) xs) (same ∙ take-one-more front l ls)
    ∙ append_assoc front (l ∷ []) (drop (suc (length front)) xs)

or_line_err : {A T : Type 0} (n : ℕ) (o : Option A) (next : A → Result T ℕ) (t : ℕ) → or_line n o next ≡ Err t
    → ((o ≡ None) × (n ≡ t)) ⊎ ((x : A) × (o ≡ Some x) × (next x ≡ Err t))
or_line_err n None next t e = inl (refl, cc)
or_line_err n (Some x) next t e = inr (x, refl, e)

or_line_ok : {A T : Type 0} (n : ℕ) (o : Option A) (next : A → Result T ℕ) (y : T) → or_line n o next ≡ Ok y
    → (x : A) × (o ≡ Some x) × (next x ≡ Ok y)
or_line_ok n None next y e = absurd cc
or_line_ok n (Some x) next y e = (x, refl, e)

pub refuses : {S L T : Type 0} (f : Format S L T) (s : S) (ls : List L) (t : ℕ) → Reached f s
    → read_lines f.step f.finish s (suc (length (f.spelled s))) ls ≡ Err t → IsFirstBad f.IsGood f.lines_of (f.spelled s ++ ls) t
refuses f s [] t r e =
    elim (or_line_err (suc (length (f.spelled s))) (f.finish s) (λ x. Ok x) t e) [
      | inl here ↦
          let n : suc (length (f.spelled s)) ≡ t = here.1 in
          record {
            no_text = none_at f s [] t r e;
            before = λ k below. earlier f s [] r.holds k (omega arith);
            at = λ h x good same. absurd (omega (arith, h, length-append (f.spelled s) []));
            within = omega (arith, length-append (f.spelled s) []);
          }
      | inr later ↦ absurd (let no = later.2 in cc)
    ]
refuses f s (l ∷ ls) t r e =
    elim (or_line_err (suc (length (f.spelled s))) (f.step s l) (λ u. read_lines f.step f.finish u (suc (suc (length (f.spelled s)))) ls) t e) [
      | inl here ↦
          let n : suc (length (f.spelled s)) ≡ t = here.1 in
          record {
            no_text = none_at f s (l ∷ ls) t r e;
            before = λ k below. earlier f s (l ∷ ls) r.holds k (omega arith);
            at = λ h x good same.
                let begun = begins_with (f.lines_of x) (f.spelled s) l ls (rw n same) in
                none_at f s (l ∷ drop (suc (length (f.spelled s))) (f.lines_of x)) (suc (length (f.spelled s))) r (rw here.0 refl) x good begun;
            within = omega (arith, length-append (f.spelled s) (l ∷ ls));
          }
      | inr later ↦
          let u = later.0 in
          let next = f.steps s u l r.holds later.1 in
          let same : f.spelled u ++ ls ≡ f.spelled s ++ l ∷ ls = rw next.1 (append_assoc (f.spelled s) (l ∷ []) ls) in
          let len : length (f.spelled u) ≡ suc (length (f.spelled s)) = rw (next.1, length-append (f.spelled s) (l ∷ [])) (omega arith) in
          subst (λ all. IsFirstBad f.IsGood f.lines_of all t) same (refuses f u ls t (reached-next f s u l r later.1) (rw len later.2))
    ]

pub accepts : {S L T : Type 0} (f : Format S L T) (s : S) (ls : List L) (x : T) → f.Holds s → (n : ℕ) → read_lines f.step f.finish s n ls ≡ Ok x
    → f.IsGood x × (f.lines_of x ≡ f.spelled s ++ ls)
accepts f s [] x holds n e =
    let last = or_line_ok n (f.finish s) (λ y. Ok y) x e in
    let good = f.finishes s last.0 holds last.1 in
    let same : last.0 ≡ x = ok_is last.0 x last.2 in
    subst (λ y. f.IsGood y × (f.lines_of y ≡ f.spelled s ++ [])) same (good.0, good.1 ∙ sym (append-nil (f.spelled s)))
accepts f s (l ∷ ls) x holds n e =
    let later = or_line_ok n (f.step s l) (λ u. read_lines f.step f.finish u (suc n) ls) x e in
    let next = f.steps s later.0 l holds later.1 in
    let rest = accepts f later.0 ls x next.0 (suc n) later.2 in
    (rest.0, rest.1 ∙ rw next.1 (append_assoc (f.spelled s) (l ∷ []) ls))

-- ---- what a reader answers

pub found : {S L T : Type 0} (f : Format S L T) (ls : List L) (x : T) → read_lines f.step f.finish f.start 1 ls ≡ Ok x
    → f.IsGood x × (f.lines_of x ≡ ls)
found f ls x e = let good = accepts f f.start ls x f.starts.0 1 e in (good.0, good.1 ∙ rw f.starts.1 refl)

pub first_bad : {S L T : Type 0} (f : Format S L T) (ls : List L) (t : ℕ) → read_lines f.step f.finish f.start 1 ls ≡ Err t
    → IsFirstBad f.IsGood f.lines_of ls t
first_bad f ls t e =
    let none : f.spelled f.start ≡ [] = f.starts.1 in
    subst (λ front. IsFirstBad f.IsGood f.lines_of (front ++ ls) t) none (refuses f f.start ls t (reached-start f) (rw none e))
