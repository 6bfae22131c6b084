-- Numbers that are spelled and read back, and texts that lack a byte.
use Rattle.std.proofs.Common.{◌≡◌, ◌≢◌, ℕ, zero, suc, ◌^◌, ◌<◌, Bool, true, false, not, ◌&&◌, eqb, ltb, List, [], ◌∷◌, ◌++◌, length, get_or, decimal, Option, Some, None, refl, sym, ap, subst, arith}
use Rattle.std.specs.List.{list_all}
use Rattle.std.specs.Str.{bytes_eq}
use Rattle.std.proofs.lemmas.Bool.{eqb-true, ltb-true, eq-eqb, lt-ltb, and_parts}
use Rattle.std.proofs.lemmas.Slice.Eq.{bytes_eq-Decides}
use Rattle.text_lines.specs.Numbers.{is_digit, is_natural, natural_of}
use Rattle.text_lines.specs.Lines.{Lacks}
use Rattle.text_lines.proofs.NumeralLemmas.{is_natural-decimal, natural_of-decimal}
use Rattle.reply_text.specs.Lexemes.{is_small, where_true, then_option, value_of, small_of}

pub taken : {A : Type 0} (b : Bool) (x y : A) → where_true b x ≡ Some y → (b ≡ true) × (x ≡ y)
taken true x y e = (refl, cc)
taken false x y e = absurd cc

pub then_taken : {A B : Type 0} (o : Option A) (next : A → Option B) (y : B) → then_option o next ≡ Some y
    → (x : A) × (o ≡ Some x) × (next x ≡ Some y)
then_taken None next y e = absurd cc
then_taken (Some x) next y e = (x, refl, e)

pub same_bytes : (xs ys : List ℕ) → bytes_eq xs ys ≡ true → xs ≡ ys
same_bytes xs ys e = (bytes_eq-Decides xs ys).0 e

pub bytes_same : (xs ys : List ℕ) → xs ≡ ys → bytes_eq xs ys ≡ true
bytes_same xs ys e = (bytes_eq-Decides xs ys).1 e

pub value_of-decimal : (n : ℕ) → n < 2 ^ 64 → value_of (decimal n) ≡ Some n
unfolding value_of
value_of-decimal n lt =
    let value = natural_of-decimal n lt in
    let same : bytes_eq (decimal (natural_of (decimal n))) (decimal n) ≡ true = bytes_same _ _ (ap decimal value) in
    let range : ltb (natural_of (decimal n)) (2 ^ 64) ≡ true = lt-ltb _ _ (subst (λ m. m < 2 ^ 64) (sym value) lt) in
    rw (is_natural-decimal n lt, same, range) (ap (λ m. Some m) value)

pub value_of-is : (t : List ℕ) (n : ℕ) → value_of t ≡ Some n → (decimal n ≡ t) × (n < 2 ^ 64)
unfolding value_of
value_of-is t n e =
    let took = taken (is_natural t && bytes_eq (decimal (natural_of t)) t && ltb (natural_of t) (2 ^ 64)) (natural_of t) n e in
    let p = and_parts (is_natural t && bytes_eq (decimal (natural_of t)) t) (ltb (natural_of t) (2 ^ 64)) took.0 in
    let q = and_parts (is_natural t) (bytes_eq (decimal (natural_of t)) t) p.0 in
    (subst (λ m. decimal m ≡ t) took.1 (same_bytes _ _ q.1), subst (λ m. m < 2 ^ 64) took.1 (ltb-true _ _ p.1))

pub is_small-lt : (n : ℕ) → is_small n ≡ true → n < 2 ^ 32
is_small-lt n e = ltb-true n (2 ^ 32) e

pub small_of-decimal : (n : ℕ) → is_small n ≡ true → small_of (decimal n) ≡ Some n
small_of-decimal n small =
    let lt = is_small-lt n small in
    rw (value_of-decimal n (omega arith), small) refl

pub small_of-is : (t : List ℕ) (n : ℕ) → small_of t ≡ Some n → (decimal n ≡ t) × (is_small n ≡ true)
small_of-is t n e =
    let next = then_taken (value_of t) (λ m. where_true (is_small m) m) n e in
    let took = taken (is_small next.0) next.0 n next.2 in
    let is = value_of-is t next.0 next.1 in
    (subst (λ m. decimal m ≡ t) took.1 is.0, subst (λ m. is_small m ≡ true) took.1 took.0)

-- ---- texts that lack a byte

abbrev pub lacks : ℕ → List ℕ → Bool
lacks s bytes = list_all (λ b. not (eqb b s)) bytes

not_eqb : (b s : ℕ) → not (eqb b s) ≡ true → b ≢ s
not_eqb b s e same = let is : eqb b s ≡ true = eq-eqb b s same in absurd cc

pub lacks-Lacks : (s : ℕ) (bytes : List ℕ) → lacks s bytes ≡ true → Lacks s bytes
lacks-Lacks s [] e = λ k d below. absurd (omega arith)
lacks-Lacks s (b ∷ bytes) e =
    let p = and_parts (not (eqb b s)) (lacks s bytes) e in
    let rest = lacks-Lacks s bytes p.1 in
    λ k d below. at k d below p.0 rest
  where
    at : (k d : ℕ) → k < length (b ∷ bytes) → not (eqb b s) ≡ true → Lacks s bytes → get_or (b ∷ bytes) k d ≢ s
    at zero d below here rest = not_eqb b s here
    at (suc k) d below here rest = rest k d (omega arith)

pub lacks-append : (s : ℕ) (xs ys : List ℕ) → lacks s xs ≡ true → lacks s ys ≡ true → lacks s (xs ++ ys) ≡ true
lacks-append s [] ys h k = k
lacks-append s (x ∷ xs) ys h k =
    let p = and_parts (not (eqb x s)) (lacks s xs) h in
    rw (p.0, lacks-append s xs ys p.1 k) refl

-- a byte that is no digit
abbrev pub is_mark : ℕ → Bool
is_mark s = not (is_digit s)

digit_not : (s b : ℕ) → is_mark s ≡ true → is_digit b ≡ true → not (eqb b s) ≡ true
digit_not s b mark digit = elim (eqb b s) as (λ v. eqb b s ≡ v → not v ≡ true) [
  | true ↦ λ e. let same = eqb-true b s e in let no : not (is_digit b) ≡ true = rw same mark in absurd cc
  | false ↦ λ e. refl
] refl

digits_lack : (s : ℕ) (ds : List ℕ) → is_mark s ≡ true → list_all is_digit ds ≡ true → lacks s ds ≡ true
digits_lack s [] mark all = refl
digits_lack s (d ∷ ds) mark all =
    let p = and_parts (is_digit d) (list_all is_digit ds) all in
    rw (digit_not s d mark p.0, digits_lack s ds mark p.1) refl

natural_digits : (t : List ℕ) → is_natural t ≡ true
    → (d : ℕ) × (ds : List ℕ) × (t ≡ d ∷ ds) × (is_digit d ≡ true) × (list_all is_digit (d ∷ ds) ≡ true)
natural_digits [] e = absurd cc
natural_digits (d ∷ ds) e = (d, ds, refl, (and_parts (is_digit d) (list_all is_digit ds) e).0, e)

-- a decimal begins with a digit
pub decimal_begins : (n : ℕ) → n < 2 ^ 64 → (d : ℕ) × (ds : List ℕ) × (decimal n ≡ d ∷ ds) × (is_digit d ≡ true) × (list_all is_digit (d ∷ ds) ≡ true)
decimal_begins n lt = natural_digits (decimal n) (is_natural-decimal n lt)

pub decimal_lacks : (s n : ℕ) → is_mark s ≡ true → n < 2 ^ 64 → lacks s (decimal n) ≡ true
decimal_lacks s n mark lt = let d = decimal_begins n lt in subst (λ t. lacks s t ≡ true) (sym d.2) (digits_lack s (d.0 ∷ d.1) mark d.4)
