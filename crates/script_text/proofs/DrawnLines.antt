-- The line of a drawn command is read as that command.
use Rattle.std.proofs.Common.{◌≡◌, ℕ, zero, suc, ◌≤◌, true, false, List, [], ◌∷◌, ◌++◌, length, decimal, Option, Some, None, Ok, refl, ap, ◌∙◌, append_assoc, arith}
use Rattle.std.specs.Prelude.{ℤ, pos, neg_ℤ, codes, map}
use Rattle.std.specs.List.{list_all, list_any}
use Rattle.std.proofs.lemmas.Bool.Decides.{nat_tests}
use Rattle.text_lines.specs.Lines.{tokens, parts}
use Rattle.text_lines.specs.Numbers.{is_integer}
use Rattle.p1_normal.specs.declared.matrix.TheConstants.{MAX_DET}
use Rattle.op_polynomials.specs.declared.name.OpName.{OpName}
use Rattle.op_polynomials.specs.declared.name.OpName.TheVariants as ops
use Rattle.op_polynomials.specs.declared.poly.TheConstants.{MAX_COEFFICIENTS}
use Rattle.script_text.specs.declared.limits.TheConstants.{MAX_TERMS}
use Rattle.script_text.specs.declared.kind.Kind.{Kind}
use Rattle.script_text.specs.declared.kind.Kind.TheVariants as kinds
use Rattle.script_text.specs.declared.word.Word.{Word}
use Rattle.script_text.specs.declared.word.Word.TheVariants as words
use Rattle.script_text.specs.declared.term.Term.{Term}
use Rattle.script_text.specs.declared.drawn.DrawnCommand.TheVariants as drawn
use Rattle.script_text.specs.declared.drawn.DrawnTerm.{DrawnTerm}
use Rattle.script_text.specs.Rows.{row}
use Rattle.script_text.specs.Tokens.{Given, nothing, integer, is_operator, add_operator}
use Rattle.script_text.specs.Grammar.{next_kind, rest, fits, add_kind}
use Rattle.script_text.specs.Limits.{is_past, is_term_past, has_past, limit_of}
use Rattle.script_text.specs.Commands.{command, command_of}
use Rattle.script_text.specs.Walk.{walk}
use Rattle.script_text.specs.Draws.{term_text, operator_text, drawn_text}
use Rattle.script_text.specs.DrawnCommands.{drawn_term, command_of_drawn, IsDrawnTerm, IsDrawnOperator, DrawnLinesAreRead}
use Rattle.script_text.proofs.FormLemmas.{command_of-tokens, accepted}
use Rattle.script_text.proofs.DrawnTexts.{IsNumeral, decimal-numeral, numeral-integer, IsWord, numeral-word, tokens-end, tokens-more, IsTermOf, term_text-reads, polynomial-parts, polynomial-word}

-- ---- tokens, one after the other

walk-next : (kinds : List Kind) (repeated : Option Kind) (place : ℕ) (g : Given) (t : List ℕ) (ts : List (List ℕ))
    → fits (next_kind kinds repeated) t ≡ true
    → walk kinds repeated place g (t ∷ ts) ≡ walk (rest kinds) repeated (suc place) (add_kind (next_kind kinds repeated) t g) ts
unfolding walk
walk-next [] repeated place g t ts fit = rw fit refl
walk-next (kind ∷ kinds) repeated place g t ts fit = rw fit refl

walk-end : (repeated : Option Kind) (place : ℕ) (g : Given) → walk [] repeated place g [] ≡ Ok g
unfolding walk
walk-end repeated place g = refl

walk-term : (place : ℕ) (g : Given) (t : Term) (token : List ℕ) (ts : List (List ℕ)) → IsTermOf t token
    → walk [] (Some kinds.Term) place g (token ∷ ts) ≡ walk [] (Some kinds.Term) (suc place) (record g { terms = g.terms ++ t ∷ [] }) ts
walk-term place g t token ts reads =
    walk-next [] (Some kinds.Term) place g token ts reads.is
    ∙ ap (λ (u : Term). walk [] (Some kinds.Term) (suc place) (record g { terms = g.terms ++ u ∷ [] }) ts) reads.value

abbrev with_terms : Given → List Term → Given
with_terms g terms = record g { terms = terms }

walk-one_term : (place : ℕ) (g : Given) (t : Term) (token : List ℕ) → IsTermOf t token → g.terms ≡ []
    → walk [] (Some kinds.Term) place g (token ∷ []) ≡ Ok (with_terms g (t ∷ []))
walk-one_term place g t token reads none =
    walk-term place g t token [] reads
    ∙ walk-end (Some kinds.Term) (suc place) (with_terms g (g.terms ++ t ∷ []))
    ∙ ap (λ (ts : List Term). Ok (with_terms g (ts ++ t ∷ []))) none

walk-two_terms : (place : ℕ) (g : Given) (t u : Term) (first second : List ℕ) → IsTermOf t first → IsTermOf u second → g.terms ≡ []
    → walk [] (Some kinds.Term) place g (first ∷ second ∷ []) ≡ Ok (with_terms g (t ∷ u ∷ []))
walk-two_terms place g t u first second a b none =
    walk-term place g t first (second ∷ []) a
    ∙ walk-term (suc place) (with_terms g (g.terms ++ t ∷ [])) u second [] b
    ∙ walk-end (Some kinds.Term) (suc (suc place)) (with_terms g ((g.terms ++ t ∷ []) ++ u ∷ []))
    ∙ ap (λ (ts : List Term). Ok (with_terms g ((ts ++ t ∷ []) ++ u ∷ []))) none

-- ---- limits

no_limit : (g : Given) → 1 ≤ g.n → g.n ≤ MAX_DET → length g.coefficients ≤ MAX_COEFFICIENTS → length g.terms ≤ MAX_TERMS
    → has_past g ≡ false → None ≡ limit_of g
no_limit g positive limited coefficients terms numbers = grind (arith, nat_tests)

not_past : (n : ℕ) → n ≤ 1000 → is_past (pos n) ≡ false
not_past n small = grind (arith, nat_tests)

not_past-neg : (n : ℕ) → n ≤ 1000 → is_past (neg_ℤ (pos n)) ≡ false
not_past-neg zero small = refl
not_past-neg (suc n) small = not_past (suc n) small

-- a term whose numbers are small
record IsSmall (t : DrawnTerm) : Type 0 where
  coefficient : t.coefficient ≤ 1000
  v : t.v ≤ 1000

not_past-term : (t : DrawnTerm) → IsSmall t → is_term_past (drawn_term t) ≡ false
not_past-term t small = rw (not_past t.coefficient small.coefficient, not_past t.v small.v) refl

-- ---- what a text is read as whose tokens are such

reads : (text : List ℕ) (w : Word) (ts : List (List ℕ)) (g : Given) → tokens text ≡ (row w).word ∷ ts
    → walk (row w).kinds (row w).repeated 2 nothing ts ≡ Ok g → None ≡ limit_of g → command_of text ≡ Ok (command w g)
reads text w ts g are read limit = command_of-tokens text text ((row w).word ∷ ts) refl are ∙ accepted w (row w).word ts g refl read limit

-- ---- commands of terms

text_reads : (t : DrawnTerm) → IsSmall t → IsTermOf (drawn_term t) (term_text t)
text_reads t small = term_text-reads t small.coefficient small.v

one_token : (t : DrawnTerm) → IsSmall t → tokens (term_text t) ≡ term_text t ∷ []
one_token t small = tokens-end (term_text t) (text_reads t small).word

two_tokens : (t u : DrawnTerm) → IsSmall t → IsSmall u → tokens (term_text t ++ 32 ∷ term_text u) ≡ term_text t ∷ term_text u ∷ []
two_tokens t u a b = tokens-more (term_text t) (term_text u) (text_reads t a).word ∙ ap (λ ts. term_text t ∷ ts) (one_token u b)

terms_tokens : (t u : DrawnTerm) → IsSmall t → IsSmall u → tokens (term_text t ++ codes " " ++ term_text u) ≡ term_text t ∷ term_text u ∷ []
terms_tokens t u a b = ap tokens (append_assoc (term_text t) (codes " ") (term_text u)) ∙ two_tokens t u a b

abbrev with_n : ℕ → Given
with_n n = record nothing { n = n }

within_limits : (n : ℕ) (ts : List Term) → 1 ≤ n → n ≤ MAX_DET → length ts ≤ MAX_TERMS → list_any is_term_past ts ≡ false
    → None ≡ limit_of (with_terms (with_n n) ts)
within_limits n ts positive limited few numbers = no_limit (with_terms (with_n n) ts) positive limited (omega arith) few numbers

one_within : (n : ℕ) (t : DrawnTerm) → 1 ≤ n → n ≤ MAX_DET → IsSmall t → None ≡ limit_of (with_terms (with_n n) (drawn_term t ∷ []))
one_within n t positive limited small =
    within_limits n (drawn_term t ∷ []) positive limited (omega arith) (rw (not_past-term t small) refl)

two_within : (n : ℕ) (t u : DrawnTerm) → 1 ≤ n → n ≤ MAX_DET → IsSmall t → IsSmall u
    → None ≡ limit_of (with_terms (with_n n) (drawn_term t ∷ drawn_term u ∷ []))
two_within n t u positive limited a b =
    within_limits n (drawn_term t ∷ drawn_term u ∷ []) positive limited (omega arith) (rw (not_past-term t a, not_past-term u b) refl)

reduce-reads : (t u : DrawnTerm) → IsSmall t → IsSmall u → command_of (drawn_text (drawn.Reduce t u)) ≡ Ok (command_of_drawn (drawn.Reduce t u))
reduce-reads t u a b =
    reads (drawn_text (drawn.Reduce t u)) words.Reduce (term_text t ∷ term_text u ∷ []) (with_terms nothing (drawn_term t ∷ drawn_term u ∷ []))
    (ap (λ ts. codes "reduce" ∷ ts) (terms_tokens t u a b))
    (walk-two_terms 2 nothing (drawn_term t) (drawn_term u) (term_text t) (term_text u) (text_reads t a) (text_reads u b) refl)
    (two_within 1 t u (omega arith) (omega arith) a b)

boundary-reads : (t u : DrawnTerm) → IsSmall t → IsSmall u
    → command_of (drawn_text (drawn.Boundary t u)) ≡ Ok (command_of_drawn (drawn.Boundary t u))
boundary-reads t u a b =
    reads (drawn_text (drawn.Boundary t u)) words.Boundary (term_text t ∷ term_text u ∷ [])
    (with_terms nothing (drawn_term t ∷ drawn_term u ∷ []))
    (ap (λ ts. codes "boundary" ∷ ts) (terms_tokens t u a b))
    (walk-two_terms 2 nothing (drawn_term t) (drawn_term u) (term_text t) (term_text u) (text_reads t a) (text_reads u b) refl)
    (two_within 1 t u (omega arith) (omega arith) a b)

star-reads : (t : DrawnTerm) → IsSmall t → command_of (drawn_text (drawn.Star t)) ≡ Ok (command_of_drawn (drawn.Star t))
star-reads t small =
    reads (drawn_text (drawn.Star t)) words.Star (term_text t ∷ []) (with_terms nothing (drawn_term t ∷ []))
    (ap (λ ts. codes "star" ∷ ts) (one_token t small))
    (walk-one_term 2 nothing (drawn_term t) (term_text t) (text_reads t small) refl)
    (one_within 1 t (omega arith) (omega arith) small)

-- ---- images

walk-index : (n : ℕ) (digits : List ℕ) (ts : List (List ℕ)) → IsNumeral n digits
    → walk (kinds.Index ∷ []) (Some kinds.Term) 2 nothing (digits ∷ ts) ≡ walk [] (Some kinds.Term) 3 (with_n n) ts
walk-index n digits ts numeral =
    walk-next (kinds.Index ∷ []) (Some kinds.Term) 2 nothing digits ts numeral.are
    ∙ ap (λ m. walk [] (Some kinds.Term) 3 (with_n m) ts) numeral.value

index_tokens : (n : ℕ) (more : List ℕ) → IsNumeral n (decimal n) → tokens (decimal n ++ 32 ∷ more) ≡ decimal n ∷ tokens more
index_tokens n more numeral = tokens-more (decimal n) more (numeral-word n (decimal n) numeral)

-- three texts with a space between each two
spaced : (a b c : List ℕ) → a ++ codes " " ++ b ++ codes " " ++ c ≡ a ++ 32 ∷ (b ++ 32 ∷ c)
spaced a b c = simp append_assoc

one_image_tokens : (n : ℕ) (t : DrawnTerm) → IsNumeral n (decimal n) → IsSmall t
    → tokens (decimal n ++ codes " " ++ term_text t) ≡ decimal n ∷ term_text t ∷ []
one_image_tokens n t numeral small =
    ap tokens (append_assoc (decimal n) (codes " ") (term_text t))
    ∙ index_tokens n (term_text t) numeral
    ∙ ap (λ ts. decimal n ∷ ts) (one_token t small)

two_image_tokens : (n : ℕ) (t u : DrawnTerm) → IsNumeral n (decimal n) → IsSmall t → IsSmall u
    → tokens (decimal n ++ codes " " ++ term_text t ++ codes " " ++ term_text u) ≡ decimal n ∷ term_text t ∷ term_text u ∷ []
two_image_tokens n t u numeral a b =
    ap tokens (spaced (decimal n) (term_text t) (term_text u))
    ∙ index_tokens n (term_text t ++ 32 ∷ term_text u) numeral
    ∙ ap (λ ts. decimal n ∷ ts) (two_tokens t u a b)

image_of_one-reads : (n : ℕ) (t : DrawnTerm) → 1 ≤ n → n ≤ MAX_DET → n ≤ 1000 → IsSmall t
    → command_of (drawn_text (drawn.Image n t None)) ≡ Ok (command_of_drawn (drawn.Image n t None))
image_of_one-reads n t positive limited low small =
    let numeral = decimal-numeral n low in
    reads (drawn_text (drawn.Image n t None)) words.Image (decimal n ∷ term_text t ∷ []) (with_terms (with_n n) (drawn_term t ∷ []))
    (ap (λ ts. codes "image" ∷ ts) (one_image_tokens n t numeral small))
    (walk-index n (decimal n) (term_text t ∷ []) numeral
    ∙ walk-one_term 3 (with_n n) (drawn_term t) (term_text t) (text_reads t small) refl)
    (one_within n t positive limited small)

image_of_two-reads : (n : ℕ) (t u : DrawnTerm) → 1 ≤ n → n ≤ MAX_DET → n ≤ 1000 → IsSmall t → IsSmall u
    → command_of (drawn_text (drawn.Image n t (Some u))) ≡ Ok (command_of_drawn (drawn.Image n t (Some u)))
image_of_two-reads n t u positive limited low a b =
    let numeral = decimal-numeral n low in
    reads (drawn_text (drawn.Image n t (Some u))) words.Image (decimal n ∷ term_text t ∷ term_text u ∷ [])
    (with_terms (with_n n) (drawn_term t ∷ drawn_term u ∷ []))
    (ap (λ ts. codes "image" ∷ ts) (two_image_tokens n t u numeral a b))
    (walk-index n (decimal n) (term_text t ∷ term_text u ∷ []) numeral
    ∙ walk-two_terms 3 (with_n n) (drawn_term t) (drawn_term u) (term_text t) (term_text u) (text_reads t a) (text_reads u b) refl)
    (two_within n t u positive limited a b)

-- ---- normal forms and the newest splitting

abbrev with_integers : List ℤ → Given
with_integers integers = record nothing { integers = integers }

walk-normal : (v : ℕ) (digits : List ℕ) → IsNumeral v digits
    → walk (kinds.Integer ∷ kinds.Integer ∷ []) None 2 nothing ((49 ∷ []) ∷ digits ∷ []) ≡ Ok (with_integers (pos 1 ∷ pos v ∷ []))
walk-normal v digits numeral =
    walk-next (kinds.Integer ∷ kinds.Integer ∷ []) None 2 nothing (49 ∷ []) (digits ∷ []) refl
    ∙ walk-next (kinds.Integer ∷ []) None 3 (with_integers (pos 1 ∷ [])) digits [] (numeral-integer v digits numeral).0
    ∙ walk-end None 4 (with_integers (pos 1 ∷ integer digits ∷ []))
    ∙ ap (λ z. Ok (with_integers (pos 1 ∷ z ∷ []))) (numeral-integer v digits numeral).1

normal_within : (v : ℕ) → v ≤ 1000 → None ≡ limit_of (with_integers (pos 1 ∷ pos v ∷ []))
normal_within v small =
    no_limit (with_integers (pos 1 ∷ pos v ∷ [])) (omega arith) (omega arith) (omega arith) (omega arith) (rw (not_past v small) refl)

normal-reads : (v : ℕ) → v ≤ 1000 → command_of (drawn_text (drawn.Normal v)) ≡ Ok (command_of_drawn (drawn.Normal v))
normal-reads v small =
    let numeral = decimal-numeral v small in
    reads (drawn_text (drawn.Normal v)) words.Normal ((49 ∷ []) ∷ decimal v ∷ []) (with_integers (pos 1 ∷ pos v ∷ []))
    (ap (λ ts. codes "normal" ∷ (49 ∷ []) ∷ ts) (tokens-end (decimal v) (numeral-word v (decimal v) numeral)))
    (walk-normal v (decimal v) numeral) (normal_within v small)

show-reads : command_of (drawn_text drawn.Show) ≡ Ok (command_of_drawn drawn.Show)
unfolding command_of
show-reads = refl

-- ---- splits

-- the number that an operator's name gives
abbrev number_of : OpName → ℕ
number_of (ops.T n) = n
number_of ops.Star = 1

abbrev with_operator : OpName → List ℤ → Given
with_operator op coefficients = record nothing { n = number_of op; op = op; coefficients = coefficients }

-- a token that names an operator
record IsNameOf (op : OpName) (token : List ℕ) : Type 0 where
  word : IsWord token
  is : is_operator token ≡ true
  value : add_operator token nothing ≡ with_operator op []

t-named : (n : ℕ) (digits : List ℕ) → IsNumeral n digits → IsNameOf (ops.T n) (84 ∷ digits)
t-named n digits numeral = record {
  word = record { some = refl; visible = (numeral-word n digits numeral).visible };
  is = numeral.are;
  value = ap (λ m. with_operator (ops.T m) []) numeral.value;
}

operator_text-named : (op : OpName) → number_of op ≤ 1000 → IsNameOf op (operator_text op)
operator_text-named (ops.T n) small = t-named n (decimal n) (decimal-numeral n small)
operator_text-named ops.Star small = record { word = record { some = refl; visible = refl }; is = refl; value = refl }

abbrev polynomial : List ℕ → List ℕ
polynomial digits = 45 ∷ digits ++ 44 ∷ 49 ∷ []

are_coefficients : (c : ℕ) (digits : List ℕ) → IsNumeral c digits → list_all is_integer (parts 44 (polynomial digits)) ≡ true
are_coefficients c digits numeral = rw (polynomial-parts c digits numeral, numeral.are) refl

coefficients_are : (c : ℕ) (digits : List ℕ) → IsNumeral c digits → map integer (parts 44 (polynomial digits)) ≡ neg_ℤ (pos c) ∷ pos 1 ∷ []
coefficients_are c digits numeral = rw (polynomial-parts c digits numeral) (ap (λ m. neg_ℤ (pos m) ∷ pos 1 ∷ []) numeral.value)

walk-split : (op : OpName) (c : ℕ) (name digits : List ℕ) → IsNameOf op name → IsNumeral c digits
    → walk (kinds.Operator ∷ kinds.Coefficients ∷ []) None 2 nothing (name ∷ polynomial digits ∷ [])
    ≡ Ok (with_operator op (neg_ℤ (pos c) ∷ pos 1 ∷ []))
walk-split op c name digits named numeral =
    walk-next (kinds.Operator ∷ kinds.Coefficients ∷ []) None 2 nothing name (polynomial digits ∷ []) named.is
    ∙ ap (λ g. walk (kinds.Coefficients ∷ []) None 3 g (polynomial digits ∷ [])) named.value
    ∙ walk-next (kinds.Coefficients ∷ []) None 3 (with_operator op []) (polynomial digits) [] (are_coefficients c digits numeral)
    ∙ walk-end None 4 (with_operator op (map integer (parts 44 (polynomial digits))))
    ∙ ap (λ cs. Ok (with_operator op cs)) (coefficients_are c digits numeral)

split_within : (op : OpName) (c : ℕ) → 1 ≤ number_of op → number_of op ≤ MAX_DET → c ≤ 1000
    → None ≡ limit_of (with_operator op (neg_ℤ (pos c) ∷ pos 1 ∷ []))
split_within op c positive limited small =
    no_limit (with_operator op (neg_ℤ (pos c) ∷ pos 1 ∷ [])) positive limited (omega arith) (omega arith) (rw (not_past-neg c small) refl)

-- the name of an operator, a space and a polynomial
operator_and_polynomial : (name digits : List ℕ) → name ++ codes " -" ++ digits ++ codes ",1" ≡ name ++ 32 ∷ polynomial digits
operator_and_polynomial name digits = simp append_assoc

split_tokens : (op : OpName) (c : ℕ) → number_of op ≤ 1000 → c ≤ 1000
    → tokens (operator_text op ++ codes " -" ++ decimal c ++ codes ",1") ≡ operator_text op ∷ polynomial (decimal c) ∷ []
split_tokens op c low small =
    ap tokens (operator_and_polynomial (operator_text op) (decimal c))
    ∙ tokens-more (operator_text op) (polynomial (decimal c)) (operator_text-named op low).word
    ∙ ap (λ ts. operator_text op ∷ ts) (tokens-end (polynomial (decimal c)) (polynomial-word c (decimal c) (decimal-numeral c small)))

split-reads : (op : OpName) (c : ℕ) → 1 ≤ number_of op → number_of op ≤ MAX_DET → number_of op ≤ 1000 → c ≤ 1000
    → command_of (drawn_text (drawn.Split op c)) ≡ Ok (command_of_drawn (drawn.Split op c))
split-reads op c positive limited low small =
    reads (drawn_text (drawn.Split op c)) words.Split (operator_text op ∷ polynomial (decimal c) ∷ [])
    (with_operator op (neg_ℤ (pos c) ∷ pos 1 ∷ []))
    (ap (λ ts. codes "split" ∷ ts) (split_tokens op c low small))
    (walk-split op c (operator_text op) (decimal c) (operator_text-named op low) (decimal-numeral c small))
    (split_within op c positive limited small)

-- ---- the law

small_term : (N : ℕ) (t : DrawnTerm) → N ≤ 1000 → IsDrawnTerm N t → IsSmall t
small_term N t low is = record { coefficient = omega (arith, is.most); v = omega (arith, is.below) }

-- an index within its limits
record IsLimited (n : ℕ) : Type 0 where
  positive : 1 ≤ n
  limited : n ≤ MAX_DET
  small : n ≤ 1000

operator_number : (N : ℕ) (op : OpName) → N ≤ 1000 → IsDrawnOperator N op → IsLimited (number_of op)
operator_number N (ops.T n) low is = record { positive = is.least; limited = is.most; small = omega (arith, is.below) }
operator_number N ops.Star low is = record { positive = omega arith; limited = omega arith; small = omega arith }

pub lines-read : DrawnLinesAreRead
lines-read N (drawn.Normal v) low is = normal-reads v (omega arith)
lines-read N (drawn.Reduce t u) low is = reduce-reads t u (small_term N t low is.0) (small_term N u low is.1)
lines-read N (drawn.Image n t None) low is =
    image_of_one-reads n t is.0.least is.0.most (omega (arith, is.0.below)) (small_term N t low is.1)
lines-read N (drawn.Image n t (Some u)) low is =
    image_of_two-reads n t u is.0.least is.0.most (omega (arith, is.0.below)) (small_term N t low is.1) (small_term N u low is.2)
lines-read N (drawn.Star t) low is = star-reads t (small_term N t low is)
lines-read N (drawn.Boundary t u) low is = boundary-reads t u (small_term N t low is.0) (small_term N u low is.1)
lines-read N drawn.Show low is = show-reads
lines-read N (drawn.Split op c) low is =
    let number = operator_number N op low is.0 in
    split-reads op c number.positive number.limited number.small (omega (arith, is.1))
