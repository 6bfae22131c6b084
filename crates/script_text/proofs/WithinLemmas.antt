-- The limits of a command that breaks none.
use Rattle.std.proofs.Common.{◌≡◌, ◌+◌, ◌<◌, ◌≤◌, ◌^◌, ◌==◌, ℕ, Bool, true, false, if◌then◌else◌, List, [], ◌∷◌, length, Option, None, Some, Ok, refl, sym, ap, arith, subst}
use Rattle.std.proofs.lemmas.List.{length-append}
use Rattle.p1_normal.specs.declared.matrix.TheConstants.{MAX_DET}
use Rattle.op_polynomials.specs.declared.name.OpName.{OpName}
use Rattle.op_polynomials.specs.declared.name.OpName.TheVariants as ops
use Rattle.op_polynomials.specs.declared.poly.TheConstants.{MAX_COEFFICIENTS}
use Rattle.script_text.specs.declared.kind.Kind.{Kind}
use Rattle.script_text.specs.declared.kind.Kind.TheVariants as kinds
use Rattle.script_text.specs.declared.limits.TheConstants.{MAX_TERMS}
use Rattle.script_text.specs.declared.word.Word.{Word}
use Rattle.script_text.specs.declared.word.Word.TheVariants as words
use Rattle.script_text.specs.Rows.{row}
use Rattle.script_text.specs.Tokens.{Given, nothing, natural, integer, add_operator}
use Rattle.script_text.specs.Grammar.{add_kind, gives}
use Rattle.script_text.specs.Limits.{limit_of}
use Rattle.script_text.specs.Walk.{walk}
use Rattle.script_text.specs.Commands.{command, IsIndexed, IsWithin}
use Rattle.script_text.proofs.WalkLemmas.{read-all}

-- an operator is no integer
operator_integers : (token : List ℕ) (g : Given) → (add_operator token g).integers ≡ g.integers
operator_integers [] g = refl
operator_integers (b ∷ token) g = by (b == 84)
  where
    by : (t : Bool) → (if t then record g { n = natural token; op = ops.T (natural token) } else record g { op = ops.Star }).integers ≡ g.integers
    by true = refl
    by false = refl

-- a token gives one integer at most
few_given : (kind : Option Kind) (token : List ℕ) (g : Given) → length (add_kind kind token g).integers ≤ length g.integers + 1
few_given None token g = omega arith
few_given (Some kinds.Integer) token g = omega (arith, length-append g.integers (integer token ∷ []))
few_given (Some kinds.Natural) token g = omega arith
few_given (Some kinds.Index) token g = omega arith
few_given (Some kinds.Operator) token g = omega (arith, ap length (operator_integers token g))
few_given (Some kinds.Coefficients) token g = omega arith
few_given (Some kinds.Term) token g = omega arith

pub few_added : (kind : Option Kind) (token : List ℕ) (g h : Given) → h ≡ add_kind kind token g → length h.integers ≤ length g.integers + 1
few_added kind token g h is = subst (λ (f : Given). length f.integers ≤ length g.integers + 1) (sym is) (few_given kind token g)

-- the index of an operator is the one that was given
abbrev IsOf : ℕ → OpName → Type 0
IsOf n (ops.T m) = m ≡ n
IsOf n ops.Star = Unit {0}

-- no kind is that of an index by itself
abbrev is_other : Option Kind → Bool
is_other (Some kinds.Index) = false
is_other kind = true

abbrev AreOthers : List Kind → Type 0
AreOthers [] = Unit {0}
AreOthers (kind ∷ more) = (is_other (Some kind) ≡ true) × AreOthers more

abbrev made : List ℕ → Given → Bool → Given
made token g t = if t then record g { n = natural token; op = ops.T (natural token) } else record g { op = ops.Star }

operator_is : (token : List ℕ) (g : Given) → IsOf g.n g.op → IsOf (add_operator token g).n (add_operator token g).op
operator_is [] g is = is
operator_is (b ∷ token) g is = by (b == 84)
  where
    by : (t : Bool) → IsOf (made token g t).n (made token g t).op
    by true = refl
    by false = tt

-- and stays so
kind_is : (kind : Option Kind) (token : List ℕ) (g : Given) → is_other kind ≡ true → IsOf g.n g.op
    → IsOf (add_kind kind token g).n (add_kind kind token g).op
kind_is None token g other is = is
kind_is (Some kinds.Integer) token g other is = is
kind_is (Some kinds.Natural) token g other is = is
kind_is (Some kinds.Index) token g other is = absurd cc
kind_is (Some kinds.Operator) token g other is = operator_is token g is
kind_is (Some kinds.Coefficients) token g other is = is
kind_is (Some kinds.Term) token g other is = is

gives_is : (kinds : List Kind) (repeated : Option Kind) (tokens : List (List ℕ)) (g : Given) → AreOthers kinds → is_other repeated ≡ true
    → IsOf g.n g.op → IsOf (gives kinds repeated tokens g).n (gives kinds repeated tokens g).op
gives_is kinds repeated [] g others other is = is
gives_is [] repeated (token ∷ tokens) g others other is =
    gives_is [] repeated tokens (add_kind repeated token g) others other (kind_is repeated token g other is)
gives_is (kind ∷ more) repeated (token ∷ tokens) g others other is =
    gives_is more repeated tokens (add_kind (Some kind) token g) others.1 other (kind_is (Some kind) token g others.0 is)

-- the tokens after a word were read as this
abbrev pub IsReadAs : Word → List (List ℕ) → Given → Type 0
IsReadAs word tokens g = walk (row word).kinds (row word).repeated 2 nothing tokens ≡ Ok g

pub read_is : (word : Word) (tokens : List (List ℕ)) (g : Given) → AreOthers (row word).kinds → is_other (row word).repeated ≡ true
    → IsReadAs word tokens g → IsOf g.n g.op
read_is word tokens g others other read =
    subst (λ (h : Given). IsOf h.n h.op) (sym (read-all (row word).kinds (row word).repeated 2 nothing g tokens read).value)
    (gives_is (row word).kinds (row word).repeated tokens nothing others other tt)

-- the index, and the numbers of terms and coefficients are within their limits
pub record AreFew (g : Given) : Type 0 where
  pub positive : 0 < g.n
  pub limited : g.n ≤ MAX_DET
  pub terms : length g.terms ≤ MAX_TERMS
  pub coefficients : length g.coefficients ≤ MAX_COEFFICIENTS

-- so they are where no limit is broken
pub AreFew-from_none : (g : Given) → limit_of g ≡ None → AreFew g
AreFew-from_none g none = record { positive = grind arith; limited = grind arith; terms = grind arith; coefficients = grind arith }

IsIndexed-of : (n : ℕ) (op : OpName) → IsOf n op → 0 < n → n ≤ MAX_DET → IsIndexed op
IsIndexed-of n (ops.T m) is positive limited = (subst (λ k. 0 < k) (sym is) positive, subst (λ k. k ≤ MAX_DET) (sym is) limited)
IsIndexed-of n ops.Star is positive limited = tt

pub indexed : (g : Given) → limit_of g ≡ None → IsOf g.n g.op → IsIndexed g.op
indexed g none is = let few = AreFew-from_none g none in IsIndexed-of g.n g.op is few.positive few.limited

-- and then the command is within its limits
pub IsWithin-command : (word : Word) (tokens : List (List ℕ)) (g : Given) → IsReadAs word tokens g → length g.integers < 2 ^ 32
    → limit_of g ≡ None → IsWithin (command word g)
IsWithin-command words.Normal tokens g read short none = tt
IsWithin-command words.Basis tokens g read short none = tt
IsWithin-command words.Reduce tokens g read short none = (AreFew-from_none g none).terms
IsWithin-command words.Certify tokens g read short none = (AreFew-from_none g none).terms
IsWithin-command words.Image tokens g read short none = let few = AreFew-from_none g none in (few.positive, few.limited, few.terms)
IsWithin-command words.Star tokens g read short none = (AreFew-from_none g none).terms
IsWithin-command words.Boundary tokens g read short none = (AreFew-from_none g none).terms
IsWithin-command words.Cusps tokens g read short none = tt
IsWithin-command words.Operator tokens g read short none = indexed g none (read_is words.Operator tokens g (refl, tt) refl read)
IsWithin-command words.Apply tokens g read short none = (indexed g none (read_is words.Apply tokens g (refl, tt) refl read), short)
IsWithin-command words.Poly tokens g read short none =
    (indexed g none (read_is words.Poly tokens g (refl, (refl, tt)) refl read), (AreFew-from_none g none).coefficients, short)
IsWithin-command words.Split tokens g read short none =
    (indexed g none (read_is words.Split tokens g (refl, (refl, tt)) refl read), (AreFew-from_none g none).coefficients)
IsWithin-command words.Show tokens g read short none = tt
IsWithin-command words.Part tokens g read short none = tt
IsWithin-command words.Chains tokens g read short none = let few = AreFew-from_none g none in (few.positive, few.limited)
