-- How the tokens after a command's word are read, from left to right.
--   given f              what the fields of a command were filled with, apart from where it lies in memory
--   walk ks r t g ts     what the tokens ts give with g, or the number of the first that fails; t is the number of the first of them
--   Carries view result read   the result, seen through the view, is what is read, but where memory ran out
use Rattle.std.specs.Prelude.{◌≡◌, ℕ, suc, List, [], ◌∷◌, Option, Result, Ok, Err, if◌then◌else◌}
use Rattle.script_text.specs.declared.kind.Kind.{Kind}
use Rattle.script_text.specs.declared.fields.Fields.{Fields}
use Rattle.script_text.specs.declared.command_fault.CommandFault.{CommandFault}
use Rattle.script_text.specs.declared.command_fault.CommandFault.TheVariants as faults
use Rattle.script_text.specs.Tokens.{Given}
use Rattle.script_text.specs.Grammar.{next_kind, rest, fits, add_kind}

abbrev pub given : Fields → Given
given f = record { integers = f.integers.items; number = f.number; n = f.n; op = f.op; coefficients = f.coefficients.items; terms = f.terms.items }

unfoldable pub walk : List Kind → Option Kind → ℕ → Given → List (List ℕ) → Result Given ℕ
walk [] repeated token g [] = Ok g
walk (kind ∷ kinds) repeated token g [] = Err token
walk kinds repeated token g (t ∷ ts) =
    if fits (next_kind kinds repeated) t then walk (rest kinds) repeated (suc token) (add_kind (next_kind kinds repeated) t g) ts else Err token

abbrev pub Carries : {X Y : Type 0} → (X → Y) → Result X CommandFault → Result Y ℕ → Type 0
Carries view (Ok x) read = read ≡ Ok (view x)
Carries view (Err faults.OutOfMemory) read = Unit {0}
Carries view (Err (faults.Grammar token)) read = read ≡ Err token
Carries view (Err (faults.Limit what)) read = ⊥
