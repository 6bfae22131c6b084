-- The table of commands.
--   Row          a command's word, the kinds of the tokens after it, and the kind that may follow them any number of times
--   row w        the row of a command
--   every_word   the commands of the table
use Rattle.std.specs.Prelude.{ℕ, List, [], ◌∷◌, Option, Some, None, codes}
use Rattle.script_text.specs.declared.kind.Kind.{Kind}
use Rattle.script_text.specs.declared.kind.Kind.TheVariants as kinds
use Rattle.script_text.specs.declared.word.Word.{Word}
use Rattle.script_text.specs.declared.word.Word.TheVariants as words

pub record Row : Type 0 where
  pub word : List ℕ
  pub kinds : List Kind
  pub repeated : Option Kind

abbrev pub row : Word → Row
row words.Normal = record { word = codes "normal"; kinds = kinds.Integer ∷ kinds.Integer ∷ []; repeated = None }
row words.Basis = record { word = codes "basis"; kinds = []; repeated = None }
row words.Reduce = record { word = codes "reduce"; kinds = []; repeated = Some kinds.Term }
row words.Certify = record { word = codes "certify"; kinds = []; repeated = Some kinds.Term }
row words.Image = record { word = codes "image"; kinds = kinds.Index ∷ []; repeated = Some kinds.Term }
row words.Star = record { word = codes "star"; kinds = []; repeated = Some kinds.Term }
row words.Boundary = record { word = codes "boundary"; kinds = []; repeated = Some kinds.Term }
row words.Cusps = record { word = codes "cusps"; kinds = []; repeated = None }
row words.Operator = record { word = codes "operator"; kinds = kinds.Operator ∷ []; repeated = None }
row words.Apply = record { word = codes "apply"; kinds = kinds.Operator ∷ []; repeated = Some kinds.Integer }
row words.Poly = record { word = codes "poly"; kinds = kinds.Operator ∷ kinds.Coefficients ∷ []; repeated = Some kinds.Integer }
row words.Split = record { word = codes "split"; kinds = kinds.Operator ∷ kinds.Coefficients ∷ []; repeated = None }
row words.Show = record { word = codes "show"; kinds = []; repeated = None }
row words.Part = record { word = codes "part"; kinds = kinds.Natural ∷ []; repeated = None }
row words.Chains = record { word = codes "chains"; kinds = kinds.Index ∷ []; repeated = None }

abbrev pub every_word : List Word
every_word = words.Normal ∷ words.Basis ∷ words.Reduce ∷ words.Certify ∷ words.Image ∷ words.Star ∷ words.Boundary ∷ words.Cusps
    ∷ words.Operator ∷ words.Apply ∷ words.Poly ∷ words.Split ∷ words.Show ∷ words.Part ∷ words.Chains ∷ []
