-- The lexemes of a reply are read as that reply.
use Rattle.std.proofs.Common.{◌≡◌, ℕ, true, eqb, List, [], ◌∷◌, ◌++◌, length, map, Option, Some, None, refl, sym, ap, subst, ◌∙◌, append_assoc, append-nil}
use Rattle.std.specs.List.{list_all}
use Rattle.std.proofs.lemmas.Bool.{eq-eqb, and_parts}
use Rattle.p1_normal.specs.declared.point.Point.{Point}
use Rattle.op_polynomials.specs.declared.name.OpName.{OpName}
use Rattle.op_polynomials.specs.declared.name.OpName.TheVariants as ops
use Rattle.reply_text.specs.declared.reply.Reply.{Reply}
use Rattle.reply_text.specs.declared.reply.Reply.TheVariants as replies
use Rattle.reply_text.specs.declared.refusal.Refusal.{Refusal}
use Rattle.reply_text.specs.declared.refusal.Refusal.TheVariants as refusals
use Rattle.reply_text.specs.declared.word.Word.{Word}
use Rattle.reply_text.specs.declared.word.Word.TheVariants as words
use Rattle.reply_text.specs.declared.lexeme.Lexeme.{Lexeme}
use Rattle.reply_text.specs.declared.lexeme.Lexeme.TheVariants as lexs
use Rattle.reply_text.specs.Wordings.{operator_lexeme, number_lexemes, symbol_lexemes, pair_lexemes, operator_lexemes, later_rows, row_lexemes, refusal_lexemes, reply_lexemes, is_some_row, are_rows, has_rows, number_item, symbol_item, pair_item, operator_item, items_in, all_of, after, until, counted_symbols, rows_of, reply_of}
use Rattle.reply_text.proofs.WordingLemmas.{IsItem, number-item, symbol-item, pair-item, operator-item, limit-item}

-- no item begins these lexemes
abbrev pub Stops : {A : Type 0} → (Lexeme → Option A) → List Lexeme → Type 0
Stops item [] = Unit {0}
Stops item (l ∷ ls) = item l ≡ None

module _ {A : Type 0} (item : Lexeme → Option A) (lexeme : A → Lexeme) (h : IsItem item lexeme) where
  items_in-stops : (rest : List Lexeme) → Stops item rest → ((items_in item rest).0 ≡ []) × ((items_in item rest).1 ≡ rest)
  items_in-stops [] s = (refl, refl)
  items_in-stops (l ∷ ls) s = rw s (refl, refl)

  items_in-map : (xs : List A) (rest : List Lexeme) → Stops item rest
      → ((items_in item (map lexeme xs ++ rest)).0 ≡ xs) × ((items_in item (map lexeme xs ++ rest)).1 ≡ rest)
  items_in-map [] rest s = items_in-stops rest s
  items_in-map (x ∷ xs) rest s = let more = items_in-map xs rest s in rw (h.gives x) (ap (λ ys. x ∷ ys) more.0, more.1)

  all_of-map : (xs : List A) → all_of item (map lexeme xs) ≡ Some xs
  all_of-map xs =
      let all = items_in-map xs [] tt in
      let none : (items_in item (map lexeme xs)).1 ≡ [] = subst (λ ls. (items_in item ls).1 ≡ []) (append-nil (map lexeme xs)) all.1 in
      let these : (items_in item (map lexeme xs)).0 ≡ xs = subst (λ ls. (items_in item ls).0 ≡ xs) (append-nil (map lexeme xs)) all.0 in
      rw (none, these) refl

  until-map : (w : Word) (xs : List A) (rest : List Lexeme) → item (lexs.Word w) ≡ None → after w (lexs.Word w ∷ rest) ≡ Some rest
      → until item w (map lexeme xs ++ (lexs.Word w ∷ rest)) ≡ Some (xs, rest)
  until-map w xs rest stops follows =
      let all = items_in-map xs (lexs.Word w ∷ rest) stops in
      rw (all.1, all.0, follows) refl

counted_symbols-symbols : (ps : List Point) → counted_symbols (lexs.Number (length ps) ∷ symbol_lexemes ps) ≡ Some ps
counted_symbols-symbols ps =
    let all = all_of-map symbol_item (λ p. lexs.Symbol p) symbol-item ps in
    let same : eqb (length ps) (length ps) ≡ true = eq-eqb (length ps) (length ps) refl in
    rw (all, same) refl

row-gives : (rows : List (List ℕ)) (row xs : List ℕ) (rest : List Lexeme)
    → rows_of rows row (number_lexemes xs ++ rest) ≡ rows_of rows (row ++ xs) rest
row-gives rows row [] rest = ap (λ r. rows_of rows r rest) (sym (append-nil row))
row-gives rows row (x ∷ xs) rest = row-gives rows (row ++ x ∷ []) xs rest ∙ ap (λ r. rows_of rows r rest) (append_assoc row (x ∷ []) xs)

later-gives : (rows : List (List ℕ)) (row : List ℕ) (more : List (List ℕ)) → is_some_row row ≡ true → list_all is_some_row more ≡ true
    → rows_of rows row (later_rows more) ≡ Some (rows ++ (row ∷ more))
later-gives rows row [] some others = rw some refl
later-gives rows row (m ∷ more) some others =
    let p = and_parts (is_some_row m) (list_all is_some_row more) others in
    rw some (row-gives (rows ++ row ∷ []) [] m (later_rows more) ∙ later-gives (rows ++ row ∷ []) m more p.0 p.1
    ∙ ap (λ all. Some all) (append_assoc rows (row ∷ []) (m ∷ more)))

rows-read : (rows : List (List ℕ)) → are_rows rows ≡ true → rows_of [] [] (row_lexemes rows) ≡ Some rows
rows-read [] e = absurd cc
rows-read (row ∷ rows) e =
    let p = and_parts (is_some_row row) (list_all is_some_row rows) e in
    row-gives [] [] row (later_rows rows) ∙ later-gives [] row rows p.0 p.1

numbers-read : (xs : List ℕ) → all_of number_item (number_lexemes xs) ≡ Some xs
numbers-read xs = all_of-map number_item (λ n. lexs.Number n) number-item xs

refusal-read : (r : Refusal) → reply_of (lexs.Word words.Err ∷ refusal_lexemes r) ≡ Some (replies.Refused r)
refusal-read (refusals.Grammar token) = refl
refusal-read (refusals.Limit what) = rw (limit-item.gives what) refl
refusal-read (refusals.NotSymbol term) = refl
refusal-read (refusals.NotCoprime gcd) = refl
refusal-read (refusals.Length need got) = refl
refusal-read (refusals.NoPart count) = refl
refusal-read refusals.VersionsFull = refl
refusal-read (refusals.Relation number coords) = rw (numbers-read coords) refl
refusal-read (refusals.Commutator other row column left right) = at other
  where
    at : (o : OpName)
        → reply_of (lexs.Word words.Err ∷ refusal_lexemes (refusals.Commutator o row column left right))
        ≡ Some (replies.Refused (refusals.Commutator o row column left right))
    at (ops.T n) = refl
    at ops.Star = refl

-- the lexemes of a reply are read as that reply
pub reply_of-lexemes : (r : Reply) → has_rows r ≡ true → reply_of (reply_lexemes r) ≡ Some r
reply_of-lexemes (replies.Point p) e = refl
reply_of-lexemes (replies.Basis points) e = rw (counted_symbols-symbols points) refl
reply_of-lexemes (replies.Coords values) e = rw (numbers-read values) refl
reply_of-lexemes (replies.Certified coords trace) e =
    rw (
      until-map number_item (λ n. lexs.Number n) number-item words.By coords (pair_lexemes trace) refl refl,
      all_of-map pair_item
          (λ t. lexs.Pair t) pair-item trace,
    ) refl
reply_of-lexemes (replies.Boundary values) e = rw (numbers-read values) refl
reply_of-lexemes (replies.Cusps points) e = rw (counted_symbols-symbols points) refl
reply_of-lexemes (replies.Operator dim trace) e = refl
reply_of-lexemes (replies.Version number dims) e = rw (numbers-read dims) refl
reply_of-lexemes (replies.Splitting number dims os) e =
    rw (
      until-map number_item (λ n. lexs.Number n) number-item words.Ops dims
          (operator_lexemes os) refl refl,
      all_of-map operator_item operator_lexeme operator-item os,
    ) refl
reply_of-lexemes (replies.Rows rows) e = rw (rows-read rows e) refl
reply_of-lexemes (replies.Chains chains matrices) e = refl
reply_of-lexemes (replies.Refused refusal) e = refusal-read refusal
reply_of-lexemes replies.Memory e = refl
