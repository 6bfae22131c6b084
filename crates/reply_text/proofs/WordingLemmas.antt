-- Replies that are spelled by lexemes and read back.
use Rattle.std.proofs.Common.{◌≡◌, ℕ, Bool, true, false, ◌&&◌, cond, eqb, List, [], ◌∷◌, ◌++◌, length, map, Option, Some, None, refl, sym, ap, subst, ◌∙◌, append_assoc, append-nil}
use Rattle.std.specs.List.{list_all}
use Rattle.std.specs.Str.{bytes_eq}
use Rattle.std.proofs.lemmas.Bool.{eqb-true, and_parts, and_from}
use Rattle.p1_normal.specs.declared.point.Point.{Point}
use Rattle.op_polynomials.specs.declared.name.OpName.{OpName}
use Rattle.op_polynomials.specs.declared.name.OpName.TheVariants as ops
use Rattle.script_text.specs.declared.command_fault.LimitWord.{LimitWord}
use Rattle.script_text.specs.declared.command_fault.LimitWord.TheVariants as limits
use Rattle.reply_text.specs.declared.reply.Reply.{Reply}
use Rattle.reply_text.specs.declared.reply.Reply.TheVariants as replies
use Rattle.reply_text.specs.declared.refusal.Refusal.{Refusal}
use Rattle.reply_text.specs.declared.refusal.Refusal.TheVariants as refusals
use Rattle.reply_text.specs.declared.word.Word.{Word}
use Rattle.reply_text.specs.declared.word.Word.TheVariants as words
use Rattle.reply_text.specs.declared.lexeme.Lexeme.{Lexeme}
use Rattle.reply_text.specs.declared.lexeme.Lexeme.TheVariants as lexs
use Rattle.reply_text.specs.Lexemes.{word_text, where_true, then_option, word_of}
use Rattle.reply_text.specs.Wordings.{operator_lexeme, number_lexemes, symbol_lexemes, later_rows, row_lexemes, limit_word, refusal_lexemes, reply_lexemes, is_some_row, are_rows, has_rows, word_item, number_item, symbol_item, pair_item, star_of, operator_item, limit_of_word, limit_item, onto_item, items_in, where_none, all_of, first, only, after, until, counted_symbols, numbers_by, number_by, is_break, rows_of, ok_of, commutator_of, refusal_of, err_of, reply_by_verdict, reply_of}
use Rattle.reply_text.proofs.NumberTexts.{taken, then_taken, same_bytes}
use Rattle.reply_text.proofs.LexemeLemmas.{word_of-text}

-- an item that a lexeme gives, and the lexeme of an item
pub record IsItem {A : Type 0} (item : Lexeme → Option A) (lexeme : A → Lexeme) : Type 0 where
  pub gives : (x : A) → item (lexeme x) ≡ Some x
  pub is : (l : Lexeme) (x : A) → item l ≡ Some x → lexeme x ≡ l

some_is : {A : Type 0} (x y : A) → Some x ≡ Some y → x ≡ y
some_is x y e = cc

a_word : Word → Lexeme
a_word w = lexs.Word w

pub word-item : IsItem word_item (λ w. lexs.Word w)
word-item = record { gives = λ w. refl; is = at }
  where
    at : (l : Lexeme) (x : Word) → word_item l ≡ Some x → lexs.Word x ≡ l
    at (lexs.Word w) x e = ap (λ v. lexs.Word v) (sym (some_is w x e))
    at l x e = absurd cc

pub number-item : IsItem number_item (λ n. lexs.Number n)
number-item = record { gives = λ n. refl; is = at }
  where
    at : (l : Lexeme) (x : ℕ) → number_item l ≡ Some x → lexs.Number x ≡ l
    at (lexs.Number n) x e = ap (λ v. lexs.Number v) (sym (some_is n x e))
    at l x e = absurd cc

pub symbol-item : IsItem symbol_item (λ p. lexs.Symbol p)
symbol-item = record { gives = λ n. refl; is = at }
  where
    at : (l : Lexeme) (x : Point) → symbol_item l ≡ Some x → lexs.Symbol x ≡ l
    at (lexs.Symbol n) x e = ap (λ v. lexs.Symbol v) (sym (some_is n x e))
    at l x e = absurd cc

pub pair-item : IsItem pair_item (λ t. lexs.Pair t)
pair-item = record { gives = λ n. refl; is = at }
  where
    at : (l : Lexeme) (x : ℕ × ℕ) → pair_item l ≡ Some x → lexs.Pair x ≡ l
    at (lexs.Pair n) x e = ap (λ v. lexs.Pair v) (sym (some_is n x e))
    at l x e = absurd cc

pub operator-item : IsItem operator_item operator_lexeme
operator-item = record { gives = back; is = at }
  where
    back : (o : OpName) → operator_item (operator_lexeme o) ≡ Some o
    back (ops.T n) = refl
    back ops.Star = refl

    star : (w : Word) (x : OpName) → star_of w ≡ Some x → operator_lexeme x ≡ lexs.Word w
    star words.Star x e = ap operator_lexeme (sym (some_is ops.Star x e))
    star w x e = absurd cc

    at : (l : Lexeme) (x : OpName) → operator_item l ≡ Some x → operator_lexeme x ≡ l
    at (lexs.Hecke n) x e = ap operator_lexeme (sym (some_is (ops.T n) x e))
    at (lexs.Word w) x e = star w x e
    at l x e = absurd cc

pub limit-item : IsItem limit_item (λ what. lexs.Word (limit_word what))
limit-item = record { gives = back; is = at }
  where
    back : (o : LimitWord) → limit_item (lexs.Word (limit_word o)) ≡ Some o
    back limits.N = refl
    back limits.Degree = refl
    back limits.Terms = refl
    back limits.Number = refl

    word : (w : Word) (x : LimitWord) → limit_of_word w ≡ Some x → lexs.Word (limit_word x) ≡ lexs.Word w
    word words.N x e = ap (λ v. lexs.Word (limit_word v)) (sym (some_is limits.N x e))
    word words.Degree x e = ap (λ v. lexs.Word (limit_word v)) (sym (some_is limits.Degree x e))
    word words.Terms x e = ap (λ v. lexs.Word (limit_word v)) (sym (some_is limits.Terms x e))
    word words.Number x e = ap (λ v. lexs.Word (limit_word v)) (sym (some_is limits.Number x e))
    word w x e = absurd cc

    at : (l : Lexeme) (x : LimitWord) → limit_item l ≡ Some x → lexs.Word (limit_word x) ≡ l
    at (lexs.Word w) x e = word w x e
    at l x e = absurd cc

-- ---- what is read has these lexemes

module _ {A : Type 0} (item : Lexeme → Option A) (lexeme : A → Lexeme) (h : IsItem item lexeme) where
  pub items_in-is : (ls : List Lexeme) → map lexeme (items_in item ls).0 ++ (items_in item ls).1 ≡ ls
  items_in-is [] = refl
  items_in-is (l ∷ ls) = at (item l) refl (items_in-is ls)
    where
      at : (o : Option A) → item l ≡ o → map lexeme (items_in item ls).0 ++ (items_in item ls).1 ≡ ls
          → map lexeme (onto_item o (l ∷ ls) (items_in item ls)).0 ++ (onto_item o (l ∷ ls) (items_in item ls)).1 ≡ l ∷ ls
      at None e rest = refl
      at (Some x) e rest = rw (h.is l x e, rest) refl

  pub all_of-is : (ls : List Lexeme) (xs : List A) → all_of item ls ≡ Some xs → map lexeme xs ≡ ls
  all_of-is ls xs e = at (items_in item ls).1 refl e
    where
      at : (rest : List Lexeme) → (items_in item ls).1 ≡ rest → where_none rest (items_in item ls).0 ≡ Some xs → map lexeme xs ≡ ls
      at [] none e = rw (← (some_is (items_in item ls).0 xs e)) (sym (append-nil _) ∙ rw (← none) (items_in-is ls))
      at (l ∷ rest) some e = absurd cc

  pub first-is : (ls : List Lexeme) (t : A × List Lexeme) → first item ls ≡ Some t → lexeme t.0 ∷ t.1 ≡ ls
  first-is [] t e = absurd cc
  first-is (l ∷ ls) t e =
      let next = then_taken (item l) (λ x. Some (x, ls)) t e in
      let found : A × List Lexeme = (next.0, ls) in
      let same : found ≡ t = some_is found t next.2 in
      subst (λ (u : A × List Lexeme). lexeme u.0 ∷ u.1 ≡ l ∷ ls) same (rw (h.is l next.0 next.1) refl)

  pub only-is : (ls : List Lexeme) (x : A) → only item ls ≡ Some x → lexeme x ∷ [] ≡ ls
  only-is ls x e =
      let next = then_taken (first item ls) (λ t. where_none t.1 t.0) x e in
      at next.0 (first-is ls next.0 next.1) next.2
    where
      at : (t : A × List Lexeme) → lexeme t.0 ∷ t.1 ≡ ls → where_none t.1 t.0 ≡ Some x → lexeme x ∷ [] ≡ ls
      at (y, []) is e = rw (← (some_is y x e)) is
      at (y, l ∷ rest) is e = absurd cc

word_is : (v w : Word) → bytes_eq (word_text v) (word_text w) ≡ true → v ≡ w
word_is v w e = some_is v w (sym (word_of-text v) ∙ ap word_of (same_bytes _ _ e) ∙ word_of-text w)

pub after-is : (w : Word) (ls rest : List Lexeme) → after w ls ≡ Some rest → lexs.Word w ∷ rest ≡ ls
after-is w ls rest e =
    let next = then_taken (first word_item ls) (λ t. where_true (bytes_eq (word_text t.0) (word_text w)) t.1) rest e in
    let took = taken (bytes_eq (word_text next.0.0) (word_text w)) next.0.1 rest next.2 in
    subst (λ v. lexs.Word v ∷ rest ≡ ls) (word_is next.0.0 w took.0)
    (subst (λ more. lexs.Word next.0.0 ∷ more ≡ ls) took.1 (first-is word_item (λ v. lexs.Word v) word-item ls next.0 next.1))

pub until-is : {A : Type 0} (item : Lexeme → Option A) (lexeme : A → Lexeme) → IsItem item lexeme
    → (w : Word) (ls : List Lexeme) (t : List A × List Lexeme) → until item w ls ≡ Some t → map lexeme t.0 ++ (lexs.Word w ∷ t.1) ≡ ls
until-is {A = A} item lexeme h w ls t e =
    let next = then_taken (after w (items_in item ls).1) (λ rest. Some ((items_in item ls).0, rest)) t e in
    let found : List A × List Lexeme = ((items_in item ls).0, next.0) in
    let same : found ≡ t = some_is found t next.2 in
    subst (λ (u : List A × List Lexeme). map lexeme u.0 ++ (lexs.Word w ∷ u.1) ≡ ls) same
    (ap (λ more. map lexeme (items_in item ls).0 ++ more) (after-is w (items_in item ls).1 next.0 next.1) ∙ items_in-is item lexeme h ls)

pub numbers_by-is : (w : Word) (ls : List Lexeme) (t : ℕ × ℕ) → numbers_by w ls ≡ Some t → lexs.Number t.0 ∷ lexs.Word w ∷ lexs.Number t.1 ∷ [] ≡ ls
numbers_by-is w ls t e =
    let a = then_taken (first number_item ls)
    (λ t. then_option (after w t.1) (λ rest. then_option (only number_item rest) (λ n. Some (t.0, n)))) t e in
    let b = then_taken (after w a.0.1) (λ rest. then_option (only number_item rest) (λ n. Some (a.0.0, n))) t a.2 in
    let c = then_taken (only number_item b.0) (λ n. Some (a.0.0, n)) t b.2 in
    let found : ℕ × ℕ = (a.0.0, c.0) in
    let same : found ≡ t = some_is found t c.2 in
    let x = first-is number_item (λ n. lexs.Number n) number-item ls a.0 a.1 in
    let y = after-is w a.0.1 b.0 b.1 in
    let z = only-is number_item (λ n. lexs.Number n) number-item b.0 c.0 c.1 in
    subst (λ (u : ℕ × ℕ). lexs.Number u.0 ∷ lexs.Word w ∷ lexs.Number u.1 ∷ [] ≡ ls) same
    (ap (λ more. lexs.Number a.0.0 ∷ lexs.Word w ∷ more) z ∙ ap (λ more. lexs.Number a.0.0 ∷ more) y ∙ x)

pub number_by-is : (w : Word) (ls : List Lexeme) (t : ℕ × List Lexeme) → number_by w ls ≡ Some t → lexs.Number t.0 ∷ lexs.Word w ∷ t.1 ≡ ls
number_by-is w ls t e =
    let a = then_taken (first number_item ls) (λ t. then_option (after w t.1) (λ rest. Some (t.0, rest))) t e in
    let b = then_taken (after w a.0.1) (λ rest. Some (a.0.0, rest)) t a.2 in
    let found : ℕ × List Lexeme = (a.0.0, b.0) in
    let same : found ≡ t = some_is found t b.2 in
    let x = first-is number_item (λ n. lexs.Number n) number-item ls a.0 a.1 in
    let y = after-is w a.0.1 b.0 b.1 in
    subst (λ (u : ℕ × List Lexeme). lexs.Number u.0 ∷ lexs.Word w ∷ u.1 ≡ ls) same (ap (λ more. lexs.Number a.0.0 ∷ more) y ∙ x)

pub counted_symbols-is : (ls : List Lexeme) (ps : List Point) → counted_symbols ls ≡ Some ps → lexs.Number (length ps) ∷ symbol_lexemes ps ≡ ls
counted_symbols-is ls ps e =
    let a = then_taken (first number_item ls) (λ t. then_option (all_of symbol_item t.1) (λ ps. where_true (eqb t.0 (length ps)) ps)) ps e in
    let b = then_taken (all_of symbol_item a.0.1) (λ ps. where_true (eqb a.0.0 (length ps)) ps) ps a.2 in
    let took = taken (eqb a.0.0 (length b.0)) b.0 ps b.2 in
    let x = first-is number_item (λ n. lexs.Number n) number-item ls a.0 a.1 in
    let y = all_of-is symbol_item (λ p. lexs.Symbol p) symbol-item a.0.1 b.0 b.1 in
    subst (λ qs. lexs.Number (length qs) ∷ symbol_lexemes qs ≡ ls) took.1
    (ap (λ n. lexs.Number n ∷ symbol_lexemes b.0) (sym (eqb-true a.0.0 (length b.0) took.0)) ∙ ap (λ more. lexs.Number a.0.0 ∷ more) y ∙ x)

-- ---- rows

pub record AreRows (rows : List (List ℕ)) (row : List ℕ) (ls : List Lexeme) (all : List (List ℕ)) : Type 0 where
  pub more : List ℕ
  pub later : List (List ℕ)
  pub is : all ≡ rows ++ ((row ++ more) ∷ later)
  pub some : is_some_row (row ++ more) ≡ true
  pub others : list_all is_some_row later ≡ true
  pub lexemes : number_lexemes more ++ later_rows later ≡ ls

if_taken : {A : Type 0} (b : Bool) (o : Option A) (x : A) → cond b o None ≡ Some x → (b ≡ true) × (o ≡ Some x)
if_taken true o x e = (refl, e)
if_taken false o x e = absurd cc

break_is : (w : Word) → is_break w ≡ true → lexs.Word words.Break ≡ lexs.Word w
break_is words.Break e = refl
break_is w e = absurd cc

pub rows_of-is : (rows : List (List ℕ)) (row : List ℕ) (ls : List Lexeme) (all : List (List ℕ)) → rows_of rows row ls ≡ Some all
    → AreRows rows row ls all
rows_of-is rows row [] all e =
    let took = taken (is_some_row row) (rows ++ row ∷ []) all e in
    record {
      more = [];
      later = [];
      is = sym took.1 ∙ ap (λ r. rows ++ r ∷ []) (sym (append-nil row));
      some = subst (λ r. is_some_row r ≡ true) (sym (append-nil row)) took.0;
      others = refl;
      lexemes = refl;
    }
rows_of-is rows row (lexs.Number n ∷ ls) all e =
    let rest = rows_of-is rows (row ++ n ∷ []) ls all e in
    let line = append_assoc row (n ∷ []) rest.more in
    record {
      more = n ∷ rest.more;
      later = rest.later;
      is = rest.is ∙ ap (λ r. rows ++ r ∷ rest.later) line;
      some = subst (λ r. is_some_row r ≡ true) line rest.some;
      others = rest.others;
      lexemes = ap (λ more. lexs.Number n ∷ more) rest.lexemes;
    }
rows_of-is rows row (lexs.Word w ∷ ls) all e =
    let took = if_taken (is_break w && is_some_row row) (rows_of (rows ++ row ∷ []) [] ls) all e in
    let p = and_parts (is_break w) (is_some_row row) took.0 in
    let rest = rows_of-is (rows ++ row ∷ []) [] ls all took.1 in
    record {
      more = [];
      later = rest.more ∷ rest.later;
      is = rest.is ∙ append_assoc rows (row ∷ []) (rest.more ∷ rest.later) ∙ ap (λ r. rows ++ r ∷ rest.more ∷ rest.later) (sym (append-nil row));
      some = subst (λ r. is_some_row r ≡ true) (sym (append-nil row)) p.1;
      others = and_from (is_some_row rest.more) (list_all is_some_row rest.later) rest.some rest.others;
      lexemes = ap (λ more. lexs.Word words.Break ∷ more) rest.lexemes ∙ ap (λ l. l ∷ ls) (break_is w p.0);
    }
rows_of-is rows row (l ∷ ls) all e = absurd cc

-- ---- replies

abbrev pub IsSaid : Word → Word → List Lexeme → Reply → Type 0
IsSaid v w ls r = (reply_lexemes r ≡ lexs.Word v ∷ lexs.Word w ∷ ls) × (has_rows r ≡ true)

made : {A : Type 0} (o : Option A) (make : A → Reply) (r : Reply) (v w : Word) (ls : List Lexeme) → then_option o (λ x. Some (make x)) ≡ Some r
    → ((x : A) → o ≡ Some x → IsSaid v w ls (make x)) → IsSaid v w ls r
made o make r v w ls e h =
    let next = then_taken o (λ x. Some (make x)) r e in
    subst (IsSaid v w ls) (some_is (make next.0) r next.2) (h next.0 next.1)

abbrev begun : Word → Word → List Lexeme → List Lexeme
begun v w ls = lexs.Word v ∷ lexs.Word w ∷ ls

rows-said : (ls : List Lexeme) (all : List (List ℕ)) → AreRows [] [] ls all → (row_lexemes all ≡ ls) × (are_rows all ≡ true)
rows-said ls all rows = (
  ap row_lexemes rows.is ∙ rows.lexemes,
  ap are_rows rows.is
      ∙ and_from (is_some_row rows.more) (list_all is_some_row rows.later) rows.some rows.others,
)

pub ok_of-is : (w : Word) (ls : List Lexeme) (r : Reply) → ok_of w ls ≡ Some r → IsSaid words.Ok w ls r
ok_of-is words.Point ls r e = made (only symbol_item ls) (λ p. replies.Point p) r words.Ok words.Point ls e
    (λ p h. (ap (begun words.Ok words.Point) (only-is symbol_item (λ p. lexs.Symbol p) symbol-item ls p h), refl))
ok_of-is words.Basis ls r e =
    made (counted_symbols ls) (λ ps. replies.Basis ps) r words.Ok words.Basis ls e
    (λ ps h. (ap (begun words.Ok words.Basis) (counted_symbols-is ls ps h), refl))
ok_of-is words.Coords ls r e = made (all_of number_item ls) (λ xs. replies.Coords xs) r words.Ok words.Coords ls e
    (λ xs h. (ap (begun words.Ok words.Coords) (all_of-is number_item (λ n. lexs.Number n) number-item ls xs h), refl))
ok_of-is words.Certified ls r e =
    let a = then_taken (until number_item words.By ls) (λ t. then_option (all_of pair_item t.1) (λ ts. Some (replies.Certified t.0 ts))) r e in
    let x = until-is number_item (λ n. lexs.Number n) number-item words.By ls a.0 a.1 in
    made (all_of pair_item a.0.1) (λ ts. replies.Certified a.0.0 ts) r words.Ok words.Certified ls a.2
    (λ ts h. (
      ap (begun words.Ok words.Certified)
          (ap (λ more. number_lexemes a.0.0 ++ lexs.Word words.By ∷ more) (all_of-is pair_item (λ t. lexs.Pair t) pair-item a.0.1 ts h) ∙ x),
      refl,
    ))
ok_of-is words.Boundary ls r e = made (all_of number_item ls) (λ xs. replies.Boundary xs) r words.Ok words.Boundary ls e
    (λ xs h. (ap (begun words.Ok words.Boundary) (all_of-is number_item (λ n. lexs.Number n) number-item ls xs h), refl))
ok_of-is words.Cusps ls r e =
    made (counted_symbols ls) (λ ps. replies.Cusps ps) r words.Ok words.Cusps ls e
    (λ ps h. (ap (begun words.Ok words.Cusps) (counted_symbols-is ls ps h), refl))
ok_of-is words.Operator ls r e =
    made (numbers_by words.Trace ls) (λ t. replies.Operator t.0 t.1) r words.Ok words.Operator ls e
    (λ t h. (ap (begun words.Ok words.Operator) (numbers_by-is words.Trace ls t h), refl))
ok_of-is words.Version ls r e =
    let a = then_taken (number_by words.Dims ls) (λ t. then_option (all_of number_item t.1) (λ xs. Some (replies.Version t.0 xs))) r e in
    let x = number_by-is words.Dims ls a.0 a.1 in
    made (all_of number_item a.0.1) (λ xs. replies.Version a.0.0 xs) r words.Ok words.Version ls a.2
    (λ xs h. (
      ap (begun words.Ok words.Version)
          (ap (λ more. lexs.Number a.0.0 ∷ lexs.Word words.Dims ∷ more) (all_of-is number_item (λ n. lexs.Number n) number-item a.0.1 xs h) ∙ x),
      refl,
    ))
ok_of-is words.Splitting ls r e =
    let a = then_taken (number_by words.Dims ls)
    (λ t. then_option (until number_item words.Ops t.1)
    (λ u. then_option (all_of operator_item u.1) (λ os. Some (replies.Splitting t.0 u.0 os)))) r e in
    let b = then_taken (until number_item words.Ops a.0.1)
    (λ u. then_option (all_of operator_item u.1) (λ os. Some (replies.Splitting a.0.0 u.0 os))) r a.2 in
    let x = number_by-is words.Dims ls a.0 a.1 in
    let y = until-is number_item (λ n. lexs.Number n) number-item words.Ops a.0.1 b.0 b.1 in
    made (all_of operator_item b.0.1) (λ os. replies.Splitting a.0.0 b.0.0 os) r words.Ok words.Splitting ls b.2
    (λ os h. (
      ap (begun words.Ok words.Splitting)
          (ap (λ more. lexs.Number a.0.0 ∷ lexs.Word words.Dims ∷ more)
          (ap (λ more. number_lexemes b.0.0 ++ lexs.Word words.Ops ∷ more) (all_of-is operator_item operator_lexeme operator-item b.0.1 os h)
          ∙ y) ∙ x),
      refl,
    ))
ok_of-is words.Rows ls r e = made (rows_of [] [] ls) (λ rows. replies.Rows rows) r words.Ok words.Rows ls e
    (λ rows h. let are = rows-said ls rows (rows_of-is [] [] ls rows h) in (ap (begun words.Ok words.Rows) are.0, are.1))
ok_of-is words.Chains ls r e =
    made (numbers_by words.Matrices ls) (λ t. replies.Chains t.0 t.1) r words.Ok words.Chains ls e
    (λ t h. (ap (begun words.Ok words.Chains) (numbers_by-is words.Matrices ls t h), refl))
ok_of-is w ls r e = absurd cc

refused : {A : Type 0} (o : Option A) (make : A → Refusal) (r : Refusal) (w : Word) (ls : List Lexeme) → then_option o (λ x. Some (make x)) ≡ Some r
    → ((x : A) → o ≡ Some x → refusal_lexemes (make x) ≡ lexs.Word w ∷ ls) → refusal_lexemes r ≡ lexs.Word w ∷ ls
refused o make r w ls e h =
    let next = then_taken o (λ x. Some (make x)) r e in
    subst (λ x. refusal_lexemes x ≡ lexs.Word w ∷ ls) (some_is (make next.0) r next.2) (h next.0 next.1)

one_number : (w : Word) (make : ℕ → Refusal) (ls : List Lexeme) (r : Refusal)
    → ((n : ℕ) → refusal_lexemes (make n) ≡ lexs.Word w ∷ lexs.Number n ∷ []) → then_option (only number_item ls) (λ n. Some (make n)) ≡ Some r
    → refusal_lexemes r ≡ lexs.Word w ∷ ls
one_number w make ls r says e =
    refused (only number_item ls) make r w ls e (λ n h. says n
    ∙ ap (λ more. lexs.Word w ∷ more) (only-is number_item (λ n. lexs.Number n) number-item ls n h))

pub no_more : {A : Type 0} (ls : List Lexeme) (x y : A) → where_none ls x ≡ Some y → (ls ≡ []) × (x ≡ y)
no_more [] x y e = (refl, some_is x y e)
no_more (l ∷ ls) x y e = absurd cc

commutator-is : (ls : List Lexeme) (r : Refusal) → commutator_of ls ≡ Some r → refusal_lexemes r ≡ lexs.Word words.Commutator ∷ ls
commutator-is ls r e =
    let o = then_taken (first operator_item ls)
    (λ o. then_option (first number_item o.1)
    (λ a. then_option (first number_item a.1)
    (λ b. then_option (first number_item b.1)
    (λ c. then_option (only number_item c.1) (λ d. Some (refusals.Commutator o.0 a.0 b.0 c.0 d)))))) r e in
    let a = then_taken (first number_item o.0.1)
    (λ a. then_option (first number_item a.1)
    (λ b. then_option (first number_item b.1)
    (λ c. then_option (only number_item c.1) (λ d. Some (refusals.Commutator o.0.0 a.0 b.0 c.0 d))))) r o.2 in
    let b = then_taken (first number_item a.0.1)
    (λ b. then_option (first number_item b.1)
    (λ c. then_option (only number_item c.1) (λ d. Some (refusals.Commutator o.0.0 a.0.0 b.0 c.0 d)))) r a.2 in
    let c = then_taken (first number_item b.0.1)
    (λ c. then_option (only number_item c.1) (λ d. Some (refusals.Commutator o.0.0 a.0.0 b.0.0 c.0 d))) r b.2 in
    let number : Lexeme → List Lexeme → List Lexeme = λ l more. l ∷ more in
    refused (only number_item c.0.1) (λ d. refusals.Commutator o.0.0 a.0.0 b.0.0 c.0.0 d) r words.Commutator ls c.2
    (λ d h. ap (λ more. lexs.Word words.Commutator ∷ more)
    (ap (λ more. operator_lexeme o.0.0 ∷ more)
    (ap (λ more. lexs.Number a.0.0 ∷ more)
    (ap (λ more. lexs.Number b.0.0 ∷ more)
    (ap (λ more. lexs.Number c.0.0 ∷ more) (only-is number_item (λ n. lexs.Number n) number-item c.0.1 d h)
    ∙ first-is number_item (λ n. lexs.Number n) number-item b.0.1 c.0 c.1)
    ∙ first-is number_item (λ n. lexs.Number n) number-item a.0.1 b.0 b.1)
    ∙ first-is number_item (λ n. lexs.Number n) number-item o.0.1 a.0 a.1)
    ∙ first-is operator_item operator_lexeme operator-item ls o.0 o.1))

pub refusal_of-is : (w : Word) (ls : List Lexeme) (r : Refusal) → refusal_of w ls ≡ Some r → refusal_lexemes r ≡ lexs.Word w ∷ ls
refusal_of-is words.Grammar ls r e = one_number words.Grammar (λ n. refusals.Grammar n) ls r (λ n. refl) e
refusal_of-is words.Limit ls r e = refused (only limit_item ls) (λ what. refusals.Limit what) r words.Limit ls e
    (λ what h. ap (λ more. lexs.Word words.Limit ∷ more) (only-is limit_item (λ what. lexs.Word (limit_word what)) limit-item ls what h))
refusal_of-is words.NotSymbol ls r e = one_number words.NotSymbol (λ n. refusals.NotSymbol n) ls r (λ n. refl) e
refusal_of-is words.NotCoprime ls r e = one_number words.NotCoprime (λ n. refusals.NotCoprime n) ls r (λ n. refl) e
refusal_of-is words.Length ls r e =
    let a = then_taken (first number_item ls) (λ t. then_option (only number_item t.1) (λ n. Some (refusals.Length t.0 n))) r e in
    refused (only number_item a.0.1) (λ n. refusals.Length a.0.0 n) r words.Length ls a.2
    (λ n h. ap (λ more. lexs.Word words.Length ∷ more)
    (ap (λ more. lexs.Number a.0.0 ∷ more) (only-is number_item (λ n. lexs.Number n) number-item a.0.1 n h)
    ∙ first-is number_item (λ n. lexs.Number n) number-item ls a.0 a.1))
refusal_of-is words.NoPart ls r e = one_number words.NoPart (λ n. refusals.NoPart n) ls r (λ n. refl) e
refusal_of-is words.VersionsFull ls r e =
    let none = no_more ls refusals.VersionsFull r e in ap refusal_lexemes (sym none.1) ∙ ap (λ more. lexs.Word words.VersionsFull ∷ more) (sym none.0)
refusal_of-is words.Relation ls r e =
    let a = then_taken (first number_item ls) (λ t. then_option (all_of number_item t.1) (λ xs. Some (refusals.Relation t.0 xs))) r e in
    refused (all_of number_item a.0.1) (λ xs. refusals.Relation a.0.0 xs) r words.Relation ls a.2
    (λ xs h. ap (λ more. lexs.Word words.Relation ∷ more)
    (ap (λ more. lexs.Number a.0.0 ∷ more) (all_of-is number_item (λ n. lexs.Number n) number-item a.0.1 xs h)
    ∙ first-is number_item (λ n. lexs.Number n) number-item ls a.0 a.1))
refusal_of-is words.Commutator ls r e = commutator-is ls r e
refusal_of-is w ls r e = absurd cc

refusal-said : (w : Word) (ls : List Lexeme) (r : Reply) → then_option (refusal_of w ls) (λ x. Some (replies.Refused x)) ≡ Some r
    → IsSaid words.Err w ls r
refusal-said w ls r e =
    made (refusal_of w ls) (λ x. replies.Refused x) r words.Err w ls e
    (λ x h. (ap (λ more. lexs.Word words.Err ∷ more) (refusal_of-is w ls x h), refl))

pub err_of-is : (w : Word) (ls : List Lexeme) (r : Reply) → err_of w ls ≡ Some r → IsSaid words.Err w ls r
err_of-is words.Memory ls r e =
    let none = no_more ls replies.Memory r e in
    subst (IsSaid words.Err words.Memory ls) none.1 (ap (begun words.Err words.Memory) (sym none.0), refl)
err_of-is w ls r e = refusal-said w ls r e

reply_by_verdict-is : (v w : Word) (ls : List Lexeme) (r : Reply) → reply_by_verdict v w ls ≡ Some r → IsSaid v w ls r
reply_by_verdict-is words.Ok w ls r e = ok_of-is w ls r e
reply_by_verdict-is words.Err w ls r e = err_of-is w ls r e
reply_by_verdict-is v w ls r e = absurd cc

-- a reply that is read has these lexemes
pub reply_of-is : (ls : List Lexeme) (r : Reply) → reply_of ls ≡ Some r → (reply_lexemes r ≡ ls) × (has_rows r ≡ true)
reply_of-is ls r e =
    let a = then_taken (first word_item ls) (λ t. then_option (first word_item t.1) (λ u. reply_by_verdict t.0 u.0 u.1)) r e in
    let b = then_taken (first word_item a.0.1) (λ u. reply_by_verdict a.0.0 u.0 u.1) r a.2 in
    let said = reply_by_verdict-is a.0.0 b.0.0 b.0.1 r b.2 in (
      said.0 ∙ ap (λ more. lexs.Word a.0.0 ∷ more) (first-is word_item (λ v. lexs.Word v) word-item a.0.1 b.0 b.1)
          ∙ first-is word_item (λ v. lexs.Word v) word-item ls a.0 a.1,
      said.1,
    )
