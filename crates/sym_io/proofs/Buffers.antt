-- What a buffer and its sink hold after a call, and after two calls.
use Rattle.std.proofs.Common.{◌≡◌, ℕ, ◌+◌, ◌-◌, ◌<◌, ◌≤◌, List, [], ◌∷◌, ◌++◌, length, take, drop, get_or, Ok, Err, Result, IsErr, OnOk, sym, ap, ◌∙◌, subst, append-nil, append_assoc, add-one, arith, length-append, drop-cons}
use Rattle.std.proofs.Math.Seq.{take-length, take-add, drop-length}
use Rattle.std.proofs.lemmas.List.{take-append-le, take_all, drop-drop, length-drop}
use Rattle.std.proofs.lemmas.Result.{IfOk-from_err}
use lib.Seq.{drop-append-le}
use Rattle.std.specs.declared.option.Option.{Option}
use Rattle.std.specs.Io.KnownBytes.{Appends}
use Rattle.std.proofs.KnownBytes.{Appends-nil, Appends-trans}
use Rattle.sym_io.specs.Writing.{AppendsPart, BuffersText}

-- all that waits and the text went to the sink, or a part of them
pub BuffersText-written : {T E : Type 0} (old new : Option (List ℕ)) (waiting text : List ℕ) (r : Result T E)
    → OnOk r (Appends old new (waiting ++ text)) → AppendsPart old new (waiting ++ text) → BuffersText old new waiting [] text r
BuffersText-written old new waiting text (Ok x) whole part = record {
  count = length (waiting ++ text);
  within = omega arith;
  appended = subst (Appends old new) (sym (take-length (waiting ++ text))) whole;
  rest = sym (drop-length (waiting ++ text));
}
BuffersText-written old new waiting text (Err e) whole part = record {
  count = part.count;
  within = part.within;
  appended = part.appended;
  rest = tt;
}

-- all that waits went to the sink, or a part of it
pub BuffersText-flushed : {T E : Type 0} (old new : Option (List ℕ)) (held waiting : List ℕ) (r : Result T E) → held ≡ waiting
    → OnOk r (Appends old new held) → AppendsPart old new held → BuffersText old new waiting [] [] r
BuffersText-flushed old new held waiting r e whole part =
    let plain : waiting ++ [] ≡ held = append-nil waiting ∙ sym e in
    BuffersText-written old new waiting [] r (rw plain whole) (rw plain part)

-- a part, and then a part of the rest
pub Appends-take-add : (a b c : Option (List ℕ)) (at k : ℕ) (bytes : List ℕ) → Appends a b (take at bytes)
    → Appends b c (take k (take (length bytes - at) (drop at bytes))) → Appends a c (take (at + k) bytes)
Appends-take-add a b c at k bytes first second =
    let rest : take (length bytes - at) (drop at bytes) ≡ drop at bytes =
    subst (λ n. take n (drop at bytes) ≡ drop at bytes) (length-drop at bytes) (take-length (drop at bytes)) in
    rw (take-add at k bytes) (Appends-trans a b c _ _ first (subst (λ w. Appends b c (take k w)) rest second))

-- the piece is added to what waits
pub BuffersText-held : {T E : Type 0} (a b : Option (List ℕ)) (waiting kept new piece : List ℕ) (x : T)
    → BuffersText {T = T} {E = E} a b waiting kept [] (Ok x) → new ≡ kept ++ piece → BuffersText {T = T} {E = E} a b waiting new piece (Ok x)
BuffersText-held a b waiting kept new piece x room e =
    let plain : waiting ++ [] ≡ waiting = append-nil waiting in
    let within : room.count ≤ length waiting = subst (λ w. room.count ≤ length w) plain room.within in
    record {
      count = room.count;
      within = omega (arith, within, length-append waiting piece);
      appended = subst (Appends a b) (ap (take room.count) plain ∙ sym (take-append-le room.count waiting piece within)) room.appended;
      rest = e ∙ ap (λ k. k ++ piece) (room.rest ∙ ap (drop room.count) plain) ∙ sym (drop-append-le room.count waiting piece within);
    }

-- what holds at Ok gives something else
on_ok : {T E P Q : Type 0} (r : Result T E) → OnOk r P → (P → Q) → OnOk r Q
on_ok (Ok x) p f = f p
on_ok (Err e) p f = tt

-- one text after the other
pub BuffersText-append : {T S E : Type 0} (a b c : Option (List ℕ)) (o m n x y : List ℕ) (v : T) (r : Result S E)
    → BuffersText {T = T} {E = E} a b o m x (Ok v) → BuffersText b c m n y r → BuffersText a c o n (x ++ y) r
BuffersText-append a b c o m n x y v r first second =
    let both : o ++ (x ++ y) ≡ (o ++ x) ++ y = sym (append_assoc o x y) in
    let tail : drop first.count ((o ++ x) ++ y) ≡ m ++ y =
    drop-append-le first.count (o ++ x) y first.within ∙ ap (λ w. w ++ y) (sym first.rest) in
    let head : take (first.count + second.count) ((o ++ x) ++ y) ≡ take first.count (o ++ x) ++ take second.count (m ++ y) =
    take-add first.count second.count ((o ++ x) ++ y)
    ∙ ap (λ w. w ++ take second.count (drop first.count ((o ++ x) ++ y))) (take-append-le first.count (o ++ x) y first.within)
    ∙ ap (λ w. take first.count (o ++ x) ++ take second.count w) tail in
    record {
      count = first.count + second.count;
      within = rw both (omega (
        arith,
        length-append (o ++ x) y,
        length-append m y,
        ap length first.rest,
        length-drop first.count (o ++ x),
        first.within,
        second.within,
      ));
      appended = rw (both, head) (Appends-trans a b c _ _ first.appended second.appended);
      rest = on_ok r second.rest (λ e. e ∙ ap (drop second.count) (sym tail)
          ∙ drop-drop second.count first.count ((o ++ x) ++ y) ∙ ap (drop (first.count + second.count)) (sym both));
    }

-- what waited went to the sink, and then the text, or a part of it
pub BuffersText-passed : {T S E : Type 0} (a b c : Option (List ℕ)) (old flushed text : List ℕ) (v : T) (r : Result S E)
    → BuffersText {T = T} {E = E} a b old flushed [] (Ok v) → flushed ≡ [] → OnOk r (Appends b c text) → AppendsPart b c text
    → BuffersText a c old flushed text r
BuffersText-passed a b c old flushed text v r first empty whole part =
    let second : BuffersText b c flushed flushed text r =
    subst (λ w. BuffersText b c w w text r) (sym empty) (BuffersText-written b c [] text r whole part) in
    BuffersText-append a b c old flushed flushed [] text v r first second

-- no text
pub BuffersText-nothing : {T E : Type 0} (a : Option (List ℕ)) (o : List ℕ) (v : T)
    → BuffersText {T = T} {E = E} a a o o [] (Ok v)
BuffersText-nothing a o v = record {
  count = 0;
  within = omega arith;
  appended = Appends-nil a;
  rest = sym (append-nil o);
}

-- the first piece failed, and no other was tried
pub BuffersText-failed : {T S E F : Type 0} (a b : Option (List ℕ)) (o m n x y : List ℕ) (q : Result T E) (r : Result S F) → IsErr r
    → BuffersText a b o m x q → BuffersText a b o n (x ++ y) r
BuffersText-failed a b o m n x y q r failed first =
    let both : o ++ (x ++ y) ≡ (o ++ x) ++ y = sym (append_assoc o x y) in
    record {
      count = first.count;
      within = rw both (omega (arith, length-append (o ++ x) y, first.within));
      appended = rw (both, take-append-le first.count (o ++ x) y first.within) first.appended;
      rest = IfOk-from_err r (λ _. n ≡ drop first.count (o ++ (x ++ y))) failed;
    }

-- the items from a place on begin with the one there
pub drop_item : {P : Type 0} (xs : List P) (i : ℕ) (x : P) → x ≡ get_or xs i x → i < length xs → drop i xs ≡ x ∷ drop (i + 1) xs
drop_item xs i x e h = rw (add-one, drop-cons xs i x h, ← e)

-- of a text that was put, the sink has the first bytes
pub AppendsPart-put : {T E : Type 0} (a b : Option (List ℕ)) (kept text : List ℕ) (r : Result T E)
    → BuffersText a b [] kept text r → AppendsPart a b text
AppendsPart-put a b kept text r put = record { count = put.count; within = put.within; appended = put.appended }

-- of a text that was put, of which nothing waits, the sink has all
pub Appends-put : {T E : Type 0} (a b : Option (List ℕ)) (kept text : List ℕ) (r : Result T E)
    → BuffersText a b [] kept text r → OnOk r (kept ≡ []) → OnOk r (Appends a b text)
Appends-put a b kept text (Ok x) put empty =
    let all : length (drop put.count text) ≡ 0 = ap length (sym put.rest ∙ empty) in
    let past : length text ≤ put.count = omega (arith, length-drop put.count text) in
    subst (Appends a b) (take_all put.count text past) put.appended
Appends-put a b kept text (Err e) put empty = tt
