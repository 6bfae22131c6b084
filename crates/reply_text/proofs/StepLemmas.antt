-- What the steps over lines answer.
use Rattle.std.proofs.Common.{◌≡◌, ℕ, ℤ, pos, ◌+◌, ◌*◌, ◌<◌, ◌≤◌, Bool, true, false, ◌&&◌, eqb, leb, ltb, List, [], ◌∷◌, ◌++◌, length, map, Some, None, refl, sym, ap, ◌∙◌, length-append, arith}
use Rattle.std.specs.Prelude.{unsigned_abs, ◌+ℤ◌}
use Rattle.std.specs.List.{list_all}
use Rattle.std.proofs.Math.Nat.{mod-eq_of_lt}
use Rattle.std.proofs.lemmas.Int.{int_rem_euclid_is, ints}
use Rattle.std.proofs.lemmas.Bool.{eqb-true, eq-eqb, ltb-true, lt-ltb, le-leb, and_parts}
use Rattle.linear_algebra.specs.Integers.{residue_of}
use Rattle.op_polynomials.specs.declared.poly.TheConstants.{MAX_COEFFICIENTS}
use Rattle.script_text.specs.declared.limits.TheConstants.{MAX_COMMANDS}
use Rattle.reply_text.specs.declared.limits.TheConstants.{MAX_VERSIONS}
use Rattle.reply_text.specs.declared.transcript.ReplyLine.{ReplyLine}
use Rattle.reply_text.specs.declared.transcript.Transcript.{Transcript}
use Rattle.reply_text.specs.declared.state.State.{State}
use Rattle.reply_text.specs.declared.state.State.TheVariants as states
use Rattle.reply_text.specs.Lexemes.{where_true}
use Rattle.reply_text.specs.Rules.{is_written, is_polynomial, replies_of}
use Rattle.reply_text.specs.Steps.{last_length, add_reply, takes_reply}
use Rattle.reply_text.proofs.States.{same_session, last_session}

same_residue : (p x : ℕ) → x < p → residue_of p (pos x) ≡ x
same_residue p x lt =
    let whole : pos x +ℤ pos (0 * p) ≡ pos x = omega (arith, ints) in
    ap unsigned_abs (int_rem_euclid_is (pos x) (pos p) p 0 x (omega arith) refl whole) ∙ mod-eq_of_lt lt

same_residues : (p : ℕ) (cs : List ℕ) → list_all (λ x. ltb x p) cs ≡ true → map (residue_of p) (map (λ x. pos x) cs) ≡ cs
same_residues p [] e = refl
same_residues p (c ∷ cs) e =
    let q = and_parts (ltb c p) (list_all (λ x. ltb x p) cs) e in
    rw (same_residue p c (ltb-true c p q.0), same_residues p cs q.1) refl

pub polynomial_same : (p : ℕ) (cs poly : List ℕ) (numbers : List ℤ) → is_polynomial p cs ≡ true → numbers ≡ map (λ x. pos x) cs
    → poly ≡ map (residue_of p) numbers → poly ≡ cs
polynomial_same p cs poly numbers good e f =
    let a = and_parts (leb 1 (length cs) && leb (length cs) MAX_COEFFICIENTS) (list_all (λ x. ltb x p) cs) good in
    f ∙ ap (map (residue_of p)) e ∙ same_residues p cs a.1

-- a reply with another number is not taken
pub reply_refused : (t : Transcript) (r : ReplyLine) (x : State) (front : List (List ReplyLine)) (last : List ReplyLine)
    → t.sessions ≡ front ++ last ∷ [] → (r.number ≡ length last + 1 → ⊥)
    → None ≡ where_true (takes_reply t r && is_written r.reply) x
reply_refused t r x front last e differs = at (takes_reply t r && is_written r.reply) refl
  where
    at : (b : Bool) → (takes_reply t r && is_written r.reply) ≡ b → None ≡ where_true b x
    at false h = refl
    at true h =
        let w = and_parts (takes_reply t r) (is_written r.reply) h in
        let p = and_parts (ltb 0 (length t.sessions) && eqb r.number (last_length t.sessions + 1) && leb r.version MAX_VERSIONS)
        (ltb (replies_of t.sessions) MAX_COMMANDS) w.0 in
        let q = and_parts (ltb 0 (length t.sessions) && eqb r.number (last_length t.sessions + 1)) (leb r.version MAX_VERSIONS) p.0 in
        let o = and_parts (ltb 0 (length t.sessions)) (eqb r.number (last_length t.sessions + 1)) q.0 in
        absurd (differs (eqb-true r.number (last_length t.sessions + 1) o.1 ∙ ap (λ n. n + 1) (ap last_length e ∙ last_session front last)))

-- a reply with the next number is taken
pub reply_taken : (t : Transcript) (r : ReplyLine) (front : List (List ReplyLine)) (last : List ReplyLine) (new : List (List ReplyLine))
    → t.sessions ≡ front ++ last ∷ [] → r.number ≡ length last + 1
    → r.version ≤ MAX_VERSIONS → ltb (replies_of t.sessions) MAX_COMMANDS ≡ true → is_written r.reply ≡ true → new ≡ front ++ (last ++ r ∷ []) ∷ []
    → Some (states.InSessions (record t { sessions = new })) ≡ where_true (takes_reply t r && is_written r.reply)
    (states.InSessions (record t { sessions = add_reply t.sessions r }))
reply_taken t r front last new e number version room written f =
    let some : ltb 0 (length t.sessions) ≡ true = lt-ltb 0 (length t.sessions) (omega (arith, ap length e, length-append front (last ∷ []))) in
    let next : eqb r.number (last_length t.sessions + 1) ≡ true =
    eq-eqb r.number (last_length t.sessions + 1) (number ∙ ap (λ n. n + 1) (sym (ap last_length e ∙ last_session front last))) in
    let small : leb r.version MAX_VERSIONS ≡ true = le-leb r.version MAX_VERSIONS version in
    let same : new ≡ add_reply t.sessions r = f ∙ sym (same_session front last r) ∙ ap (λ ss. add_reply ss r) (sym e) in
    rw (some, next, small, room, written) (ap (λ ss. Some (states.InSessions (record t { sessions = ss }))) same)
