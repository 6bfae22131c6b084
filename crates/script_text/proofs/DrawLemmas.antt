-- Choices one after another, and the lines of what they choose.
use Rattle.std.proofs.Common.{◌≡◌, ℕ, zero, suc, ◌+◌, false, List, [], ◌∷◌, ◌++◌, map, length, get_or, filter, nat_eq, refl, ap, ◌∙◌, arith, add-one}
use Rattle.std.specs.List.{All, AllZip, sum_by, range_with_len}
use Rattle.std.proofs.lemmas.List.{length-map}
use Rattle.std.proofs.lemmas.List.Elements.{All-cons}
use Rattle.std.proofs.lemmas.List.Sums.{sum_by-cons}
use Rattle.p1_normal.specs.Units.{gcd}
use Rattle.script_text.specs.Numbered.{NumberedLine}
use Rattle.script_text.specs.Draws.{Choice, times, pick, command_of_kind, drawn_command, numbered_from, blocks_from}

pub times-none : {A : Type 0} (choice : Choice A) (state : ℕ) → times 0 choice state ≡ ([], state)
unfolding times
times-none choice state = refl

-- one choice more at the end
pub times-more : {A : Type 0} (k : ℕ) (choice : Choice A) (state : ℕ) → times (k + 1) choice state
    ≡ ((times k choice state).0 ++ (choice (times k choice state).1).0 ∷ [], (choice (times k choice state).1).1)
unfolding times
times-more zero choice state = refl
times-more {A} (suc k) choice state =
    let onto : List A × ℕ → List A × ℕ = λ rest. ((choice state).0 ∷ rest.0, rest.1) in
    rw add-one (ap onto (rw add-one at (times-more k choice (choice state).1)))

pub length-times : {A : Type 0} (k : ℕ) (choice : Choice A) (state : ℕ) → length (times k choice state).0 ≡ k
unfolding times
length-times zero choice state = refl
length-times (suc k) choice state = ap suc (length-times k choice (choice state).1)

-- what each choice gives, all of them give
pub All-times : {A : Type 0} (P : A → Type 0) (k : ℕ) (choice : Choice A) (state : ℕ) → ((s : ℕ) → P (choice s).0) → All P (times k choice state).0
unfolding times
All-times P zero choice state each = λ k d within. absurd (omega arith)
All-times P (suc k) choice state each =
    All-cons P (choice state).0 (times k choice (choice state).1).0 (each state) (All-times P k choice (choice state).1 each)

pub numbered_from-push : (n : ℕ) (texts : List (List ℕ)) (text : List ℕ) (k : ℕ) → n + length texts ≡ k
    → numbered_from n (texts ++ text ∷ []) ≡ numbered_from n texts ++ (record { line = k; text = text }) ∷ []
numbered_from-push n [] text k place =
    let here : n ≡ k = omega (arith, place) in
    ap (λ (line : ℕ). let numbered : NumberedLine = record { line = line; text = text } in numbered ∷ []) here
numbered_from-push n (t ∷ texts) text k place =
    let first : NumberedLine = record { line = n; text = t } in
    ap (λ (lines : List NumberedLine). first ∷ lines) (numbered_from-push (n + 1) texts text k (omega (arith, place)))

pub length-numbered_from : (n : ℕ) (texts : List (List ℕ)) → length (numbered_from n texts) ≡ length texts
length-numbered_from n [] = refl
length-numbered_from n (t ∷ texts) = ap suc (length-numbered_from (n + 1) texts)

pub blocks_from-push : (n : ℕ) (blocks : List (List (List ℕ))) (texts : List (List ℕ)) (k : ℕ)
    → n + sum_by (λ (block : List (List ℕ)). length block + 1) blocks ≡ k
    → blocks_from n (blocks ++ texts ∷ []) ≡ blocks_from n blocks ++ numbered_from (k + 1) texts ∷ []
blocks_from-push n [] texts k place =
    let here : n ≡ k = omega (arith, place) in
    ap (λ (line : ℕ). numbered_from (line + 1) texts ∷ []) here
blocks_from-push n (block ∷ blocks) texts k place =
    ap (λ (lines : List (List NumberedLine)). numbered_from (n + 1) block ∷ lines)
    (blocks_from-push (n + 1 + length block) blocks texts k
    (omega (arith, place, sum_by-cons (λ (block : List (List ℕ)). length block + 1) block blocks)))

pub AllZip-blocks : {A : Type 0} (f : A → List ℕ) (n : ℕ) (sessions : List (List A))
    → AllZip (λ (lines : List NumberedLine) (session : List A). length lines ≡ length session) (blocks_from n (map (map f) sessions)) sessions
AllZip-blocks f n [] = tt
AllZip-blocks f n (session ∷ sessions) =
    (length-numbered_from (n + 1) (map f session) ∙ length-map session f, AllZip-blocks f (n + 1 + length (map f session)) sessions)

pub drawn_command-is : (level state kind same_level after : ℕ) → kind ≡ (pick 8 state).0 → same_level ≡ level → after ≡ (pick 8 state).1
    → command_of_kind same_level kind after ≡ drawn_command level state
unfolding drawn_command
drawn_command-is level state kind same_level after is same moved = rw (is, same, moved) refl

-- the least index from one on that is not coprime to N is the least from the next one on
abbrev pub coprime_from : ℕ → ℕ → ℕ → ℕ
coprime_from N n count = get_or (filter (λ k. nat_eq (gcd k N) 1) (range_with_len n count)) 0 1

pub coprime_from-no : (N n count left : ℕ) → count ≡ left + 1 → nat_eq (gcd n N) 1 ≡ false → coprime_from N n count ≡ coprime_from N (n + 1) left
coprime_from-no N n count left is none = rw (is, add-one, none) refl
