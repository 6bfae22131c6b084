-- Sums over what draws choose, beside the items of a list.
use Rattle.std.proofs.Common.{◌≡◌, ℕ, zero, suc, ◌+◌, ◌-◌, ◌<◌, ◌≤◌, List, [], ◌∷◌, drop, get_or, refl, sym, ◌∙◌, arith}
use Rattle.std.specs.List.{sum_by, zip}
use Rattle.std.proofs.lemmas.List.{drop-drop}
use Rattle.std.proofs.lemmas.List.Sums.{sum_by-cons}
use Rattle.script_text.specs.declared.drawn.DrawnCommand.{DrawnCommand}
use Rattle.script_text.specs.Draws.{Choice, times, first_state, drawn_command, drawn_space}
use Rattle.reply_text.specs.declared.transcript.ReplyLine.{ReplyLine}
use Rattle.reply_text.specs.Summaries.{answer_sum, session_sum, image_sum}

-- the sum of f over what so many choices choose from a state on, each beside an item, place by place; and the state after them
unfoldable pub chosen_sum : {A B : Type 0} → (A × B → ℕ) → ℕ → Choice A → ℕ → List B → ℕ
chosen_sum f k choice state ys = sum_by f (zip (times k choice state).0 ys)

unfoldable pub chosen_state : {A : Type 0} → ℕ → Choice A → ℕ → ℕ
chosen_state k choice state = (times k choice state).1

zip_nothing : {A B : Type 0} (f : A × B → ℕ) (xs : List A) → sum_by f (zip {K = A} {X = B} xs []) ≡ 0
zip_nothing f [] = refl
zip_nothing f (x ∷ xs) = refl

pub chosen_sum-none : {A B : Type 0} (f : A × B → ℕ) (choice : Choice A) (state : ℕ) (ys : List B) → chosen_sum f 0 choice state ys ≡ 0
unfolding chosen_sum times
chosen_sum-none f choice state ys = refl

-- the first of the items, and then the others
pub chosen_sum-first : {A B : Type 0} (f : A × B → ℕ) (k : ℕ) (choice : Choice A) (state : ℕ) (ys : List B)
    → chosen_sum f (suc k) choice state ys ≡ sum_by f (zip ((choice state).0 ∷ []) ys) + chosen_sum f k choice (choice state).1 (drop 1 ys)
unfolding chosen_sum times
chosen_sum-first f k choice state [] = omega (arith, zip_nothing f (times k choice (choice state).1).0)
chosen_sum-first f k choice state (y ∷ ys) =
    omega (arith, sum_by-cons f ((choice state).0, y) (zip (times k choice (choice state).1).0 ys))

pub chosen_state-none : {A : Type 0} (choice : Choice A) (state : ℕ) → chosen_state 0 choice state ≡ state
unfolding chosen_state times
chosen_state-none choice state = refl

pub chosen_state-first : {A : Type 0} (k : ℕ) (choice : Choice A) (state : ℕ) → chosen_state (suc k) choice state ≡ chosen_state k choice (choice state).1
unfolding chosen_state times
chosen_state-first k choice state = refl

-- the item at a place, after the sum of those before it
pub chosen_sum-next : {A B : Type 0} (f : A × B → ℕ) (k place : ℕ) (choice : Choice A) (state after : ℕ) (x : A) (ys : List B) (sum added total : ℕ)
    → place < k → sum + chosen_sum f (k - place) choice state (drop place ys) ≡ total → x ≡ (choice state).0 → after ≡ (choice state).1
    → added ≡ sum_by f (zip (x ∷ []) (drop place ys))
    → sum + added + chosen_sum f (k - (place + 1)) choice after (drop (place + 1) ys) ≡ total
chosen_sum-next f k place choice state after x ys sum added total within before is next adds =
    let left : k - place ≡ suc (k - (place + 1)) = omega arith in
    let first = chosen_sum-first f (k - (place + 1)) choice state (drop place ys) in
    rw (next, ← drop-drop 1 place ys) (omega (arith, rw (left, first, ← is) at before, adds))

pub chosen_state-next : {A : Type 0} (k place : ℕ) (choice : Choice A) (state after end : ℕ)
    → place < k → chosen_state (k - place) choice state ≡ end → after ≡ (choice state).1 → chosen_state (k - (place + 1)) choice after ≡ end
chosen_state-next k place choice state after end within before next =
    let left : k - place ≡ suc (k - (place + 1)) = omega arith in
    rw next (sym (chosen_state-first (k - (place + 1)) choice state) ∙ rw left at before)

-- no item is left
pub chosen_sum-end : {A B : Type 0} (f : A × B → ℕ) (k place : ℕ) (choice : Choice A) (state : ℕ) (ys : List B) (sum total : ℕ)
    → k ≤ place → sum + chosen_sum f (k - place) choice state (drop place ys) ≡ total → sum ≡ total
chosen_sum-end f k place choice state ys sum total past before =
    let none : k - place ≡ 0 = omega arith in
    omega (arith, rw (none, chosen_sum-none f choice state (drop place ys)) at before)

pub chosen_state-end : {A : Type 0} (k place : ℕ) (choice : Choice A) (state end : ℕ)
    → k ≤ place → chosen_state (k - place) choice state ≡ end → state ≡ end
chosen_state-end k place choice state end past before =
    let none : k - place ≡ 0 = omega arith in
    sym (chosen_state-none choice state) ∙ rw none at before

-- the sums of a session, and of a drawing
pub session_sum-chosen : (choice : Choice DrawnCommand) (state : ℕ) (told : List ReplyLine)
    → chosen_sum answer_sum 40 choice state told ≡ session_sum ((times 40 choice state).0, told)
unfolding chosen_sum
session_sum-chosen choice state told = refl

pub state-chosen : (choice : Choice DrawnCommand) (state : ℕ) → chosen_state 40 choice state ≡ (times 40 choice state).1
unfolding chosen_state
state-chosen choice state = refl

pub image_sum-chosen : (seed level state : ℕ) (all : List (List ReplyLine))
    → level ≡ (drawn_space (first_state seed)).0.modulus → state ≡ (drawn_space (first_state seed)).1
    → chosen_sum session_sum 4 (times 40 (drawn_command level)) state all ≡ image_sum seed all
unfolding chosen_sum
image_sum-chosen seed level state all is_level is_state = rw (is_level, is_state) refl

-- the sum over the session at a place, or over none
pub session_sum-at : (x : List DrawnCommand) (all : List (List ReplyLine)) (place : ℕ)
    → session_sum (x, get_or all place []) ≡ sum_by session_sum (zip (x ∷ []) (drop place all))
session_sum-at x [] zero = zip_nothing answer_sum x
session_sum-at x [] (suc place) = zip_nothing answer_sum x
session_sum-at x (told ∷ all) zero = omega arith
session_sum-at x (told ∷ all) (suc place) = session_sum-at x all place
