-- The sessions of a drawn script, one after another.
use Rattle.std.proofs.Common.{◌≡◌, ℕ, suc, ◌+◌, ◌*◌, List, [], ◌∷◌, ◌++◌, map, length, refl, sym, ap, ◌∙◌, arith, length-append}
use Rattle.std.specs.List.{All, sum_by}
use Rattle.std.proofs.lemmas.List.{length-map, map-append}
use Rattle.std.proofs.lemmas.List.Sums.{sum_by-cons, sum_by-append}
use Rattle.script_text.specs.declared.drawn.DrawnCommand.{DrawnCommand}
use Rattle.script_text.specs.declared.space.SpaceLine.{SpaceLine}
use Rattle.script_text.specs.Numbered.{NumberedLine}
use Rattle.script_text.specs.Valid.{IsScript, command_count}
use Rattle.script_text.specs.Draws.{first_state, times, drawn_command, drawn_space, drawn_text, numbered_from, blocks_from, generated}
use Rattle.script_text.proofs.DrawLemmas.{times-none, times-more, length-times, All-times, numbered_from-push, length-numbered_from, blocks_from-push}
use Rattle.script_text.proofs.GeneratedLemmas.{drawn_space-is_space}

-- the lists of commands that so many sessions draw
abbrev pub drawn_sessions : ℕ → ℕ → ℕ → List (List DrawnCommand)
drawn_sessions level start k = (times k (times 40 (drawn_command level)) start).0

abbrev pub state_after : ℕ → ℕ → ℕ → ℕ
state_after level start k = (times k (times 40 (drawn_command level)) start).1

-- so many commands of a session are made
pub record HasCommands (level start first k : ℕ) (made : List NumberedLine) (state : ℕ) : Type 0 where
  pub commands : made ≡ numbered_from first (map drawn_text (times k (drawn_command level) start).0)
  pub after : state ≡ (times k (drawn_command level) start).1

pub no_command : (level start first : ℕ) → HasCommands level start first 0 [] start
no_command level start first = record {
  commands = rw (times-none (drawn_command level) start) refl;
  after = rw (times-none (drawn_command level) start) refl;
}

pub one_command : (level now start first k line next : ℕ) (commands more : List NumberedLine) (state : ℕ) (text : List ℕ)
    → HasCommands level start first k commands state → now ≡ level
    → text ≡ drawn_text (drawn_command now state).0 → next ≡ (drawn_command now state).1
    → line ≡ first + k → more ≡ commands ++ (record { line = line; text = text }) ∷ []
    → HasCommands level start first (k + 1) more next
one_command level now start first k line next commands more state text so same_level is moved place pushed =
    let step = times-more k (drawn_command level) start in
    let drawn = (times k (drawn_command level) start).0 in
    let command = (drawn_command level (times k (drawn_command level) start).1).0 in
    let count : length (map drawn_text drawn) ≡ k = length-map drawn drawn_text ∙ length-times k (drawn_command level) start in
    let numbered : numbered_from first (map drawn_text drawn ++ drawn_text command ∷ [])
    ≡ numbered_from first (map drawn_text drawn) ++ (record { line = line; text = drawn_text command }) ∷ [] =
    numbered_from-push first (map drawn_text drawn) (drawn_text command) line (omega (arith, count, place)) in
    let whole : map drawn_text (times (k + 1) (drawn_command level) start).0 ≡ map drawn_text drawn ++ drawn_text command ∷ [] =
    ap (λ (r : List DrawnCommand × ℕ). map drawn_text r.0) step ∙ map-append drawn_text drawn (command ∷ []) in
    let same : text ≡ drawn_text command =
    is ∙ ap (λ l. drawn_text (drawn_command l state).0) same_level ∙ ap (λ s. drawn_text (drawn_command level s).0) so.after in record {
      commands = pushed ∙ rw (so.commands, same, whole, numbered) refl;
      after = moved ∙ ap (λ l. (drawn_command l state).1) same_level ∙ rw (so.after, step) refl;
    }

-- so many sessions are made
pub record HasSessions (level start k : ℕ) (made : List (List NumberedLine)) (state : ℕ) : Type 0 where
  pub sessions : made ≡ blocks_from 2 (map (map drawn_text) (drawn_sessions level start k))
  pub after : state ≡ state_after level start k
  pub commands : command_count made ≡ 40 * k
  pub count : length made ≡ k

pub no_session : (level start : ℕ) → HasSessions level start 0 [] start
no_session level start =
    let none = sym (times-none (times 40 (drawn_command level)) start) in record {
      sessions = ap (λ (r : List (List DrawnCommand) × ℕ). blocks_from 2 (map (map drawn_text) r.0)) none;
      after = ap (λ (r : List (List DrawnCommand) × ℕ). r.1) none;
      commands = refl;
      count = refl;
    }

sum_of_blocks : (blocks : List (List DrawnCommand)) → All (λ (s : List DrawnCommand). length s ≡ 40) blocks
    → sum_by (λ (block : List (List ℕ)). length block + 1) (map (map drawn_text) blocks) ≡ 41 * length blocks
sum_of_blocks [] all = refl
sum_of_blocks (block ∷ blocks) all =
    let first : length block ≡ 40 = all 0 block (omega arith) in
    let rest : All (λ (s : List DrawnCommand). length s ≡ 40) blocks = λ k d within. all (suc k) d (omega arith) in
    omega (
      arith,
      sum_by-cons (λ (block : List (List ℕ)). length block + 1) (map drawn_text block) (map (map drawn_text) blocks),
      length-map block drawn_text,
      first,
      sum_of_blocks blocks rest,
    )

room : (level start k : ℕ) → sum_by (λ (block : List (List ℕ)). length block + 1) (map (map drawn_text) (drawn_sessions level start k)) ≡ 41 * k
room level start k =
    let forty : All (λ (s : List DrawnCommand). length s ≡ 40) (drawn_sessions level start k) =
    All-times (λ (s : List DrawnCommand). length s ≡ 40) k (times 40 (drawn_command level)) start (λ s. length-times 40 (drawn_command level) s) in
    sum_of_blocks (drawn_sessions level start k) forty ∙ ap (λ n. 41 * n) (length-times k (times 40 (drawn_command level)) start)

pub one_session : (level now start k line next : ℕ) (sessions more : List (List NumberedLine)) (state : ℕ) (session : List NumberedLine)
    → HasSessions level start k sessions state → now ≡ level → line ≡ 2 + 41 * k
    → session ≡ numbered_from (line + 1) (map drawn_text (times 40 (drawn_command now) state).0)
    → next ≡ (times 40 (drawn_command now) state).1 → more ≡ sessions ++ session ∷ []
    → HasSessions level start (k + 1) more next
one_session level now start k line next sessions more state session so same_level place is moved pushed =
    let step = times-more k (times 40 (drawn_command level)) start in
    let drawn = drawn_sessions level start k in
    let commands = (times 40 (drawn_command level) (state_after level start k)).0 in
    let forty : length commands ≡ 40 = length-times 40 (drawn_command level) (state_after level start k) in
    let before : 2 + sum_by (λ (block : List (List ℕ)). length block + 1) (map (map drawn_text) drawn) ≡ line =
    omega (arith, room level start k, place) in
    let blocks : blocks_from 2 (map (map drawn_text) drawn ++ map drawn_text commands ∷ [])
    ≡ blocks_from 2 (map (map drawn_text) drawn) ++ numbered_from (line + 1) (map drawn_text commands) ∷ [] =
    blocks_from-push 2 (map (map drawn_text) drawn) (map drawn_text commands) line before in
    let whole : map (map drawn_text) (drawn_sessions level start (k + 1)) ≡ map (map drawn_text) drawn ++ map drawn_text commands ∷ [] =
    ap (λ (r : List (List DrawnCommand) × ℕ). map (map drawn_text) r.0) step ∙ map-append (map drawn_text) drawn (commands ∷ []) in
    let same : session ≡ numbered_from (line + 1) (map drawn_text commands) =
    is ∙ ap (λ l. numbered_from (line + 1) (map drawn_text (times 40 (drawn_command l) state).0)) same_level
    ∙ ap (λ s. numbered_from (line + 1) (map drawn_text (times 40 (drawn_command level) s).0)) so.after in
    let lines : length session ≡ 40 =
    ap length same ∙ length-numbered_from (line + 1) (map drawn_text commands) ∙ length-map commands drawn_text ∙ forty in record {
      sessions = pushed ∙ rw (so.sessions, same, whole, blocks) refl;
      after = moved ∙ ap (λ l. (times 40 (drawn_command l) state).1) same_level ∙ ap (λ s. (times 40 (drawn_command level) s).1) so.after
          ∙ sym (ap (λ (r : List (List DrawnCommand) × ℕ). r.1) step);
      commands = ap command_count pushed
          ∙ omega (arith, sum_by-append (λ (s : List NumberedLine). length s) sessions (session ∷ []), so.commands, lines);
      count = ap length pushed ∙ omega (arith, length-append sessions (session ∷ []), so.count);
    }

-- the four sessions are those of the script
pub generated_is : (seed k : ℕ) (space : SpaceLine) (sessions : List (List NumberedLine)) (state : ℕ) → space ≡ (drawn_space (first_state seed)).0
    → HasSessions (drawn_space (first_state seed)).0.modulus (drawn_space (first_state seed)).1 k sessions state → k ≡ 4
    → (record { space = space; sessions = sessions }) ≡ generated seed
unfolding generated
generated_is seed k space sessions state is so all =
    let made : sessions ≡ (generated seed).sessions =
    so.sessions ∙ ap (λ n. blocks_from 2 (map (map drawn_text)
    (drawn_sessions (drawn_space (first_state seed)).0.modulus (drawn_space (first_state seed)).1 n))) all in
    rw (is, made) refl

pub generated_script : (seed k : ℕ) (space : SpaceLine) (sessions : List (List NumberedLine)) (state : ℕ) → space ≡ (drawn_space (first_state seed)).0
    → HasSessions (drawn_space (first_state seed)).0.modulus (drawn_space (first_state seed)).1 k sessions state → k ≡ 4
    → IsScript space sessions
generated_script seed k space sessions state is so all = record {
  is_space = rw is (drawn_space-is_space (first_state seed));
  few_sessions = omega (arith, so.count, all);
  few_commands = omega (arith, so.commands, all);
}
