-- A legal transcript of a script keeps the rules of transcripts.
use Rattle.std.proofs.Common.{◌≡◌, inl, inr, ◌+◌, ◌<◌, ◌≤◌, ◌^◌, ◌==◌, ◌&&◌, ℕ, ℤ, zero, suc, true, List, [], ◌∷◌, length, map, take, get_or, All}
use Rattle.std.proofs.Common.{nat_le, nat_lt, le-leb, lt-ltb, eq-eqb, Some, slice_get, refl, sym, ap, ◌∙◌, subst, arith}
use Rattle.std.specs.List.{AllByRecursion, AllZip, enumerate_from, list_all}
use Rattle.std.proofs.lemmas.Bool.{and_from}
use Rattle.std.proofs.lemmas.List.{length-map, length-take-le}
use Rattle.std.proofs.lemmas.List.Elements.{All-contains, All-head, All-map, All-tail, All-take, Contains-get_or, recursion_from_All}
use Rattle.std.proofs.lemmas.List.Sums.{list_all-from_AllPass, sum_by-cons}
use Rattle.std.proofs.lemmas.Option.{same_Some, slice_get-get_or, slice_get_within}
use Rattle.std.proofs.lemmas.Slice.Zip.{AllZip-long}
use Rattle.linear_algebra.specs.Integers.{residue_of}
use Rattle.field_table.specs.Table.{IsListed, is_listed}
use Rattle.field_table.proofs.TableFacts.{listed_above_one}
use Rattle.p1_normal.specs.declared.level.TheConstants.{MAX_LEVEL}
use Rattle.p1_normal.specs.Points.{symbols}
use Rattle.p1_normal.proofs.Residues.{residue-lt}
use Rattle.quotient_coords.specs.Quotient.{Ground}
use Rattle.op_polynomials.specs.declared.entry.SplitEntry.{SplitEntry}
use Rattle.op_polynomials.specs.declared.poly.TheConstants.{MAX_COEFFICIENTS}
use Rattle.split_state.specs.Decomposition.{Decomposition}
use Rattle.split_state.specs.Versions.{IsVersion, operators}
use Rattle.split_state.proofs.Versions.{version_characteristic, version_dim, version_lists}
use Rattle.script_text.specs.Commands.{command_of, IsIndexed}
use Rattle.script_text.specs.Numbered.{NumberedLine, IsShort}
use Rattle.script_text.specs.declared.space.SpaceLine.{SpaceLine}
use Rattle.script_text.specs.Valid.{ScriptText, IsSpace, command_count}
use Rattle.reply_text.specs.declared.transcript.ReplyLine.{ReplyLine}
use Rattle.reply_text.specs.declared.transcript.Transcript.{Transcript}
use Rattle.reply_text.specs.Lexemes.{is_small, is_lexeme}
use Rattle.reply_text.specs.Rules.{is_space, is_written, AreNumbered, replies_of, is_polynomial, is_entry, IsTranscript}
use Rattle.reply_text.specs.Wordings.{operator_lexeme}
use Rattle.session_core.specs.Transcripts.{script_ground, IsReplyLine, AreReplyLines, IsLegalTranscript}
use Rattle.session_core.proofs.HistoryVersions.{history_versions}
use Rattle.generated_runs.proofs.LinesAnswered.{all_there, lines_counted, reply_line}
use Rattle.legal_runs.proofs.GroundSizes.{IsGround, space_ground}
use Rattle.legal_runs.proofs.ReadCommands.{IsReadWell, read_well}
use Rattle.legal_runs.proofs.ScriptLimits.{IsLineWithin, IsReadScript}
use Rattle.legal_runs.proofs.WrittenAnswers.{IsVersioned}
use Rattle.legal_runs.proofs.WrittenLexemes.{operator, small}
use Rattle.legal_runs.proofs.WrittenRefusals.{reply_written}

-- ---- lists

few_lines : (sessions : List (List NumberedLine)) (s : ℕ) (lines : List NumberedLine) → slice_get sessions s ≡ Some lines
    → length lines ≤ command_count sessions
few_lines [] s lines at = absurd cc
few_lines (session ∷ sessions) zero lines at =
    let same : length session ≡ length lines = ap length (same_Some session lines at) in
    omega (arith, same, sum_by-cons (λ (ls : List NumberedLine). length ls) session sessions)
few_lines (session ∷ sessions) (suc s) lines at =
    omega (arith, few_lines sessions s lines at, sum_by-cons (λ (ls : List NumberedLine). length ls) session sessions)

sessions_counted : (g : Ground) (history : List SplitEntry) (sessions : List (List NumberedLine)) (all : List (List ReplyLine))
    → AllZip (AreReplyLines g history) sessions all → replies_of all ≡ command_count sessions
sessions_counted g history [] [] h = refl
sessions_counted g history [] (told ∷ all) h = absurd h
sessions_counted g history (lines ∷ sessions) [] h = absurd h
sessions_counted g history (lines ∷ sessions) (told ∷ all) h = omega (
  arith,
  sum_by-cons (λ (rs : List ReplyLine). length rs) told all,
  sum_by-cons (λ (ls : List NumberedLine). length ls) lines sessions,
  lines_counted g history 1 lines told h.0,
  sessions_counted g history sessions all h.1,
)

-- ---- polynomials

residue_below : (p : ℕ) (z : ℤ) → 0 < p → residue_of p z < p
residue_below zero z positive = absurd (omega arith)
residue_below (suc n) z positive = residue-lt n z

polynomial_well : (p : ℕ) (zs : List ℤ) → 0 < p → 0 < length zs → length zs ≤ MAX_COEFFICIENTS → is_polynomial p (map (residue_of p) zs) ≡ true
polynomial_well p zs positive some few =
    let poly = map (residue_of p) zs in
    let count : length poly ≡ length zs = length-map zs (residue_of p) in
    and_from (nat_le 1 (length poly) && nat_le (length poly) MAX_COEFFICIENTS) (list_all (λ x. nat_lt x p) poly)
    (and_from (nat_le 1 (length poly)) (nat_le (length poly) MAX_COEFFICIENTS) (le-leb 1 (length poly) (omega (arith, count, some)))
    (le-leb (length poly) MAX_COEFFICIENTS (omega (arith, count, few))))
    (list_all-from_AllPass (λ x. nat_lt x p) poly (All-map (λ x. nat_lt x p ≡ true) (residue_of p) zs
    (λ k d l. lt-ltb (residue_of p (get_or zs k d)) p (residue_below p (get_or zs k d) positive))))

space_well : (space : SpaceLine) (t : Transcript) → IsSpace space → t.modulus ≡ space.modulus → t.characteristic ≡ space.characteristic
    → t.symbols ≡ length (symbols space.modulus) → is_space t.modulus t.characteristic t.symbols ≡ true
space_well space t is modulus characteristic count =
    let n = t.modulus in
    and_from (nat_le 1 n && nat_le n MAX_LEVEL && is_listed t.characteristic) (t.symbols == length (symbols n))
    (and_from (nat_le 1 n && nat_le n MAX_LEVEL) (is_listed t.characteristic)
    (and_from (nat_le 1 n) (nat_le n MAX_LEVEL) (le-leb 1 n (omega (arith, is.least, modulus))) (le-leb n MAX_LEVEL (omega (arith, is.most, modulus))))
    (subst IsListed (sym characteristic) is.listed))
    (eq-eqb t.symbols (length (symbols n)) (count ∙ ap (λ m. length (symbols m)) (sym modulus)))

module _ (text : List ℕ) (script : ScriptText) (t : Transcript) (short : IsShort text) (read : IsReadScript text script)
    (legal : IsLegalTranscript script t) where
  abbrev g : Ground
  g = script_ground script

  listed : IsListed script.space.characteristic
  listed = read.limits.is_space.listed

  ground : IsGround g
  ground = space_ground script.space read.limits.is_space

  line_well : (line : NumberedLine) → IsLineWithin (length text) line → IsReadWell (command_of line.text)
  line_well line within = read_well line.text (omega (arith, within, short))

  -- ---- entries

  record IsEntryWell (e : SplitEntry) : Type 0 where
    indexed : IsIndexed e.op
    rules : is_entry script.space.characteristic e ≡ true

  entry_well : (w : ℕ) (e : SplitEntry) → slice_get t.history w ≡ Some e → IsEntryWell e
  entry_well w e at =
      let (s, c, line, r, answered, version, entry) = legal.entries w e at in
      let told : IsReplyLine g t.history (1 + c, line) r = reply_line script t legal s c line r answered in
      let within : IsLineWithin (length text) line = all_there (IsLineWithin (length text)) answered.lines c line
      (all_there (All (IsLineWithin (length text))) script.sessions s answered.lines read.within answered.session) answered.command in
      let well = subst IsReadWell entry.split (line_well line within) in
      let in_session : s < length script.sessions = slice_get_within script.sessions s answered.lines answered.session in
      let in_lines : c < length answered.lines = slice_get_within answered.lines c line answered.command in
      let few = few_lines script.sessions s answered.lines answered.session in
      let session_small : e.session < 2 ^ 32 = omega (arith, entry.session, in_session, read.limits.few_sessions) in
      let command_small : e.command < 2 ^ 32 = omega (arith, entry.command, told.numbered, in_lines, few, read.limits.few_commands) in
      let poly : is_polynomial script.space.characteristic e.poly ≡ true =
      subst (λ f. is_polynomial script.space.characteristic f ≡ true) (sym entry.polynomial)
      (polynomial_well script.space.characteristic entry.coefficients (omega (arith, listed_above_one script.space.characteristic listed)) well.1
      well.0.1) in
      record {
        indexed = well.0.0;
        rules = and_from (is_small e.session && is_small e.command && is_lexeme (operator_lexeme e.op)) (is_polynomial script.space.characteristic e.poly)
            (and_from (is_small e.session && is_small e.command) (is_lexeme (operator_lexeme e.op))
            (and_from (is_small e.session) (is_small e.command) (small e.session session_small) (small e.command command_small))
            (operator e.op well.0.0)) poly;
      }

  history_indexed : All (λ (e : SplitEntry). IsIndexed e.op) t.history
  history_indexed = λ w d l. (entry_well w (get_or t.history w d) (slice_get-get_or t.history w d l)).indexed

  -- ---- replies

  names_indexed : (v : ℕ) (s : Decomposition) → IsVersion g (take v t.history) s → All IsIndexed s.names
  names_indexed v s version =
      let past = take v t.history in
      let lists = version_lists g past s version in
      let ops : All IsIndexed (operators past) = All-map IsIndexed (λ (e : SplitEntry). e.op) past
      (All-take (λ (e : SplitEntry). IsIndexed e.op) v t.history history_indexed) in
      λ k d l. All-contains IsIndexed (operators past) (get_or s.names k d) ops
      ((lists.named (get_or s.names k d)).0 (Contains-get_or s.names k d l))

  versioned : (v : ℕ) (s : Decomposition) → v ≤ length t.history → IsVersion g (take v t.history) s → IsVersioned g (length (take v t.history)) s
  versioned v s l version = record {
    few = omega (arith, l, length-take-le v t.history l, legal.few);
    splits = (history_versions script t listed legal).splitting v s l version;
    characteristic = version_characteristic g (take v t.history) s version;
    dim = version_dim g (take v t.history) s version;
    names = names_indexed v s version;
  }

  line_written : (line : ℕ × NumberedLine) (r : ReplyLine) → IsLineWithin (length text) line.1 → IsReplyLine g t.history line r
      → is_written r.reply ≡ true
  line_written line r within h = elim h.reply [
    | inl reply ↦ reply_written g ground (length (take r.version t.history)) reply.splitting line.1.text r.reply
        (versioned r.version reply.splitting h.version reply.version) (line_well line.1 within) reply.reply_at
    | inr memory ↦ ap is_written memory
  ]

  lines_numbered : (n : ℕ) (lines : List NumberedLine) (told : List ReplyLine) → All (IsLineWithin (length text)) lines
      → AllZip (IsReplyLine g t.history) (enumerate_from n lines) told → AreNumbered n told
  lines_numbered n [] [] within h = tt
  lines_numbered n [] (r ∷ told) within h = absurd h
  lines_numbered n (line ∷ lines) [] within h = absurd h
  lines_numbered n (line ∷ lines) (r ∷ told) within h =
      let step : n + 1 ≡ suc n = omega arith in (
        h.0.numbered,
        omega (arith, h.0.version, legal.few),
        line_written (n, line) r (All-head (IsLineWithin (length text)) line lines within) h.0,
        subst (λ m. AreNumbered m told) step
            (lines_numbered (n + 1) lines told (All-tail (IsLineWithin (length text)) line lines within) h.1),
      )

  sessions_numbered : (sessions : List (List NumberedLine)) (all : List (List ReplyLine)) → All (All (IsLineWithin (length text))) sessions
      → AllZip (AreReplyLines g t.history) sessions all → AllByRecursion (AreNumbered 1) all
  sessions_numbered [] [] within h = tt
  sessions_numbered [] (told ∷ all) within h = absurd h
  sessions_numbered (lines ∷ sessions) [] within h = absurd h
  sessions_numbered (lines ∷ sessions) (told ∷ all) within h = (
    lines_numbered 1 lines told (All-head (All (IsLineWithin (length text))) lines sessions within) h.0,
    sessions_numbered sessions all (All-tail (All (IsLineWithin (length text))) lines sessions within) h.1,
  )

  -- ---- all rules

  pub legal_rules : t.columns < 2 ^ 64 → IsTranscript t
  legal_rules few = record {
    space = space_well script.space t read.limits.is_space legal.modulus legal.characteristic legal.symbol_count;
    sessions = omega (arith, AllZip-long (AreReplyLines g t.history) script.sessions t.sessions legal.sessions, read.limits.few_sessions);
    replies = omega (arith, sessions_counted g t.history script.sessions t.sessions legal.sessions, read.limits.few_commands);
    numbered = sessions_numbered script.sessions t.sessions read.within legal.sessions;
    history = legal.few;
    entries = recursion_from_All (λ (e : SplitEntry). is_entry t.characteristic e ≡ true) t.history
        (λ w d l. subst (λ p. is_entry p (get_or t.history w d) ≡ true) (sym legal.characteristic)
        (entry_well w (get_or t.history w d) (slice_get-get_or t.history w d l)).rules);
    columns = few;
  }
