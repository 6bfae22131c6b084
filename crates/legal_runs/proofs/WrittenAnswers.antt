-- Each number that stands in an answer is below 2^32.
use Rattle.std.proofs.Common.{◌≡◌, ◌<◌, ◌≤◌, ◌+◌, ◌-◌, ◌*◌, inl, inr, ℕ, pos, true, List, [], ◌∷◌, ◌++◌, length, map, All, get_or, refl, ap}
use Rattle.std.proofs.Common.{◌∙◌, subst, arith}
use Rattle.std.specs.List.{list_all}
use Rattle.std.specs.Ordering.{int_eq}
use Rattle.std.proofs.Math.Nat.{mod-lt}
use Rattle.std.proofs.lemmas.Bool.{and_from}
use Rattle.std.proofs.lemmas.List.{length-map}
use Rattle.std.proofs.lemmas.List.Elements.{All-cons, All-from_get_or, All-head, All-nil, All-tail}
use Rattle.std.proofs.lemmas.List.Sums.{count_by-le-length, length-filter, list_all-from_AllPass}
use Rattle.std.proofs.lemmas.Option.{get_or_from_slice_get, slice_get_within}
use Rattle.linear_algebra.specs.Dense.{dense_rows}
use Rattle.linear_algebra.specs.Integers.{residue_of}
use Rattle.linear_algebra.specs.Prime.{IsPrime}
use Rattle.linear_algebra.specs.Span.{Each, InSpan}
use Rattle.field_table.specs.Residues.{AreResidues}
use Rattle.field_table.proofs.TableFacts.{listed_above_one, listed_prime}
use Rattle.p1_normal.specs.declared.level.TheConstants.{MAX_LEVEL}
use Rattle.p1_normal.specs.Points.{reduced, symbol_at, symbols}
use Rattle.p1_normal.proofs.NormalForms.{IsBelow-normal_form}
use Rattle.heilbronn_sets.specs.Merel.{merel_matrices, starts}
use Rattle.heilbronn_chains.proofs.NoFault.{merel_few}
use Rattle.cusps_boundary.specs.Cusps.{cusps}
use Rattle.cusps_boundary.proofs.CuspNumbers.{cusps_below, length-cusps}
use Rattle.quotient_coords.specs.Quotient.{Ground, dimension, free_symbols}
use Rattle.quotient_coords.proofs.Spaces.{free_symbols_below}
use Rattle.dense_mat.specs.Echelon.{AreRows}
use Rattle.dense_mat.specs.Matrix.{trace_of}
use Rattle.dense_mat.specs.Subspace.{Subspace, IsBasisOf}
use Rattle.dense_mat.proofs.Bases.{few_of-basis}
use Rattle.op_polynomials.specs.declared.name.OpName.{OpName}
use Rattle.op_polynomials.specs.declared.name.OpName.TheVariants as ops
use Rattle.split_state.specs.Decomposition.{Decomposition, IsNonzero, IsSplitting}
use Rattle.split_state.specs.Versions.{IsOperatorMatrix}
use Rattle.split_state.proofs.Keeping.{Each-get_or}
use Rattle.split_state.proofs.Steps.{split_bases}
use Rattle.script_text.specs.declared.command.Command.{Command}
use Rattle.script_text.specs.declared.command.Command.TheVariants as commands
use Rattle.script_text.specs.Commands.{IsIndexed, IsWithin}
use Rattle.reply_text.specs.declared.limits.TheConstants.{MAX_VERSIONS}
use Rattle.reply_text.specs.declared.lexeme.Lexeme.TheVariants as lexs
use Rattle.reply_text.specs.declared.word.Word.TheVariants as words
use Rattle.reply_text.specs.declared.refusal.Refusal.{Refusal}
use Rattle.reply_text.specs.declared.refusal.Refusal.TheVariants as refusals
use Rattle.reply_text.specs.declared.reply.Reply.{Reply}
use Rattle.reply_text.specs.declared.reply.Reply.TheVariants as replies
use Rattle.reply_text.specs.Rules.{is_written}
use Rattle.reply_text.specs.Lexemes.{is_lexeme}
use Rattle.reply_text.specs.Wordings.{number_lexemes, operator_lexeme, operator_lexemes, pair_lexemes, refusal_lexemes, reply_lexemes}
use Rattle.reply_text.specs.Wordings.{symbol_lexemes, is_some_row, are_rows, has_rows}
use Rattle.session_core.specs.Answers.{IsAnswer, TellsCommutator, TellsSplit, part_sizes}
use Rattle.session_core.specs.Operators.{AnswersBy, TellsRelation, TellsTrace, TellsImage, TellsValue}
use Rattle.session_core.specs.Terms.{pair, symbol_of}
use Rattle.legal_runs.proofs.GroundSizes.{IsGround, few_symbols, few_dimensions, point_small, symbols_small, residue_small, residues_small}
use Rattle.legal_runs.proofs.GroundSizes.{terms_small, sizes_few}
use Rattle.legal_runs.proofs.WrittenLexemes.{IsSmall, IsSmallPoint, IsSmallPair, AreLexemes, joined, next, number, numbers, operator}
use Rattle.legal_runs.proofs.WrittenLexemes.{operators, pairs, rows, symbols as symbol_list}

abbrev pub IsWritten : Reply → Type 0
IsWritten reply = is_written reply ≡ true

-- a version of the space at a ground, whose operators have indices within their limits
pub record IsVersioned (g : Ground) (v : ℕ) (s : Decomposition) : Type 0 where
  pub few : v ≤ MAX_VERSIONS
  pub splits : IsSplitting s
  pub characteristic : s.characteristic ≡ g.characteristic
  pub dim : s.dim ≡ dimension g.level g.characteristic
  pub names : All IsIndexed s.names

-- ---- rows

some_row : (row : List ℕ) → 0 < length row → is_some_row row ≡ true
some_row [] l = absurd (omega arith)
some_row (x ∷ row) l = refl

rows_there : (p d : ℕ) (rs : List (List ℕ)) → AreRows p d rs → length rs ≤ d → (rs ≡ [] → ⊥) → are_rows rs ≡ true
rows_there p d [] are few some = absurd (some refl)
rows_there p d (row ∷ rs) are few some =
    and_from (is_some_row row) (list_all is_some_row rs)
    (some_row row (let e : length row ≡ d = All-head (λ r. length r ≡ d) row rs are.sized in omega (arith, e, few)))
    (list_all-from_AllPass is_some_row rs (λ k x l. some_row (get_or rs k x)
    (let e : length (get_or rs k x) ≡ d = All-tail (λ r. length r ≡ d) row rs are.sized k x l in omega (arith, e, few))))

-- ---- answers

module _ (g : Ground) (is : IsGround g) where
  told : (reply other : Reply) → reply ≡ other → IsWritten other → IsWritten reply
  told reply other same h = ap is_written same ∙ h

  written : (reply : Reply) → list_all is_lexeme (reply_lexemes reply) ≡ true → has_rows reply ≡ true → IsWritten reply
  written reply h some = and_from (list_all is_lexeme (reply_lexemes reply)) (has_rows reply) h some

  coords_written : (reply : Reply) (values : List ℕ) → reply ≡ replies.Coords values → All IsSmall values → IsWritten reply
  coords_written reply values same h = told reply (replies.Coords values) same (written (replies.Coords values) (numbers values h) refl)

  -- a refusal
  pub refused_written : (reply : Reply) (refusal : Refusal) → reply ≡ replies.Refused refusal → AreLexemes (refusal_lexemes refusal) → IsWritten reply
  refused_written reply refusal same h = told reply (replies.Refused refusal) same (written (replies.Refused refusal) h refl)

  relation_written : (n : ℕ) (reply : Reply) → TellsRelation g n reply → IsWritten reply
  relation_written n reply h =
      refused_written reply (refusals.Relation h.number h.coords) h.told
      (number h.number (number_lexemes h.coords) (omega (arith, h.first.within, few_symbols g is))
      (numbers h.coords (residues_small g is h.coords h.first.coordinates.residues)))

  operator_written : (op : OpName) (P : List (List ℕ) → Reply → Type 0) (reply : Reply)
      → ((columns : List (List ℕ)) → IsOperatorMatrix g op columns → P columns reply → IsWritten reply) → AnswersBy g op P reply → IsWritten reply
  operator_written (ops.T n) P reply by (inl h) = relation_written n reply h
  operator_written ops.Star P reply by (inl h) = absurd h
  operator_written op P reply by (inr h) = by h.columns h.matrix h.told

  columns_count : (op : OpName) (columns : List (List ℕ)) → IsOperatorMatrix g op columns → length columns ≡ dimension g.level g.characteristic
  columns_count (ops.T n) columns h = h.count
  columns_count ops.Star columns h = h.count

  trace_written : (columns : List (List ℕ)) (reply : Reply)
      → reply ≡ replies.Operator (dimension g.level g.characteristic) (trace_of g.characteristic columns) → IsWritten reply
  trace_written columns reply same =
      let trace = trace_of g.characteristic columns in
      let d = dimension g.level g.characteristic in
      let positive : 0 < g.characteristic = omega (arith, listed_above_one g.characteristic is.listed) in
      let below : trace < g.characteristic = mod-lt _ positive in
      told reply (replies.Operator d trace) same
      (written (replies.Operator d trace) (number d (lexs.Word words.Trace ∷ lexs.Number trace ∷ []) (omega (arith, few_dimensions g is))
      (number trace [] (residue_small g is trace below) refl)) refl)

  module _ (v : ℕ) (s : Decomposition) (at : IsVersioned g v s) where
    small_dim : s.dim ≤ MAX_LEVEL * MAX_LEVEL
    small_dim = omega (arith, at.dim, few_dimensions g is)

    prime : IsPrime s.characteristic
    prime = listed_prime s.characteristic at.splits.listed

    sizes_small : (parts : List Subspace) → Each (λ (b : Subspace). IsBasisOf s.characteristic s.dim (InSpan (dense_rows s.characteristic b.rows)) b) parts
        → All IsSmall (map (λ (part : Subspace). length part.rows) parts)
    sizes_small parts bases = λ k d l. omega (arith, sizes_few s.characteristic s.dim prime parts bases k d l, small_dim)

    version_written : (next : Decomposition) (reply : Reply) → reply ≡ replies.Version (v + 1) (part_sizes next)
        → Each (λ (b : Subspace). IsBasisOf s.characteristic s.dim (InSpan (dense_rows s.characteristic b.rows)) b) next.parts → IsWritten reply
    version_written next reply same bases =
        let sizes = part_sizes next in
        told reply (replies.Version (v + 1) sizes) same (written (replies.Version (v + 1) sizes)
        (number (v + 1) (lexs.Word words.Dims ∷ number_lexemes sizes) (omega (arith, at.few)) (numbers sizes (sizes_small next.parts bases))) refl)

    commutator_written : (op : OpName) (columns : List (List ℕ)) (reply : Reply) → IsOperatorMatrix g op columns → TellsCommutator s columns reply
        → IsWritten reply
    commutator_written op columns reply matrix h =
        let count = columns_count op columns matrix in
        let first = h.first in
        let place : first.operator < length s.names = omega (arith, first.within, at.splits.many) in
        let named : IsIndexed h.other = subst IsIndexed first.named (at.names first.operator h.other place) in
        let row_small : IsSmall h.row = omega (arith, first.difference.first.row_within, count, few_dimensions g is) in
        let column_small : IsSmall h.column = omega (arith, first.difference.column_within, count, few_dimensions g is) in
        let left_small : IsSmall h.left = residue_small g is h.left (subst (λ p. h.left < p) at.characteristic first.difference.first.left_below) in
        let right_small : IsSmall h.right = residue_small g is h.right (subst (λ p. h.right < p) at.characteristic first.difference.first.right_below) in
        refused_written reply (refusals.Commutator h.other h.row h.column h.left h.right) h.told
        (next (operator_lexeme h.other) (lexs.Number h.row ∷ lexs.Number h.column ∷ lexs.Number h.left ∷ lexs.Number h.right ∷ [])
        (operator h.other named)
        (number h.row (lexs.Number h.column ∷ lexs.Number h.left ∷ lexs.Number h.right ∷ []) row_small
        (number h.column (lexs.Number h.left ∷ lexs.Number h.right ∷ []) column_small
        (number h.left (lexs.Number h.right ∷ []) left_small (number h.right [] right_small refl)))))

    split_written : (op : OpName) (f : List ℕ) (columns : List (List ℕ)) (reply : Reply) → IsOperatorMatrix g op columns
        → TellsSplit v s op f columns reply → IsWritten reply
    split_written op f columns reply matrix (inl h) = commutator_written op columns reply matrix h
    split_written op f columns reply matrix (inr h) = version_written h.next reply h.told (split_bases h.is_next.step.parts)

    show_written : (reply : Reply) → reply ≡ replies.Splitting v (part_sizes s) s.names → IsWritten reply
    show_written reply same =
        let sizes = part_sizes s in
        told reply (replies.Splitting v sizes s.names) same (written (replies.Splitting v sizes s.names)
        (number v (lexs.Word words.Dims ∷ number_lexemes sizes ++ lexs.Word words.Ops ∷ operator_lexemes s.names) (omega (arith, at.few))
        (joined (number_lexemes sizes) (lexs.Word words.Ops ∷ operator_lexemes s.names) (numbers sizes (sizes_small s.parts at.splits.bases))
        (operators s.names at.names))) refl)

    part_written : (part : Subspace) (reply : Reply) → IsBasisOf s.characteristic s.dim (InSpan (dense_rows s.characteristic part.rows)) part
        → IsNonzero s.characteristic part → reply ≡ replies.Rows part.rows → IsWritten reply
    part_written part reply basis nonzero same =
        let some : part.rows ≡ [] → ⊥ = λ e. nonzero.nonzero
        (subst (λ rs. InSpan (dense_rows s.characteristic rs) nonzero.vector) e nonzero.inside).is_combination in
        let few : length part.rows ≤ s.dim = few_of-basis s.characteristic s.dim prime (InSpan (dense_rows s.characteristic part.rows)) part basis in
        told reply (replies.Rows part.rows) same (written (replies.Rows part.rows)
        (rows part.rows (λ k d l. residues_small g is (get_or part.rows k d)
        (subst (λ p. AreResidues p (get_or part.rows k d)) at.characteristic (basis.rows_of.residues k d l))))
        (rows_there s.characteristic s.dim part.rows basis.rows_of few some))

    certificate_lexemes : (values : List ℕ) (coefficients : List (ℕ × ℕ)) → All IsSmall values → All IsSmallPair coefficients
        → AreLexemes (number_lexemes values ++ lexs.Word words.By ∷ pair_lexemes coefficients)
    certificate_lexemes values coefficients h k =
        joined (number_lexemes values) (lexs.Word words.By ∷ pair_lexemes coefficients) (numbers values h) (pairs coefficients k)

    -- the answer to a command within its limits
    pub answer_written : (command : Command) (reply : Reply) → IsWithin command → IsAnswer g v s command reply → IsWritten reply
    answer_written (commands.Normal a b) reply within h =
        let q = symbol_of g.level (pair a b) in
        let small_q = point_small g is q (IsBelow-normal_form g.level (reduced g.level a b) is.some) in
        told reply (replies.Point q) h (written (replies.Point q) (symbol_list (q ∷ []) (All-cons IsSmallPoint q [] small_q (All-nil IsSmallPoint))) refl)
    answer_written commands.Basis reply within h =
        let ks = free_symbols g.level g.characteristic in
        let points = map (symbol_at g.level) ks in
        told reply (replies.Basis points) h (written (replies.Basis points)
        (number (length points) (symbol_lexemes points) (omega (arith, length-map ks (symbol_at g.level), few_dimensions g is))
        (symbol_list points (symbols_small g is ks (free_symbols_below g.level g.characteristic)))) refl)
    answer_written (commands.Reduce terms) reply within h = coords_written reply h.0 h.1 (residues_small g is h.0 h.2.residues)
    answer_written (commands.Certify terms) reply within h =
        told reply (replies.Certified h.values h.coefficients) h.told (written (replies.Certified h.values h.coefficients)
        (certificate_lexemes h.values h.coefficients (residues_small g is h.values h.coordinates.residues)
        (terms_small g is h.coefficients h.kept.places h.kept.residues)) refl)
    answer_written (commands.Image n terms) reply within h = coords_written reply h.0 h.1 (residues_small g is h.0 h.2.residues)
    answer_written (commands.Star terms) reply within h = coords_written reply h.0 h.1 (residues_small g is h.0 h.2.residues)
    answer_written (commands.Boundary terms) reply within h =
        told reply (replies.Boundary h.values) h.told
        (written (replies.Boundary h.values) (numbers h.values (residues_small g is h.values h.residues)) refl)
    answer_written commands.Cusps reply within h =
        let ks = cusps g.level in
        let points = map (symbol_at g.level) ks in
        told reply (replies.Cusps points) h (written (replies.Cusps points)
        (number (length points) (symbol_lexemes points) (omega (arith, length-map ks (symbol_at g.level), length-cusps g.level, few_symbols g is))
        (symbol_list points (symbols_small g is ks
        (All-from_get_or (λ k. k < length (symbols g.level)) ks 0 (λ c l. cusps_below g.level c l))))) refl)
    answer_written (commands.Operator op) reply within h =
        operator_written op (TellsTrace g) reply (λ columns matrix k. trace_written columns reply k) h
    answer_written (commands.Apply op coords) reply within h =
        operator_written op (TellsImage g coords) reply
        (λ columns matrix k. coords_written reply k.values k.told (residues_small g is k.values k.residues)) h
    answer_written (commands.Poly op coefficients coords) reply within h =
        operator_written op (TellsValue g coefficients coords) reply
        (λ columns matrix k. coords_written reply k.values k.told (residues_small g is k.values k.residues)) h
    answer_written (commands.Split op coefficients) reply within h =
        operator_written op (TellsSplit v s op (map (residue_of g.characteristic) coefficients)) reply
        (λ columns matrix k. split_written op (map (residue_of g.characteristic) coefficients) columns reply matrix k) h
    answer_written commands.Show reply within h = show_written reply h
    answer_written (commands.Part k) reply within h =
        let place : k - 1 < length s.parts = slice_get_within s.parts (k - 1) h.part h.at_number in
        let same : get_or s.parts (k - 1) h.part ≡ h.part = get_or_from_slice_get s.parts (k - 1) h.part h.part h.at_number in
        part_written h.part reply
        (subst (λ (b : Subspace). IsBasisOf s.characteristic s.dim (InSpan (dense_rows s.characteristic b.rows)) b) same
        (Each-get_or s.parts (k - 1) h.part place at.splits.bases))
        (subst (IsNonzero s.characteristic) same (Each-get_or s.parts (k - 1) h.part place at.splits.nonzero)) h.told
    answer_written (commands.Chains n) reply within h =
        let few = merel_few n (merel_matrices n) within.0 within.1 refl in
        let less : length (starts n) ≤ length (merel_matrices n) = omega (
          arith,
          length-filter (λ m. int_eq m.b (pos 0)) (merel_matrices n),
          count_by-le-length (λ m. int_eq m.b (pos 0)) (merel_matrices n),
        ) in
        told reply (replies.Chains (length (starts n)) (length (merel_matrices n))) h
        (written (replies.Chains (length (starts n)) (length (merel_matrices n)))
        (number (length (starts n)) (lexs.Word words.Matrices ∷ lexs.Number (length (merel_matrices n)) ∷ []) (omega (arith, few, less))
        (number (length (merel_matrices n)) [] (omega (arith, few)) refl)) refl)
