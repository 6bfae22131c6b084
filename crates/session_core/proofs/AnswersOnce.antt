-- A command line has one reply after a history, and one history after it.
use Rattle.std.proofs.Common.{◌≡◌, inl, inr, ℕ, ℤ, ◌+◌, List, [], ◌∷◌, ◌++◌, length, map, Option, None, Some, Result, Ok, Err, refl, sym, ◌∙◌, ap, subst}
use Rattle.std.proofs.lemmas.Option.{same_Some}
use Rattle.linear_algebra.specs.Integers.{residue_of}
use Rattle.linear_algebra.specs.Prime.{IsPrime}
use Rattle.linear_algebra.specs.Vector.{Vector}
use Rattle.linear_algebra.proofs.DenseLaws.{dense-injective}
use Rattle.field_table.specs.Table.{IsListed}
use Rattle.field_table.proofs.TableFacts.{listed_prime}
use Rattle.heilbronn_sets.specs.Merel.{merel_matrices}
use Rattle.hecke_columns.specs.Hecke.{merel_sum}
use Rattle.hecke_ops.specs.Operators.{IsFirstFailing}
use Rattle.hecke_ops.proofs.FirstFailing.{failing_once, failing_or_keeps, failing_values}
use Rattle.star_map.specs.Star.{star}
use Rattle.quotient_coords.specs.Quotient.{Ground}
use Rattle.quotient_coords.proofs.Unique.{coordinates_same, trace_same}
use Rattle.dense_mat.specs.Subspace.{Subspace}
use Rattle.op_polynomials.specs.declared.entry.SplitEntry.{SplitEntry}
use Rattle.op_polynomials.specs.declared.name.OpName.{OpName}
use Rattle.op_polynomials.specs.declared.name.OpName.TheVariants as ops
use Rattle.split_state.specs.Decomposition.{Decomposition}
use Rattle.split_state.proofs.Unique.{step_once}
use Rattle.split_state.proofs.FirstDifferences.{among_once, none_where_listed_agree}
use Rattle.split_state.proofs.Versions.{operator_matrix_once, version_once, version_lists, version_characteristic}
use Rattle.script_text.specs.declared.command.Command.{Command}
use Rattle.script_text.specs.declared.command.Command.TheVariants as commands
use Rattle.script_text.specs.declared.command_fault.CommandFault.{CommandFault}
use Rattle.script_text.specs.Commands.{command_of}
use Rattle.reply_text.specs.declared.refusal.Refusal.{Refusal}
use Rattle.reply_text.specs.declared.refusal.Refusal.TheVariants as refusals
use Rattle.reply_text.specs.declared.reply.Reply.{Reply}
use Rattle.reply_text.specs.declared.reply.Reply.TheVariants as replies
use Rattle.reply_text.specs.declared.transcript.ReplyLine.{ReplyLine}
use Rattle.session_core.specs.Terms.{combination, vector_of}
use Rattle.session_core.specs.Refusals.{line_refusal}
use Rattle.session_core.specs.Answers.{TellsCoordinates, TellsCertificate, TellsBoundary, TellsCommutator, TellsVersion, TellsSplit, TellsPart, part_sizes, IsAnswer}
use Rattle.session_core.specs.Operators.{TellsRelation, AnswersBy, TellsVector, TellsTrace, TellsImage, TellsValue}
use Rattle.session_core.specs.Replies.{UnlessRefused, IsAnswerTo, IsReplyAt, IsReply}
use Rattle.session_core.specs.Transcripts.{IsEntry}
use Rattle.session_core.specs.SoloRuns.{IsHistoryAfter, grown, unchanged}

-- coordinates are told in one way
told_once : (g : Ground) → IsPrime g.characteristic → (x : Vector g.characteristic) (r s : Reply) → TellsCoordinates g x r
    → TellsCoordinates g x s → r ≡ s
told_once g prime x r s h k = h.1 ∙ ap replies.Coords (coordinates_same prime g.level x h.0 k.0 h.2 k.2) ∙ sym k.1

-- and so are certificates
certificate_once : (g : Ground) → IsPrime g.characteristic → (terms : List (ℕ × ℕ)) (r s : Reply) → TellsCertificate g terms r
    → TellsCertificate g terms s → r ≡ s
certificate_once g prime terms r s h k =
    h.told
    ∙ ap (λ values. replies.Certified values h.coefficients) (coordinates_same prime g.level _ h.values k.values h.coordinates k.coordinates)
    ∙ ap (λ kept. replies.Certified k.values kept) (trace_same g terms h.coefficients k.coefficients prime h.kept k.kept)
    ∙ sym k.told

-- and so are boundaries
boundary_once : (g : Ground) (x : Vector g.characteristic) (r s : Reply) → TellsBoundary g x r → TellsBoundary g x s → r ≡ s
boundary_once g x r s h k =
    h.told
    ∙ ap replies.Boundary (dense-injective g.characteristic h.values k.values (h.count ∙ sym k.count) h.residues k.residues (h.vector ∙ sym k.vector))
    ∙ sym k.told

-- a vector is told in one way
vector_once : (g : Ground) (v : Vector g.characteristic) (r s : Reply) → TellsVector g v r → TellsVector g v s → r ≡ s
vector_once g v r s h k =
    h.told
    ∙ ap replies.Coords (dense-injective g.characteristic h.values k.values (h.count ∙ sym k.count) h.residues k.residues (h.vector ∙ sym k.vector))
    ∙ sym k.told

-- and so is the first relation that fails
relation_once : (g : Ground) → IsPrime g.characteristic → (n : ℕ) (r s : Reply) → TellsRelation g n r → TellsRelation g n s → r ≡ s
relation_once g prime n r s h k =
    let same : h.number ≡ k.number = failing_once prime h.first k.first in
    let values : h.coords ≡ k.coords =
    failing_values prime (subst (λ i. IsFirstFailing g.level g.characteristic (merel_matrices n) i h.coords) same h.first) k.first in
    h.told
    ∙ ap (λ i. replies.Refused (refusals.Relation i h.coords)) same
    ∙ ap (λ coords. replies.Refused (refusals.Relation k.number coords)) values
    ∙ sym k.told

-- what an operator answers is one reply, where it is one for its matrix
operator_once : (g : Ground) → IsPrime g.characteristic → (op : OpName) (P : List (List ℕ) → Reply → Type 0) (r s : Reply)
    → ((columns : List (List ℕ)) (a b : Reply) → P columns a → P columns b → a ≡ b)
    → AnswersBy g op P r → AnswersBy g op P s → r ≡ s
operator_once g prime (ops.T n) P r s once (inl h) (inl k) = relation_once g prime n r s h k
operator_once g prime (ops.T n) P r s once (inl h) (inr k) = absurd (failing_or_keeps prime h.first k.keeps)
operator_once g prime (ops.T n) P r s once (inr h) (inl k) = absurd (failing_or_keeps prime k.first h.keeps)
operator_once g prime ops.Star P r s once (inl h) k = absurd h
operator_once g prime ops.Star P r s once (inr h) (inl k) = absurd k
operator_once g prime op P r s once (inr h) (inr k) =
    once h.columns r s h.told (subst (λ columns. P columns s) (operator_matrix_once g prime op k.columns h.columns k.matrix h.matrix) k.told)

-- the first difference from the listed operators is told in one way
commutator_once : (s : Decomposition) → length s.matrices ≡ length s.names → (columns : List (List ℕ)) (r t : Reply) → TellsCommutator s columns r
    → TellsCommutator s columns t → r ≡ t
commutator_once s many columns r t h k =
    let (name, row, place, left, right) = among_once s.characteristic columns s.names s.matrices many h.other k.other h.row h.column h.left h.right
    k.row k.column k.left k.right h.first k.first in
    let same : ◌≡◌ {A = Reply} (replies.Refused (refusals.Commutator h.other h.row h.column h.left h.right))
    (replies.Refused (refusals.Commutator k.other k.row k.column k.left k.right)) =
    λ i. replies.Refused (refusals.Commutator (name i) (row i) (place i) (left i) (right i)) in
    h.told ∙ same ∙ sym k.told

-- and so is the splitting that a split makes
next_once : (v : ℕ) (s : Decomposition) → IsListed s.characteristic → (op : OpName) (f : List ℕ) (columns : List (List ℕ)) (r t : Reply)
    → TellsVersion v s op f columns r → TellsVersion v s op f columns t → r ≡ t
next_once v s listed op f columns r t h k =
    h.told
    ∙ ap (λ next. replies.Version (v + 1) (part_sizes next)) (step_once s op columns f h.next k.next listed h.is_next.step k.is_next.step)
    ∙ sym k.told

-- a split is answered in one way
split_once : (v : ℕ) (s : Decomposition) → IsListed s.characteristic → length s.matrices ≡ length s.names → (op : OpName) (f : List ℕ)
    (columns : List (List ℕ)) (r t : Reply)
    → TellsSplit v s op f columns r → TellsSplit v s op f columns t → r ≡ t
split_once v s listed many op f columns r t (inl h) (inl k) = commutator_once s many columns r t h k
split_once v s listed many op f columns r t (inl h) (inr k) =
    absurd (none_where_listed_agree s columns h.other h.row h.column h.left h.right k.is_next.agrees h.first)
split_once v s listed many op f columns r t (inr h) (inl k) =
    absurd (none_where_listed_agree s columns k.other k.row k.column k.left k.right h.is_next.agrees k.first)
split_once v s listed many op f columns r t (inr h) (inr k) = next_once v s listed op f columns r t h k

-- and so is the basis of a part
part_once : (s : Decomposition) (number : ℕ) (r t : Reply) → TellsPart s number r → TellsPart s number t → r ≡ t
part_once s number r t h k =
    h.told ∙ ap (λ (part : Subspace). replies.Rows part.rows) (same_Some h.part k.part (sym h.at_number ∙ k.at_number)) ∙ sym k.told

-- a command has one answer
answer_once : (g : Ground) (v : ℕ) (s : Decomposition) → IsPrime g.characteristic → IsListed s.characteristic → length s.matrices ≡ length s.names
    → (command : Command) (r t : Reply) → IsAnswer g v s command r → IsAnswer g v s command t → r ≡ t
answer_once g v s prime listed many (commands.Normal a b) r t h k = h ∙ sym k
answer_once g v s prime listed many commands.Basis r t h k = h ∙ sym k
answer_once g v s prime listed many (commands.Reduce terms) r t h k = told_once g prime (vector_of g terms) r t h k
answer_once g v s prime listed many (commands.Certify terms) r t h k = certificate_once g prime (combination g terms) r t h k
answer_once g v s prime listed many (commands.Image n terms) r t h k = told_once g prime (merel_sum g.level n (vector_of g terms)) r t h k
answer_once g v s prime listed many (commands.Star terms) r t h k = told_once g prime (star g.level (vector_of g terms)) r t h k
answer_once g v s prime listed many (commands.Boundary terms) r t h k = boundary_once g (vector_of g terms) r t h k
answer_once g v s prime listed many commands.Cusps r t h k = h ∙ sym k
answer_once g v s prime listed many (commands.Operator op) r t h k = operator_once g prime op (TellsTrace g) r t (λ columns a b x y. x ∙ sym y) h k
answer_once g v s prime listed many (commands.Apply op coords) r t h k =
    operator_once g prime op (TellsImage g coords) r t (λ columns a b x y. vector_once g _ a b x y) h k
answer_once g v s prime listed many (commands.Poly op coefficients coords) r t h k =
    operator_once g prime op (TellsValue g coefficients coords) r t (λ columns a b x y. vector_once g _ a b x y) h k
answer_once g v s prime listed many (commands.Split op coefficients) r t h k =
    operator_once g prime op (TellsSplit v s op (map (residue_of g.characteristic) coefficients)) r t
    (λ columns a b x y. split_once v s listed many op (map (residue_of g.characteristic) coefficients) columns a b x y) h k
answer_once g v s prime listed many commands.Show r t h k = h ∙ sym k
answer_once g v s prime listed many (commands.Part number) r t h k = part_once s number r t h k
answer_once g v s prime listed many (commands.Chains n) r t h k = h ∙ sym k

-- what a line is read as has one answer
reading_once : (g : Ground) (v : ℕ) (s : Decomposition) → IsPrime g.characteristic → IsListed s.characteristic → length s.matrices ≡ length s.names
    → (reading : Result Command CommandFault) (r t : Reply) → IsAnswerTo g v s reading r → IsAnswerTo g v s reading t → r ≡ t
reading_once g v s prime listed many (Ok command) r t h k = answer_once g v s prime listed many command r t h k
reading_once g v s prime listed many (Err fault) r t h k = absurd h

-- a refusal is one reply, and else the answer is
unless_once : (refusal : Option Refusal) (A B : Type 0) (r s : Reply) → (A → B → r ≡ s) → UnlessRefused refusal A r → UnlessRefused refusal B s
    → r ≡ s
unless_once None A B r s once h k = once h k
unless_once (Some refusal) A B r s once h k = h ∙ sym k

-- a command line has one reply
pub reply_once : (g : Ground) (history : List SplitEntry) → IsListed g.characteristic → (text : List ℕ) (r t : Reply) → IsReply g history text r
    → IsReply g history text t → r ≡ t
reply_once g history listed text r t h k =
    let same : k.splitting ≡ h.splitting = version_once g listed history k.splitting h.splitting k.version h.version in
    let here : IsListed h.splitting.characteristic =
    subst IsListed (sym (version_characteristic g history h.splitting h.version)) listed in
    let many : length h.splitting.matrices ≡ length h.splitting.names = (version_lists g history h.splitting h.version).many in
    unless_once (line_refusal g (length history) (length h.splitting.parts) text)
    (IsAnswerTo g (length history) h.splitting (command_of text) r) (IsAnswerTo g (length history) h.splitting (command_of text) t) r t
    (reading_once g (length history) h.splitting (listed_prime g.characteristic listed) here many (command_of text) r t)
    h.reply_at (subst (λ s. IsReplyAt g (length history) s text t) same k.reply_at)

-- a line is read as one split
split_read_once : (op other : OpName) (c d : List ℤ)
    → ◌≡◌ {A = Result Command CommandFault} (Ok (commands.Split op c)) (Ok (commands.Split other d)) → (op ≡ other) × (c ≡ d)
split_read_once op other c d e = (cc, cc)

-- entries with the same parts are the same
same_entry : (a b : SplitEntry) → a.session ≡ b.session → a.command ≡ b.command → a.op ≡ b.op → a.poly ≡ b.poly → a ≡ b
same_entry a b session command op poly = λ i. record { session = session i; command = command i; op = op i; poly = poly i }

-- an accepted split has one entry
entry_once : (g : Ground) (session : ℕ) (text : List ℕ) (r : ReplyLine) (a b : SplitEntry) → IsEntry g session text r a → IsEntry g session text r b
    → a ≡ b
entry_once g session text r a b h k =
    let (op, coefficients) = split_read_once a.op b.op h.coefficients k.coefficients (sym h.split ∙ k.split) in
    same_entry a b (h.session ∙ sym k.session) (h.command ∙ sym k.command) op
    (h.polynomial ∙ ap (map (residue_of g.characteristic)) coefficients ∙ sym k.polynomial)

-- so one history follows a reply line
pub after_once : {g : Ground} {session : ℕ} {text : List ℕ} {r : ReplyLine} {old new other : List SplitEntry}
    → IsHistoryAfter g session text r old new → IsHistoryAfter g session text r old other → new ≡ other
after_once {g = g} {session = session} {text = text} {r = r} {old = old} (grown {e = a} h) (grown {e = b} k) =
    ap (λ (e : SplitEntry). old ++ e ∷ []) (entry_once g session text r a b h k)
after_once (grown h) (unchanged none) = absurd (none h.accepted)
after_once (unchanged none) (grown k) = absurd (none k.accepted)
after_once (unchanged none) (unchanged still) = refl
