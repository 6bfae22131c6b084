-- Answers about numbered terms, and the replies that they make.
use Rattle.std.proofs.Common.{◌≡◌, ◌<◌, ◌≤◌, ◌⊎◌, ◌&&◌, inl, inr, ℕ, ℤ, pos, Bool, true, false, nat_eq, nat_le, if◌then◌else◌, List, [], ◌∷◌, length, get_or, Option, None, Some, Result, Ok, Err, refl, sym, ◌∙◌, ap, subst}
use Rattle.std.proofs.lemmas.Bool.{eqb-true, and_parts, leb-true}
use Rattle.linear_algebra.specs.Vector.{Vector}
use Rattle.linear_algebra.specs.Sparse.{sparse}
use Rattle.linear_algebra.specs.Coordinates.{AreKeptCoefficients}
use Rattle.field_table.specs.Terms.{residue_terms}
use Rattle.p1_normal.specs.declared.matrix.Matrix.{Matrix}
use Rattle.p1_normal.specs.declared.point.Point.{Point}
use Rattle.p1_normal.specs.Points.{common_divisor, reduced, symbol_at}
use Rattle.p1_normal.proofs.Numbers.{symbol_at-number}
use Rattle.quotient_coords.specs.Quotient.{Ground, dimension, AreCoordinates, HasCoordinates, HasKeptCoefficients}
use Rattle.heilbronn_sets.specs.Merel.{merel_matrices}
use Rattle.hecke_columns.specs.Hecke.{hecke_sum}
use Rattle.split_state.specs.Decomposition.{Decomposition}
use Rattle.script_text.specs.declared.command.Command.{Command}
use Rattle.script_text.specs.declared.command.Command.TheVariants as commands
use Rattle.script_text.specs.declared.command_fault.CommandFault.{CommandFault}
use Rattle.script_text.specs.declared.command_fault.CommandFault.TheVariants as faults
use Rattle.script_text.specs.declared.term.Term.{Term}
use Rattle.script_text.specs.Commands.{command_of}
use Rattle.reply_text.specs.declared.refusal.Refusal.{Refusal}
use Rattle.reply_text.specs.declared.refusal.Refusal.TheVariants.{Length, NoPart}
use Rattle.reply_text.specs.declared.reply.Reply.{Reply}
use Rattle.reply_text.specs.declared.reply.Reply.TheVariants as replies
use Rattle.session_core.specs.Terms.{names_point, first_unnamed, symbol_of, symbol_terms, terms_of}
use Rattle.session_core.specs.Refusals.{first_of, unnamed, uncoprime, determinant_of, mislength, coordinate_count, no_part, part_number, full, refusal_of, reading_refusal, line_refusal}
use Rattle.session_core.specs.Answers.{TellsCoordinates, TellsCertificate, TellsBoundary, IsAnswer}
use Rattle.cusps_boundary.specs.Boundary.{boundary}
use Rattle.cusps_boundary.specs.Cusps.{cusps}
use Rattle.star_map.specs.Star.{star}
use Rattle.linear_algebra.specs.Dense.{dense}
use Rattle.field_table.specs.Residues.{AreResidues}
use Rattle.session_core.specs.Demands.{Gathers, Preparation, demand, reading_demand, line_demand}
use Rattle.session_core.specs.Replies.{UnlessRefused, Refuses, IsAccepted, IsAnswerTo, Prepares, Finishes, FinishesReading, FinishesLine}
use Rattle.session_core.specs.declared.outcome.Finish.{Finish}
use Rattle.session_core.specs.declared.outcome.Finish.TheVariants as outcomes
use Rattle.session_core.proofs.PairLemmas.{Adds_refl, Has-nil}

-- the vector of a combination over an equal field
same_vector : {p q : ℕ} (c : List (ℕ × ℕ)) (numbers : List (ℕ × ℤ)) → q ≡ p → sparse q c ≡ sparse q (residue_terms q numbers)
    → sparse p c ≡ sparse p (residue_terms p numbers)
same_vector c numbers field e = subst (λ k. sparse k c ≡ sparse k (residue_terms k numbers)) field e

-- kept relations add up to what an equal vector asks
same_sum : {p : ℕ} {rows : List (Vector p)} {x y lift kept : Vector p} → x ≡ y → AreKeptCoefficients rows x lift kept
    → AreKeptCoefficients rows y lift kept
same_sum {rows = rows} {lift = lift} {kept = kept} e h = subst (λ z. AreKeptCoefficients rows z lift kept) e h

-- coefficients over kept relations are those of an equal vector
same_coefficients : {g : Ground} {c d : List (ℕ × ℕ)} (kept : List (ℕ × ℕ)) → sparse g.characteristic c ≡ sparse g.characteristic d
    → HasKeptCoefficients g c kept → HasKeptCoefficients g d kept
same_coefficients {g} {c} {d} kept e h = record {
  rising = h.rising;
  places = h.places;
  residues = h.residues;
  values = h.values;
  coordinates = subst (λ x. AreCoordinates g.level x h.values) e h.coordinates;
  adds_up = same_sum e h.adds_up;
}

-- the coordinates of a combination are told
pub coordinates_told : (g : Ground) (q : ℕ) (numbers : List (ℕ × ℤ)) (c : List (ℕ × ℕ)) (values : List ℕ) → q ≡ g.characteristic
    → sparse q c ≡ sparse q (residue_terms q numbers)
    → HasCoordinates g c values → TellsCoordinates g (sparse g.characteristic (residue_terms g.characteristic numbers)) (replies.Coords values)
coordinates_told g q numbers c values field vector has = (
  values,
  refl,
  subst (λ x. AreCoordinates g.level x values)
      (same_vector c numbers field vector) has,
)

-- and with their certificate
pub certificate_told : (g : Ground) (q : ℕ) (numbers : List (ℕ × ℤ)) (c kept told : List (ℕ × ℕ)) (values : List ℕ) → q ≡ g.characteristic
    → sparse q c ≡ sparse q (residue_terms q numbers)
    → HasCoordinates g c values → HasKeptCoefficients g c kept → told ≡ kept
    → TellsCertificate g (residue_terms g.characteristic numbers) (replies.Certified values told)
certificate_told g q numbers c kept told values field vector has traced same = record {
  values = values;
  coefficients = told;
  told = refl;
  coordinates = subst (λ x. AreCoordinates g.level x values) (same_vector c numbers field vector) has;
  kept = same_coefficients told (same_vector c numbers field vector) (subst (HasKeptCoefficients g c) (sym same) traced);
}

-- a single term that is named names a point
names_one : (N : ℕ) (t : Term) → first_unnamed N (t ∷ []) ≡ None → common_divisor N (reduced N t.u t.v) ≡ 1
names_one N t h = by (names_point N t) refl h
  where
    by : (b : Bool) → names_point N t ≡ b → first_unnamed N (t ∷ []) ≡ None → common_divisor N (reduced N t.u t.v) ≡ 1
    by true is h = eqb-true (common_divisor N (reduced N t.u t.v)) 1 is
    by false is h = absurd cc

-- the symbol of the one numbered term is its normal form
pub normal_told : (N : ℕ) (t : Term) (numbers : List (ℕ × ℤ)) (symbol : Point) → 0 < N → first_unnamed N (t ∷ []) ≡ None
    → numbers ≡ symbol_terms N (t ∷ []) → symbol ≡ symbol_at N (get_or numbers 0 (0, pos 0)).0
    → ◌≡◌ {A = Reply} (replies.Point symbol) (replies.Point (symbol_of N t))
normal_told N t numbers symbol positive named terms is =
    ap replies.Point (is ∙ ap (λ (ts : List (ℕ × ℤ)). symbol_at N (get_or ts 0 (0, pos 0)).0) terms ∙ symbol_at-number N (reduced N t.u t.v)
    positive (names_one N t named))

-- a command that is not refused has terms that name points
pub named_of : (g : Ground) (v count : ℕ) (command : Command) → refusal_of g v count command ≡ None
    → first_unnamed g.level (terms_of command) ≡ None
named_of g v count command none = by (first_unnamed g.level (terms_of command)) (first_of (uncoprime g.level (determinant_of command))
    (first_of (mislength (dimension g.level g.characteristic) (coordinate_count command))
    (first_of (no_part count (part_number command)) (full v command)))) none
  where
    by : (b : Option ℕ) (c : Option Refusal) → first_of (unnamed b) c ≡ None → b ≡ None
    by None c none = refl
    by (Some i) c none = absurd cc

-- and none of the later refusals
later_none : (a b : Option Refusal) → first_of a b ≡ None → b ≡ None
later_none None b none = none
later_none (Some refusal) b none = absurd cc

first_none : (a b : Option Refusal) → first_of a b ≡ None → a ≡ None
first_none None b none = refl
first_none (Some refusal) b none = absurd cc

-- it gives as many coordinates as the dimension, if it gives any
pub length_of : (g : Ground) (v count : ℕ) (command : Command) (k : ℕ) → refusal_of g v count command ≡ None
    → coordinate_count command ≡ Some k → k ≡ dimension g.level g.characteristic
length_of g v count command k none counts =
    even (nat_eq k (dimension g.level g.characteristic)) (eqb-true k (dimension g.level g.characteristic))
    (subst (λ o. mislength (dimension g.level g.characteristic) o ≡ None) counts
    (first_none (mislength (dimension g.level g.characteristic) (coordinate_count command)) _
    (later_none (uncoprime g.level (determinant_of command)) _
    (later_none (unnamed (first_unnamed g.level (terms_of command))) _ none))))
  where
    even : (b : Bool) → (b ≡ true → k ≡ dimension g.level g.characteristic)
        → (if b then None else Some (Length (dimension g.level g.characteristic) k)) ≡ None → k ≡ dimension g.level g.characteristic
    even true f h = f refl
    even false f h = absurd cc

-- it asks for a part that is there, if it asks for one
pub part_of : (g : Ground) (v count : ℕ) (command : Command) (number : ℕ) → refusal_of g v count command ≡ None
    → part_number command ≡ Some number → (1 ≤ number) × (number ≤ count)
part_of g v count command number none asks =
    there (nat_le 1 number && nat_le number count) refl
    (subst (λ o. no_part count o ≡ None) asks
    (first_none (no_part count (part_number command)) _
    (later_none (mislength (dimension g.level g.characteristic) (coordinate_count command)) _
    (later_none (uncoprime g.level (determinant_of command)) _
    (later_none (unnamed (first_unnamed g.level (terms_of command))) _ none)))))
  where
    there : (b : Bool) → nat_le 1 number && nat_le number count ≡ b → (if b then None else Some (NoPart count)) ≡ None
        → (1 ≤ number) × (number ≤ count)
    there true is h = let (low, high) = and_parts (nat_le 1 number) (nat_le number count) is in (leb-true 1 number low, leb-true number count high)
    there false is h = absurd cc

-- and a split finds room in the history
pub room_of : (g : Ground) (v count : ℕ) (command : Command) → refusal_of g v count command ≡ None → full v command ≡ None
room_of g v count command none =
    later_none (no_part count (part_number command)) _
    (later_none (mislength (dimension g.level g.characteristic) (coordinate_count command)) _
    (later_none (uncoprime g.level (determinant_of command)) _
    (later_none (unnamed (first_unnamed g.level (terms_of command))) _ none)))

-- the answer to an image from a source over Merel's set
pub image_answer : (g : Ground) (v : ℕ) (s : Decomposition) (n : ℕ) (terms : List Term) (numbers : List (ℕ × ℤ)) (L : List Matrix)
    (reply : Reply) → L ≡ merel_matrices n → numbers ≡ symbol_terms g.level terms
    → TellsCoordinates g (hecke_sum g.level L (sparse g.characteristic (residue_terms g.characteristic numbers))) reply
    → IsAnswer g v s (commands.Image n terms) reply
image_answer g v s n terms numbers L reply list same told =
    subst (λ ts. TellsCoordinates g (hecke_sum g.level (merel_matrices n) (sparse g.characteristic (residue_terms g.characteristic ts))) reply) same
    (subst (λ M. TellsCoordinates g (hecke_sum g.level M (sparse g.characteristic (residue_terms g.characteristic numbers))) reply) list told)

-- what a prepared command comes to its line comes to
pub line_finished : (g : Ground) (v : ℕ) (s : Decomposition) (text : List ℕ) (p : Preparation) (finish : Finish)
    → Prepares g v (length s.parts) text p → Finishes g v s p.command finish → FinishesLine g v s text finish
line_finished g v s text p (outcomes.Reply reply) prepared (inr memory) = inr memory
line_finished g v s text p (outcomes.Reply reply) prepared (inl (answer, plain)) = inl (
  subst (λ reading. UnlessRefused (reading_refusal g v (length s.parts) reading) (IsAnswerTo g v s reading reply) reply) (sym prepared.command_is)
      (subst (λ o. UnlessRefused o (IsAnswer g v s p.command reply) reply) (sym prepared.unrefused) answer),
  plain,
)
line_finished g v s text p (outcomes.Split op poly next sizes) prepared finished = (
  subst (λ reading. reading_refusal g v (length s.parts) reading ≡ None) (sym prepared.command_is) prepared.unrefused,
  subst (λ reading. FinishesReading g v s reading (outcomes.Split op poly next sizes)) (sym prepared.command_is) finished,
)

-- a refusal of the line, or want of memory, is what it comes to
pub line_refused : (g : Ground) (v : ℕ) (s : Decomposition) (text : List ℕ) (reply : Reply)
    → Refuses (line_refusal g v (length s.parts) text) reply ⊎ (reply ≡ replies.Memory) → FinishesLine g v s text (outcomes.Reply reply)
line_refused g v s text reply (inr memory) = inr memory
line_refused g v s text reply (inl refused) = inl (by (line_refusal g v (length s.parts) text) refused)
  where
    no_version : (r : Refusal) → reply ≡ replies.Refused r → IsAccepted reply → ⊥
    no_version r same accepted = subst IsAccepted same accepted

    by : (o : Option Refusal) → Refuses o reply
        → UnlessRefused o (IsAnswerTo g v s (command_of text) reply) reply × (IsAccepted reply → ⊥)
    by None refused = absurd refused
    by (Some refusal) refused = (refused, no_version refusal refused)

-- the number of parts refuses no command that demands columns
parts_apart : (g : Ground) (v a b : ℕ) (command : Command) → reading_demand (refusal_of g v a command) g (Ok command)
    ≡ reading_demand (refusal_of g v b command) g (Ok command)
parts_apart g v a b (commands.Part number) = nothing_demanded (refusal_of g v a (commands.Part number)) (refusal_of g v b (commands.Part number))
  where
    nothing_demanded : (o q : Option Refusal) → reading_demand o g (Ok (commands.Part number)) ≡ reading_demand q g (Ok (commands.Part number))
    nothing_demanded None None = refl
    nothing_demanded None (Some r) = refl
    nothing_demanded (Some r) None = refl
    nothing_demanded (Some r) (Some t) = refl
parts_apart g v a b command = refl

pub demand_without_parts : (g : Ground) (v count : ℕ) (reading : Result Command CommandFault)
    → reading_demand (reading_refusal g v count reading) g reading ≡ reading_demand (reading_refusal g v 0 reading) g reading
demand_without_parts g v count (Ok command) = parts_apart g v count 0 command
demand_without_parts g v count (Err faults.OutOfMemory) = refl
demand_without_parts g v count (Err (faults.Grammar token)) = refl
demand_without_parts g v count (Err (faults.Limit what)) = refl

-- its line demands what a prepared command demands
pub line_demand_of : (g : Ground) (v count : ℕ) (text : List ℕ) (p : Preparation) → Prepares g v count text p
    → demand g p.command ≡ line_demand g v text
line_demand_of g v count text p prepared =
    subst (λ reading. demand g p.command ≡ reading_demand (reading_refusal g v count reading) g reading) (sym prepared.command_is)
    (subst (λ o. demand g p.command ≡ reading_demand o g (Ok p.command)) (sym prepared.unrefused) refl)
    ∙ demand_without_parts g v count (command_of text)

-- what is refused demands nothing
pub refused_demand : (g : Ground) (v count : ℕ) (text : List ℕ) (reply : Reply) (xs : List (ℕ × ℕ))
    → Refuses (line_refusal g v count text) reply ⊎ (reply ≡ replies.Memory)
    → Gathers (line_demand g v text) reply xs xs
refused_demand g v count text reply xs (inr memory) = record { adds = Adds_refl (line_demand g v text) xs; held = λ some. absurd (some memory) }
refused_demand g v count text reply xs (inl refused) =
    subst (λ pairs. Gathers pairs reply xs xs) (demand_without_parts g v count (command_of text)) (by (line_refusal g v count text) refused)
  where
    by : (o : Option Refusal) → Refuses o reply → Gathers (reading_demand o g (command_of text)) reply xs xs
    by None refused = absurd refused
    by (Some refusal) refused = record { adds = Adds_refl [] xs; held = λ some q h. absurd (Has-nil q h) }

-- the coordinates of star of a combination are told
pub star_told : (g : Ground) (q N : ℕ) (numbers : List (ℕ × ℤ)) (c image : List (ℕ × ℕ)) (values : List ℕ) → q ≡ g.characteristic → N ≡ g.level
    → sparse q c ≡ sparse q (residue_terms q numbers)
    → sparse q image ≡ star N (sparse q c) → HasCoordinates g image values
    → TellsCoordinates g (star g.level (sparse g.characteristic (residue_terms g.characteristic numbers))) (replies.Coords values)
star_told g q N numbers c image values field level vector star_is has =
    let over : sparse q image ≡ star N (sparse q (residue_terms q numbers)) = star_is ∙ ap (star N) vector in
    let at : sparse g.characteristic image ≡ star g.level (sparse g.characteristic (residue_terms g.characteristic numbers)) =
    subst (λ M. sparse g.characteristic image ≡ star M (sparse g.characteristic (residue_terms g.characteristic numbers))) level
    (subst (λ k. sparse k image ≡ star N (sparse k (residue_terms k numbers))) field over) in
    (values, refl, subst (λ x. AreCoordinates g.level x values) at has)

-- and so is its boundary
pub boundary_told : (g : Ground) (q N : ℕ) (numbers : List (ℕ × ℤ)) (c : List (ℕ × ℕ)) (values : List ℕ) → q ≡ g.characteristic → N ≡ g.level
    → sparse q c ≡ sparse q (residue_terms q numbers)
    → dense q values ≡ boundary N (sparse q c) → length values ≡ length (cusps N) → AreResidues q values
    → TellsBoundary g (sparse g.characteristic (residue_terms g.characteristic numbers)) (replies.Boundary values)
boundary_told g q N numbers c values field level vector boundary_is count residues = record {
  values = values;
  told = refl;
  count = count ∙ ap (λ M. length (cusps M)) level;
  residues = subst (λ k. AreResidues k values) field residues;
  vector = subst (λ M. dense g.characteristic values ≡ boundary M (sparse g.characteristic (residue_terms g.characteristic numbers))) level
      (subst (λ k. dense k values ≡ boundary N (sparse k (residue_terms k numbers))) field (boundary_is ∙ ap (boundary N) vector));
}
