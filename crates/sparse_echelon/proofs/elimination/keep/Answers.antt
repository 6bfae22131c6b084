use Rattle.std.proofs.Common.{rules, arith, ◌≡◌, ◌<◌, ◌+◌, ◌-◌, ℕ, List, [], get_or, length, length-set, ap, sym, subst, ◌∙◌}
use Rattle.std.specs.List.{Contains}
use Rattle.std.proofs.lemmas.List.{get_or_default}
use Rattle.std.proofs.lemmas.List.Elements.{All-get_or}
use Rattle.field_table.specs.Table.{IsListed}
use Rattle.field_table.specs.Terms.{HasPlacesBelow}
use Rattle.field_table.proofs.TableFacts.{listed_prime}
use Rattle.linear_algebra.specs.Prime.{IsPrime}
use Rattle.linear_algebra.specs.Residue.{residue, ◌⊗◌}
use Rattle.linear_algebra.proofs.ResidueLaws.{one≢zero}
use Rattle.sparse_echelon.specs.Occurrences.{IsAt}
use Rattle.sparse_echelon.proofs.Relisting.{occurrences_kept}
use Rattle.sparse_echelon.proofs.Steps.{last_of, multiple_at, multiple_beyond, other_leads, stored_kept}
use Rattle.sparse_echelon.proofs.elimination.keep.Goals as goal

pub push-requires-clause-other : goal.push-requires-clause-other
push-requires-clause-other c =
    let listed : IsListed c.args.field = search rules in
    let last = last_of c.args.field c.args.left.now (length c.args.left.now - 1) c.requires.combo c.requires.residues
    (omega (arith, c.requires.some)) in
    rw c.in_ok-clear.ensures.leads (other_leads _ (listed_prime c.args.field listed) c.args.n _ _ _ _ c.requires.stored c.args.left.now _ _
    c.requires.left last.some)

pub clear-requires-clause-one : goal.clear-requires-clause-one
clear-requires-clause-one c =
    let last = last_of c.args.field c.args.left.now (length c.args.left.now - 1) c.requires.combo c.requires.residues
    (omega (arith, c.requires.some)) in
    let inverted = rw c.unwrap-inverse.ensures at c.inverse.ensures.residue in
    multiple_at c.args.field c.unwrap-inverse.result c.args.left.now c.in_ok-row.row _ c.in_ok-row.ensures.product
    (ap (λ a. a ⊗ residue c.args.field c.unwrap-inverse.result) last.at ∙ inverted)

pub clear-requires-clause-found : goal.clear-requires-clause-found
clear-requires-clause-found c j l some =
    let listed : IsListed c.args.field = search rules in
    let last = last_of c.args.field c.args.left.now (length c.args.left.now - 1) c.requires.combo c.requires.residues
    (omega (arith, c.requires.some)) in
    let k : ℕ = (get_or c.args.left.now (length c.args.left.now - 1) (0, 0)).0 in
    let within : k < length c.args.occurrences.now = All-get_or (λ t. t.0 < length c.args.occurrences.now) c.args.left.now
    (length c.args.left.now - 1) (0, 0) (omega (arith, c.requires.some)) c.requires.places in
    let other = other_leads _ (listed_prime c.args.field listed) c.args.n _ _ _ _ c.requires.stored c.args.left.now _ k c.requires.left last.some in
    subst (λ xs. Contains xs j) (sym (c.as_slice.ensures ∙ c.replace-numbers.ensures.value ∙ get_or_default c.args.occurrences.now k _ [] within))
    (c.requires.occurrences.all j k l some (λ e. other j (omega (arith, c.requires.stored.many)) (sym e)))

pub add_row-requires : goal.add_row-requires
add_row-requires c =
    let sized : length c.clear.new.occurrences ≡ length c.args.occurrences.now = c.clear.auto.occurrences ∙ length-set c.args.occurrences.now _ _ in
    record {
      places = subst (λ n. HasPlacesBelow n c.terms-2.result.now) (sym sized)
          (subst (HasPlacesBelow (length c.args.occurrences.now)) (sym c.terms-2.ensures.terms)
          (c.in_ok-row.ensures.places (length c.args.occurrences.now) c.requires.places));
    }

pub returns-clause-stored : goal.returns-clause-stored
returns-clause-stored c =
    let listed : IsListed c.args.field = search rules in
    let last = last_of c.args.field c.args.left.now (length c.args.left.now - 1) c.requires.combo c.requires.residues
    (omega (arith, c.requires.some)) in
    let inverted = rw c.unwrap-inverse.ensures at c.inverse.ensures.residue in
    let terms : c.terms.result.now ≡ get_or c.args.rows.now c.args.n [] = c.terms.ensures.terms ∙ c.index-rows-n.is
    ∙ get_or_default c.args.rows.now c.args.n c.index-rows-n.result [] c.requires.number in
    let row_places : HasPlacesBelow (length c.args.occurrences.now) c.in_ok-row.row = c.in_ok-row.ensures.places
    (length c.args.occurrences.now) c.requires.places in
    let log_places : HasPlacesBelow (length c.args.rows.now) c.in_ok-log.log = c.in_ok-log.ensures.rows (length c.args.rows.now) c.requires.number
    (rw c.deref.ensures.value c.requires.stored.log_rows.places) in
    rw (
      c.in_ok-push.ensures.basis,
      c.in_ok-push.ensures.logs,
      c.in_ok-push.ensures.leads,
      c.in_ok-push.ensures.kept,
      c.in_ok-clear.ensures.leads,
      c.in_ok-clear.ensures.kept,
    )
    (stored_kept _ (listed_prime c.args.field listed) c.args.n _ _ _ _ c.requires.stored c.requires.number c.args.left.now _ c.unwrap-inverse.result
    c.requires.left
    (ap (λ a. a ⊗ residue c.args.field c.unwrap-inverse.result) last.at ∙ inverted) last.beyond
    c.in_ok-row.row c.in_ok-log.log c.in_ok-row.ensures.product (rw (c.deref.ensures.value, terms) at c.in_ok-log.ensures.log)
    row_places log_places c.in_ok-row.ensures.residues c.in_ok-log.ensures.residues
    c.clear.new.self.basis.items c.clear.new.self.logs.items c.in_ok-clear.ensures.count c.in_ok-clear.ensures.log_count
    (c.in_ok-clear.ensures.rows (length c.args.occurrences.now) c.requires.stored.basis_rows row_places)
    (c.in_ok-clear.ensures.logs (length c.args.rows.now) c.requires.stored.log_rows log_places)
    c.in_ok-clear.ensures.row (λ j u. c.in_ok-clear.ensures.log j u))

pub returns-clause-occurrences : goal.returns-clause-occurrences
returns-clause-occurrences c =
    let listed : IsListed c.args.field = search rules in
    let prime : IsPrime c.args.field = listed_prime c.args.field listed in
    let last = last_of c.args.field c.args.left.now (length c.args.left.now - 1) c.requires.combo c.requires.residues
    (omega (arith, c.requires.some)) in
    let inverted = rw c.unwrap-inverse.ensures at c.inverse.ensures.residue in
    let basis : List (List (ℕ × ℕ)) = c.args.stored.now.basis.items in
    let count : c.len.result ≡ length c.clear.new.self.basis.items = search rules in
    let counted : c.len.result ≡ length basis = count ∙ c.in_ok-clear.ensures.count in
    rw (c.in_ok-push.ensures.basis, c.in_ok-push.ensures.leads, c.in_ok-clear.ensures.leads)
    (occurrences_kept c.args.field _ (omega (arith, prime.above_one)) basis c.args.stored.now.leads c.args.occurrences.now c.requires.occurrences
    c.requires.stored.many
    c.in_ok-row.row c.terms-2.ensures.combo
    (multiple_at c.args.field c.unwrap-inverse.result c.args.left.now c.in_ok-row.row _ c.in_ok-row.ensures.product
    (ap (λ a. a ⊗ residue c.args.field c.unwrap-inverse.result) last.at ∙ inverted)) (one≢zero prime)
    (λ i u. multiple_beyond c.args.field c.unwrap-inverse.result c.args.left.now c.in_ok-row.row i c.in_ok-row.ensures.product (last.beyond i u))
    c.clear.new.self.basis.items c.clear.new.occurrences c.add_row.new.occurrences c.in_ok-clear.ensures.count
    c.in_ok-clear.ensures.row c.in_ok-clear.ensures.listed
    (rw (c.replace-numbers.ensures.after, c.none.ensures) at c.in_ok-clear.ensures.grows)
    (rw (c.replace-numbers.ensures.after, c.none.ensures) at c.in_ok-clear.ensures.below)
    (subst (IsAt c.add_row.new.occurrences c.in_ok-row.row) counted (rw c.terms-2.ensures.terms at c.in_ok-add_row.ensures.added))
    c.in_ok-add_row.ensures.grows
    (c.in_ok-add_row.ensures.below (length basis + 1) (omega (arith, counted)))
    (c.add_row.auto.occurrences ∙ c.clear.auto.occurrences ∙ length-set c.args.occurrences.now _ _))
