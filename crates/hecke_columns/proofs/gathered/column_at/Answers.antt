use Rattle.std.proofs.Common.{◌<◌, length, sym, ◌∙◌, ap, subst, rules}
use Rattle.std.specs.Arc.{arc_value}
use Rattle.std.proofs.lemmas.List.{length-map}
use Rattle.hecke_columns.specs.Gathering.{IsGathered, symbol_of}
use Rattle.hecke_columns.proofs.GatheringLemmas.{All-at, number_is}
use Rattle.hecke_columns.proofs.gathered.column_at.Goals as goal

pub bounds-columns-number_of : goal.bounds-columns-number_of
bounds-columns-number_of c =
    subst (λ n. c.number_of.result < n) (length-map c.args.columns.now (λ x. symbol_of (arc_value x)))
    (c.requires.finds.found c.args.k c.number_of.result c.number_of.ensures).0

pub offset_bounds-columns-number_of : goal.offset_bounds-columns-number_of
offset_bounds-columns-number_of c = let below = bounds-columns-number_of c in search rules

pub returns-clause-symbol : goal.returns-clause-symbol
returns-clause-symbol c =
    let found = c.requires.finds.found c.args.k c.number_of.result c.number_of.ensures in
    let below : c.number_of.result < length c.args.columns.now =
    subst (λ n. c.number_of.result < n) (length-map c.args.columns.now (λ x. symbol_of (arc_value x))) found.0 in
    ap symbol_of c.deref.ensures
    ∙ number_is (λ x. symbol_of (arc_value x)) c.args.columns.now c.index-columns-number_of.result c.number_of.result c.args.k below
    c.index-columns-number_of.is found.1

pub returns-clause-gathered : goal.returns-clause-gathered
returns-clause-gathered c g n all =
    let below : c.number_of.result < length c.args.columns.now =
    subst (λ n. c.number_of.result < n) (length-map c.args.columns.now (λ x. symbol_of (arc_value x)))
    (c.requires.finds.found c.args.k c.number_of.result c.number_of.ensures).0 in
    subst (IsGathered g n) (sym c.deref.ensures)
    (All-at (λ x. IsGathered g n (arc_value x)) c.args.columns.now c.index-columns-number_of.result c.number_of.result below
    c.index-columns-number_of.is all)
