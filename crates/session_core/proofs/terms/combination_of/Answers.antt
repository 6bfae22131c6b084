use Rattle.std.proofs.Common.{length}
use Rattle.p1_normal.specs.Points.{symbols}
use Rattle.session_core.proofs.TermLemmas.{places_of_combination}
use Rattle.session_core.proofs.terms.combination_of.Goals as goal

pub returns-clause-places : goal.returns-clause-places
returns-clause-places c =
    places_of_combination c.args.field (length (symbols c.args.level.now)) c.args.numbers.now c.in_ok-combo.combo c.requires.places
    c.in_ok-combo.ensures.vector c.terms-rising.ensures.combo c.in_ok-combo.ensures.residues
