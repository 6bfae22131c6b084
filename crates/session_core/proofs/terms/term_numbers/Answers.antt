use Rattle.std.proofs.Common.{◌≡◌, ◌≢◌, ◌<◌, ◌∷◌, ◌++◌, [], All, length, refl, sym, ◌∙◌, arith, rules, get_or, w64, FitsSigned, subst}
use Rattle.std.proofs.lemmas.Bool.{false≢true}
use Rattle.std.proofs.lemmas.Int.{to_z-of_z}
use Rattle.std.proofs.lemmas.List.Elements.{All-push}
use Rattle.p1_normal.specs.Points.{symbols, number, common_divisor, reduced}
use Rattle.session_core.specs.Terms.{symbol_of}
use Rattle.session_core.proofs.TermLemmas.{no_term, names_more, symbol_terms_more, unnamed_is, first_unnamed-none}
use Rattle.session_core.proofs.terms.term_numbers.Goals as goal

pub returns-in-Err-clause-unnamed : goal.returns-in-Err-clause-unnamed
returns-in-Err-clause-unnamed c = λ i e.
    let same : c.loop-term.place ≡ i = cc in
    let left : FitsSigned w64 (get_or c.args.terms.now c.loop-term.term-index no_term).u = search rules in
    let right : FitsSigned w64 (get_or c.args.terms.now c.loop-term.term-index no_term).v = search rules in
    let away : common_divisor c.args.level.now (reduced c.args.level.now (get_or c.args.terms.now c.loop-term.term-index no_term).u
    (get_or c.args.terms.now c.loop-term.term-index no_term).v) ≢ 1
    = λ one. let ok = c.in-Err.ensures.point.1 (simp to_z-of_z one) in absurd (false≢true ok) in
    unnamed_is c.args.level.now c.args.terms.now c.loop-term.term-index i c.loop-term.invariant.named c.loop-term-test.true away
    (sym same ∙ c.loop-term.invariant.place)

pub loop-term-preserved : goal.loop-term-preserved
loop-term-preserved c =
    let left : FitsSigned w64 (get_or c.args.terms.now c.loop-term.term-index no_term).u = search rules in
    let right : FitsSigned w64 (get_or c.args.terms.now c.loop-term.term-index no_term).v = search rules in
    let factor : FitsSigned w64 (get_or c.args.terms.now c.loop-term.term-index no_term).coefficient = search rules in
    let one : common_divisor c.args.level.now (reduced c.args.level.now (get_or c.args.terms.now c.loop-term.term-index no_term).u
    (get_or c.args.terms.now c.loop-term.term-index no_term).v) ≡ 1
    = simp to_z-of_z at (c.in-Ok-index.ensures.point.0 refl) in
    let is : c.in-Ok-index.number ≡ number c.args.level.now (symbol_of c.args.level.now (get_or c.args.terms.now c.loop-term.term-index no_term))
    = simp to_z-of_z at c.in-Ok-index.ensures.number in
    let pushed : c.push_reserved.new.self.items ≡ c.loop-term.numbers.items ++
    (c.in-Ok-index.number, (get_or c.args.terms.now c.loop-term.term-index no_term).coefficient) ∷ []
    = simp to_z-of_z at c.push_reserved.ensures.items in
    record {
      few = c.loop-term.invariant.few;
      room = omega arith;
      count = omega arith;
      place = omega arith;
      terms = pushed ∙ symbol_terms_more c.args.level.now c.args.terms.now c.loop-term.term-index c.in-Ok-index.number c.loop-term.numbers.items
          c.loop-term-test.true c.loop-term.invariant.terms is;
      below = subst (All (λ t. t.0 < length (symbols c.args.level.now))) (sym pushed)
          (All-push (λ t. t.0 < length (symbols c.args.level.now)) c.loop-term.numbers.items
          (c.in-Ok-index.number, (get_or c.args.terms.now c.loop-term.term-index no_term).coefficient) c.loop-term.invariant.below
          c.in-Ok-index.ensures.below);
      named = names_more c.args.level.now c.args.terms.now c.loop-term.term-index c.loop-term.invariant.named one;
    }

pub returns-clause-named : goal.returns-clause-named
returns-clause-named c =
    let all : c.loop-term.term-index ≡ length c.args.terms.now = omega arith in
    first_unnamed-none c.args.level.now c.args.terms.now (rw all at c.loop-term.invariant.named)
