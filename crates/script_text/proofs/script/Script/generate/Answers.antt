use Rattle.std.proofs.Common.{◌≡◌, ◌+◌, ◌*◌, ◌∙◌, List, ap, subst, sym, arith}
use Rattle.script_text.specs.declared.space.SpaceLine.{SpaceLine}
use Rattle.script_text.specs.Numbered.{NumberedLine}
use Rattle.script_text.specs.Draws.{first_state, drawn_space}
use Rattle.script_text.proofs.GenerationLemmas.{HasSessions, no_session, one_session, generated_is, generated_script}
use Rattle.script_text.proofs.script.Script.generate.Goals as goal

pub loop-place-init : goal.loop-place-init
loop-place-init c =
    let space = (drawn_space (first_state c.args.seed)).0 in
    let start = (drawn_space (first_state c.args.seed)).1 in
    let empty = subst (λ (none : List (List NumberedLine)). HasSessions space.modulus start 0 none start) (sym c.in_ok-sessions.ensures.items)
    (no_session space.modulus start) in record {
      level = c.of.ensures.level ∙ ap (λ (s : SpaceLine). s.modulus) c.of.ensures.space;
      made = subst (λ state. HasSessions space.modulus start 0 c.in_ok-sessions.sessions.items state) (sym c.of.ensures.state) empty;
    }

pub loop-place-preserved : goal.loop-place-preserved
loop-place-preserved c =
    let space = (drawn_space (first_state c.args.seed)).0 in
    let start = (drawn_space (first_state c.args.seed)).1 in
    let line = 2 + c.loop-place.place * 41 in
    let place : line ≡ 2 + 41 * c.loop-place.place = omega arith in record {
      level = c.session_at.ensures.level ∙ c.loop-place.invariant.level;
      made = one_session space.modulus c.loop-place.draws.level start c.loop-place.place line c.session_at.new.draws.state
          c.loop-place.sessions.items c.push.new.self.items c.loop-place.draws.state c.in_ok-session_at.field-0
          c.loop-place.invariant.made c.loop-place.invariant.level place c.in_ok-session_at.ensures.session
          c.in_ok-session_at.ensures.state (c.in_ok-push.ensures {u = tt}).items;
    }

pub invariant_of-result : goal.invariant_of-result
invariant_of-result c =
    let all : c.loop-place.place ≡ 4 = omega (arith, c.loop-place.auto, c.loop-place-test.false) in
    generated_script c.args.seed c.loop-place.place c.of.result.0 c.loop-place.sessions.items c.loop-place.draws.state c.of.ensures.space
    c.loop-place.invariant.made all

pub returns : goal.returns
returns c =
    let all : c.loop-place.place ≡ 4 = omega (arith, c.loop-place.auto, c.loop-place-test.false) in
    generated_is c.args.seed c.loop-place.place c.of.result.0 c.loop-place.sessions.items c.loop-place.draws.state c.of.ensures.space
    c.loop-place.invariant.made all
