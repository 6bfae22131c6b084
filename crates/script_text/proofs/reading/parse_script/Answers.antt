use Rattle.std.proofs.Common.{◌+◌, ◌≤◌, length, subst, arith}
use Rattle.std.proofs.lemmas.Result.{err_from_is_err_and}
use Rattle.script_text.specs.Reading.{Follows}
use Rattle.script_text.proofs.ScriptLemmas.{SoFar, taken, refused, nothing_read, script_read, begun-script}
use Rattle.script_text.proofs.reading.parse_script.Goals as goal

pub take_line-requires : goal.take_line-requires
take_line-requires c =
    let within : length c.in-Some.line.now + length c.in-Some.after.now ≤ length c.loop-line.rest.now = c.in-Some.ensures.within in
    omega (arith, c.without_return.ensures.within, c.loop-line.invariant.room, c.loop-line.invariant.least, c.requires)

pub returns-in_err-reading : goal.returns-in_err-reading
returns-in_err-reading c =
    let p = err_from_is_err_and c.from_residual.result c.from_residual.ensures.1 in
    rw (p.1, p.2)
    (record {
      read = refused c.in_err-reading.field-0.0 c.loop-line.reading c.loop-line.number c.in-Some.line.now c.without_return.result.now
          c.loop-line.rest.now c.in-Some.after.now c.args.bytes.now
          c.loop-line.invariant c.in-Some.ensures.line c.without_return.ensures.line (c.in_err-reading.ensures {u = tt});
    })

pub loop-line-preserved : goal.loop-line-preserved
loop-line-preserved c =
    taken c.loop-line.reading c.in_ok-reading.reading c.loop-line.number c.in-Some.line.now c.without_return.result.now
    c.loop-line.rest.now c.in-Some.after.now c.args.bytes.now
    c.loop-line.invariant c.in-Some.ensures.line c.in-Some.ensures.shorter c.without_return.ensures.line (c.in_ok-reading.ensures {u = tt})

pub invariant_of-result : goal.invariant_of-result
invariant_of-result c =
    let so : SoFar _ _ _ _ = c.loop-line.invariant in
    let is = subst (λ r. Follows r so.before) c.in-Begun.is so.follows in
    begun-script c.in-Begun.field-0 so.before is

pub returns-in-Start : goal.returns-in-Start
returns-in-Start c = record {
  read = nothing_read c.loop-line.number c.loop-line.rest.now c.args.bytes.now
      (subst (λ r. SoFar r c.loop-line.number c.loop-line.rest.now c.args.bytes.now) c.in-Start.is c.loop-line.invariant)
      (c.in_default.ensures.line);
}

pub returns-in-Begun : goal.returns-in-Begun
returns-in-Begun c = record {
  read = script_read c.in-Begun.field-0 c.loop-line.number c.loop-line.rest.now c.args.bytes.now
      (subst (λ r. SoFar r c.loop-line.number c.loop-line.rest.now c.args.bytes.now) c.in-Begun.is c.loop-line.invariant)
      (c.in_default.ensures.line);
}
