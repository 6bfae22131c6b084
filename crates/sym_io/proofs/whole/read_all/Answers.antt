use Rattle.std.proofs.Common.{◌≡◌, length, arith, rules}
use Rattle.sym_io.specs.declared.whole.TheConstants.{PIECE_SIZE}
use Rattle.sym_io.proofs.Taking.{TakesWithin-too_long, TakesWithin-no_memory}
use Rattle.sym_io.proofs.whole.read_all.Goals as goal

pub returns-then-count-limit-clause-too_long : goal.returns-then-count-limit-clause-too_long
returns-then-count-limit-clause-too_long g c =
    let size : length c.read.new.buf ≡ PIECE_SIZE = search rules in
    TakesWithin-too_long _ _ _ _ _ _ _ c.pieces.invariant.taken c.in-Ok.ensures.bytes.0
    (omega (arith, c.pieces.invariant.small, c.pieces.bytes.ok.0)) c.in-Ok.ensures.bound.0 size (omega (arith, c.pieces.bytes.ok.0))

pub returns-then-is_err-clause-too_long : goal.returns-then-is_err-clause-too_long
returns-then-is_err-clause-too_long g c =
    TakesWithin-no_memory _ _ _ _ _ _ _ c.pieces.invariant.taken c.in-Ok.ensures.bytes.0 c.in-Ok.ensures.bound.0
    (omega (arith, c.pieces.bytes.ok.0))
