use Rattle.std.specs.List.{range_with_len}
use Rattle.board_bench.proofs.NewPasses.{all_ready}
use Rattle.board_bench.proofs.measured.Goals as goal

pub entries_after-requires-after_bounds : goal.entries_after-requires-after_bounds
entries_after-requires-after_bounds g c κs within =
    all_ready c.in-Ok.board (range_with_len 0 c.in_ok-passes.passes) c.in-Ok.passes.items c.in-Ok.ensures.passes
