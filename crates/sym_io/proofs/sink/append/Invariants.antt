use Rattle.std.proofs.Common.{◌≡◌, ◌+◌, ◌++◌, take, vec_len}
use Rattle.std.specs.Vec.{vec_capacity}
use Rattle.sym_io.proofs.sink.append.Given as goal

abbrev pub invariant-loop-byte : goal.invariant-loop-byte
invariant-loop-byte l =
    record {
      items : l.list.items ≡ l.initial.list.items ++ take l.byte-index l.bytes;
      len : vec_len l.list ≡ vec_len l.initial.list + l.byte-index;
      capacity : vec_capacity l.list ≡ vec_capacity l.initial.list;
    }
