use Rattle.std.proofs.Common.{◌≡◌, ◌+◌, ◌++◌, take, vec_len, vec_capacity}
use Rattle.kpn_chan.proofs.chunks.push_all.Given as goal

abbrev pub invariant-items : goal.invariant-items
invariant-items g l =
    record {
      items : l.chunk.items ≡ l.fn.chunk.items ++ take l.k l.items;
      len : vec_len l.chunk ≡ vec_len l.fn.chunk + l.k;
      capacity : vec_capacity l.chunk ≡ vec_capacity l.fn.chunk;
    }
