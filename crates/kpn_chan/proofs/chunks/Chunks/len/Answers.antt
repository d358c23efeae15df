use Rattle.std.proofs.Common.{arith}
use Rattle.kpn_chan.proofs.Places.{count_of}
use Rattle.kpn_chan.proofs.chunks.Chunks.len.Goals as goal

pub overflow_mul-result : goal.overflow_mul-result
overflow_mul-result g c =
    let chunks = c.args.self.now in
    let many = count_of chunks.full.items chunks.last.items c.requires.full in
    omega (arith, c.requires.count, many, c.len.ensures)

pub overflow_add-result : goal.overflow_add-result
overflow_add-result g c =
    let chunks = c.args.self.now in
    let many = count_of chunks.full.items chunks.last.items c.requires.full in
    omega (arith, c.requires.count, many, c.len.ensures, c.len-2.ensures)

pub returns : goal.returns
returns g c =
    let chunks = c.args.self.now in
    let many = count_of chunks.full.items chunks.last.items c.requires.full in
    omega (arith, many, c.len.ensures, c.len-2.ensures)
