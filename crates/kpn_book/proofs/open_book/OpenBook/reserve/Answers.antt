use Rattle.kpn_book.proofs.Common.{◌<◌, length, subst, arith, Contains-get_or, instance_at, program_of, IsInstance-of, out_is_there, IsAtPort, book_of}
use Rattle.std.specs.List.{Contains}
use Rattle.kpn_book.proofs.Committing.{reserves_item}
use Rattle.kpn_book.proofs.open_book.OpenBook.reserve.Goals as goal

pub out_channel-c-requires-clause-port : goal.out_channel-c-requires-clause-port
out_channel-c-requires-clause-port g c =
    let b = book_of c.args.self.now in
    let at =
    subst (λ s. IsAtPort (program_of b.tables c.args.p) c.requires.port.0 s) c.in-WantWrite.is c.requires.port.1 in
    let below = at.0 in
    let long = (IsInstance-of b.tables c.known.ensures c.args.p c.requires.process).outs in
    omega (arith, below, long)

pub reserve_one-requires : goal.reserve_one-requires
reserve_one-requires g c =
    let b = book_of c.args.self.now in
    let outs = (instance_at b.tables c.args.p).outs in
    let below =
    out_is_there b.tables c.known.ensures c.args.p c.out_channel-c.result
    (subst (λ x. Contains outs x) c.out_channel-c.ensures.1
    (Contains-get_or outs c.in-WantWrite.port 0 c.out_channel-c.ensures.0)) in
    let long = c.requires.step.run.shape.channels in
    omega (arith, below, long)

pub returns-in_ok-reserve-in-WantWrite : goal.returns-in_ok-reserve-in-WantWrite
returns-in_ok-reserve-in-WantWrite g c =
    let b = book_of c.args.self.now in
    let outs = (instance_at b.tables c.args.p).outs in
    let there =
    out_is_there b.tables c.known.ensures c.args.p c.out_channel-c.result
    (subst (λ x. Contains outs x) c.out_channel-c.ensures.1
    (Contains-get_or outs c.in-WantWrite.port 0 c.out_channel-c.ensures.0)) in
    let long = c.requires.step.run.shape.channels in
    let below : c.out_channel-c.result < length b.machine.channels = omega (arith, there, long) in
    reserves_item c.args.p c.args.stop c.in-WantWrite.port c.in-WantWrite.field-1 c.out_channel-c.result b
    c.reserve.new.self c.reserve_one.new.self c.reserve.new.self.room c.reserve_one.result c.in-WantWrite.is
    c.out_channel-c.ensures below c.in_ok-reserve-in-WantWrite.ensures.ok c.reserve.ensures.events
    c.reserve.ensures.kept
    c.reserve_one.ensures.after
