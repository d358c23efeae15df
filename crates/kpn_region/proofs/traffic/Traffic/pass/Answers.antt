use Rattle.kpn_region.proofs.Common.{◌≡◌, ◌<◌, IsTrue, ◌∙◌, ap, sym, subst, arith, length, rules, w64, SFits, to_z, of_z, program_of, IsInstance-of, fits, StandsAt, IsAtPort, IsGiven, StandsAtRead, IsGot, IsPutOn}
use Rattle.std.proofs.lemmas.Int.{to_z-of_z}
use Rattle.kpn_region.proofs.Turns.{goes_by_get, goes_by_put}
use Rattle.kpn_region.proofs.Numbers.{in_there, out_there, channel_fits}
use Rattle.kpn_region.proofs.traffic.Traffic.pass.Goals as goal

pub in_channel-c-requires-clause-port : goal.in_channel-c-requires-clause-port
in_channel-c-requires-clause-port g c =
    let at = subst (IsAtPort (program_of c.args.network.now c.args.p) c.args.frame.now) c.in-WantRead.is
    c.requires.port in
    let below = at.0 in
    let long = (IsInstance-of c.args.network.now c.known.ensures c.args.p c.requires.process).ins in
    omega (arith, below, long)

pub out_channel-c-requires-clause-port : goal.out_channel-c-requires-clause-port
out_channel-c-requires-clause-port g c =
    let at = subst (IsAtPort (program_of c.args.network.now c.args.p) c.args.frame.now) c.in-WantWrite.is
    c.requires.port in
    let below = at.0 in
    let long = (IsInstance-of c.args.network.now c.known.ensures c.args.p c.requires.process).outs in
    omega (arith, below, long)

pub get-requires-clause-number : goal.get-requires-clause-number
get-requires-clause-number g c =
    channel_fits c.args.network.now c.known.ensures c.in_channel-c.result
    (in_there c.args.network.now c.known.ensures c.args.p c.in-WantRead.port c.in_channel-c.result
    c.in_channel-c.ensures)

pub get-requires-clause-channel : goal.get-requires-clause-channel
get-requires-clause-channel g c =
    subst (λ n. c.in_channel-c.result < n) (sym c.requires.sides)
    (in_there c.args.network.now c.known.ensures c.args.p c.in-WantRead.port c.in_channel-c.result
    c.in_channel-c.ensures)

pub put-requires-clause-number : goal.put-requires-clause-number
put-requires-clause-number g c =
    channel_fits c.args.network.now c.known.ensures c.out_channel-c.result
    (out_there c.args.network.now c.known.ensures c.args.p c.in-WantWrite.port c.out_channel-c.result
    c.out_channel-c.ensures)

pub put-requires-clause-channel : goal.put-requires-clause-channel
put-requires-clause-channel g c =
    subst (λ n. c.out_channel-c.result < n) (sym c.requires.sides)
    (out_there c.args.network.now c.known.ensures c.args.p c.in-WantWrite.port c.out_channel-c.result
    c.out_channel-c.ensures)

pub pass_read-requires-clause-read : goal.pass_read-requires-clause-read
pass_read-requires-clause-read g c =
    subst (λ x. StandsAtRead x.blocks c.args.frame.now) (sym c.program.ensures)
    (subst (IsAtPort (program_of c.args.network.now c.args.p) c.args.frame.now) c.in-WantRead.is c.requires.port).1

pub returns-in-Some-clause-passes : goal.returns-in-Some-clause-passes
returns-in-Some-clause-passes g c =
    let t = c.args.network.now in
    let item = to_z w64 (of_z w64 c.in-Some.item) in
    let small : SFits w64 c.in-Some.item = search rules in
    let same = to_z-of_z w64 c.in-Some.item small in
    let there =
    subst (λ n. c.in_channel-c.result < n) (sym c.requires.sides)
    (in_there t c.known.ensures c.args.p c.in-WantRead.port c.in_channel-c.result c.in_channel-c.ensures) in
    goes_by_get t c.args.p c.in_channel-c.result item c.args.frame.now c.pass_read.new.self c.args.self.now.sides.items
    c.args.self.now.events.items there
    (subst (λ x. IsTrue (fits x c.pass_read.new.self)) c.program.ensures c.pass_read.ensures.fits)
    c.get.new.self.sides.items c.get.new.self.events.items
    (record {
      port = c.in-WantRead.port;
      channel = c.in_channel-c.ensures;
      stood = subst (StandsAt (program_of t c.args.p).blocks c.args.frame.now) c.in-WantRead.is c.requires.stands;
      passes = subst (λ x. IsGiven x.blocks c.args.frame.now item c.pass_read.new.self) c.program.ensures
          c.pass_read.ensures.passed;
    })
    (subst (λ v. IsGot c.args.p c.in_channel-c.result v c.args.self.now.sides.items c.args.self.now.events.items
    c.get.new.self.sides.items c.get.new.self.events.items) (sym same) c.in-Some.ensures.got)

pub returns-in-On-clause-passes : goal.returns-in-On-clause-passes
returns-in-On-clause-passes g c =
    let t = c.args.network.now in
    let item = c.in-WantWrite.item in
    let small : SFits w64 item = search rules in
    let there =
    subst (λ n. c.out_channel-c.result < n) (sym c.requires.sides)
    (out_there t c.known.ensures c.args.p c.in-WantWrite.port c.out_channel-c.result c.out_channel-c.ensures) in
    goes_by_put t c.args.p c.out_channel-c.result item c.args.frame.now c.pass_write.new.self
    c.args.self.now.sides.items c.args.self.now.events.items there
    (subst (λ x. IsTrue (fits x c.pass_write.new.self)) c.program-in-On.ensures c.pass_write.ensures.fits)
    c.put.new.self.sides.items c.put.new.self.events.items
    (record {
      port = c.in-WantWrite.port;
      channel = c.out_channel-c.ensures;
      stood = subst (StandsAt (program_of t c.args.p).blocks c.args.frame.now) c.in-WantWrite.is c.requires.stands;
      passes = c.pass_write.ensures.passed;
    })
    (subst (λ v. IsPutOn c.args.p c.out_channel-c.result v c.args.self.now.sides.items c.args.self.now.events.items
    c.put.new.self.sides.items c.put.new.self.events.items) (to_z-of_z w64 item small) c.in-On.ensures.puts)
