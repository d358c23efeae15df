use Rattle.kpn_book.proofs.Common.{◌≡◌, ◌<◌, length, sym, ap, ◌∙◌, subst, arith, channel_in, IsRoomyToWrite, SeesChannels}
use Rattle.kpn_book.proofs.Claiming.{no_room_made, more_room_made, no_channel_yet, one_channel_more, one_roomy_more}
use Rattle.kpn_book.proofs.open_book.claims.claim_channels.Goals as goal

pub channels-init : goal.channels-init
channels-init g c = (
  no_room_made c.args.machine.now,
  (
    no_channel_yet c.args.most c.args.drains c.args.machine.now c.args.batch.now c.requires.fresh,
    λ d below. absurd (omega (arith, below)),
  ),
)

pub claim_channel-requires-clause-tables : goal.claim_channel-requires-clause-tables
claim_channel-requires-clause-tables g c = c.requires.tables ∙ sym c.channels.invariant.1.0.tables

pub claim_channel-requires-clause-channel : goal.claim_channel-requires-clause-channel
claim_channel-requires-clause-channel g c =
    let same = ap (λ t. length t.channels) (c.channels.invariant.1.0.tables ∙ sym c.requires.tables) in
    omega (arith, same, c.channels-c-end.ensures, c.channels-test.true)

pub claim_channel-requires-clause-channels : goal.claim_channel-requires-clause-channels
claim_channel-requires-clause-channels g c =
    c.channels.invariant.0.count
    ∙ c.requires.channels
    ∙ sym (ap (λ t. length t.channels) c.channels.invariant.1.0.tables)

pub channels-preserved : goal.channels-preserved
channels-preserved g c =
    let s = c.args.machine.now in
    let n = c.channels.c in
    let sees = c.channels.invariant.1.0 in
    let same = ap (λ t. length t.channels) (c.channels.invariant.1.0.tables ∙ sym c.requires.tables) in
    let there : n < length c.channels.batch.first.sides =
    omega (arith, same, c.channels-c-end.ensures, c.channels-test.true, c.known.ensures.was.sides) in (
      more_room_made s c.channels.machine c.claim_channel.new.machine c.channels.invariant.0
          c.in_ok-claim_channel.ensures.room,
      (
        one_channel_more c.args.most c.args.drains s n c.args.batch.now c.channels.batch c.claim_channel.new.batch
            (channel_in c.channels.machine n) there (c.channels.invariant.0.channels n) sees
            c.in_ok-claim_channel.ensures.sees,
        one_roomy_more c.args.batch.now.tables c.args.batch.now.first c.channels.batch.first n c.channels.machine
            c.claim_channel.new.machine sees.within c.channels.invariant.1.1 c.in_ok-claim_channel.ensures.room
            (subst (λ t. IsRoomyToWrite t c.channels.batch.first c.claim_channel.new.machine n) sees.tables
            c.in_ok-claim_channel.ensures.places),
      ),
    )

pub returns-in_err-claim_channel-clause-room : goal.returns-in_err-claim_channel-clause-room
returns-in_err-claim_channel-clause-room g c =
    more_room_made c.args.machine.now c.channels.machine c.claim_channel.new.machine
    c.channels.invariant.0 c.in_err-claim_channel.ensures.room

pub returns : goal.returns
returns g c =
    let same = ap (λ t. length t.channels) c.requires.tables in
    let all : c.channels.c ≡ length c.args.batch.now.tables.channels =
    omega (arith, same, c.channels-c-end.ensures, c.channels-test.false, c.channels.auto.c-end) in
    record {
      tables = c.channels.invariant.1.0.tables;
      room = c.channels.invariant.0;
      sees =
          subst
          (λ n. SeesChannels c.args.most c.args.drains c.args.machine.now n c.args.batch.now c.channels.batch)
          all c.channels.invariant.1.0;
      places = λ d below. c.channels.invariant.1.1 d (omega (arith, all, below));
    }
