use Rattle.kpn_book.proofs.Common.{◌+◌, ◌<◌, length, sym, ◌∙◌, subst, arith, is_in_region}
use Rattle.kpn_book.proofs.Queueing.{first_is_there}
use Rattle.kpn_book.proofs.Regions.{HadTurns, no_turn_yet, had_turn, somebody_waits, turns_length, all_had_turns}
use Rattle.kpn_book.proofs.open_book.regions.hold_region.Goals as goal

pub turns-init : goal.turns-init
turns-init g c = no_turn_yet (is_in_region c.args.batch.now.now) c.args.schedule.now

pub is_within-within-requires : goal.is_within-within-requires
is_within-within-requires g c =
    let there =
    first_is_there c.turns.schedule.states c.turns.schedule.queue c.in-Some.p c.known-in-turns.ensures.schedule
    (sym c.next.ensures ∙ c.in-Some.is) in
    let same =
    turns_length (is_in_region c.args.batch.now.now) c.args.schedule.now c.turns.schedule c.turns._turn
    c.turns.invariant in
    omega (arith, there, same, c.requires)

pub turns-preserved : goal.turns-preserved
turns-preserved g c =
    let more : c.turns._turn < length c.args.schedule.now.queue =
    omega (arith, c.turns-test.true, c.counts-ready.ensures.ready, c.known.ensures.schedule.count) in
    subst (HadTurns (is_in_region c.args.batch.now.now) c.args.schedule.now (c.turns._turn + 1)) (sym c.turn_if.ensures)
    (had_turn (is_in_region c.args.batch.now.now) c.args.schedule.now c.turns.schedule c.turns._turn c.in-Some.p
    c.turns.invariant (sym c.next.ensures ∙ c.in-Some.is) more c.is_within-within.result c.is_within-within.ensures
    c.known-in-turns.ensures.schedule)

pub returns-in_default : goal.returns-in_default
returns-in_default g c =
    absurd
    (somebody_waits (is_in_region c.args.batch.now.now) c.args.schedule.now c.turns.schedule c.turns._turn
    c.turns.invariant
    (omega (arith, c.turns-test.true, c.counts-ready.ensures.ready, c.known.ensures.schedule.count))
    (sym c.next.ensures ∙ c.in_default.is))

pub returns : goal.returns
returns g c =
    all_had_turns (is_in_region c.args.batch.now.now) c.args.schedule.now c.turns.schedule c.turns._turn
    c.turns.invariant (omega (arith, c.turns-test.false, c.counts-ready.ensures.ready, c.known.ensures.schedule.count))
