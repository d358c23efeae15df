-- What an event changes after an item was reserved, it changes before that.
use Rattle.kpn_machine.proofs.Common.{◌≡◌, ◌<◌, length, is_ok, to_z, of_z, w64, rules, arith, subst, HasNumbers, Changes}
use Rattle.kpn_history.specs.declared.event.Event.TheVariants.{Put, WaitFull}
use Rattle.kpn_machine.proofs.Reserving.{Changes-reserved}
use Rattle.kpn_machine.proofs.machine.Machine.apply.Goals as goal

pub returns-in_ok-reserve_one-in-Put-clause-changes : goal.returns-in_ok-reserve_one-in-Put-clause-changes
returns-in_ok-reserve_one-in-Put-clause-changes g c =
    let t = c.args.network.now in
    let s = c.args.self.now in
    let below = (subst (λ e. HasNumbers t e) c.in-Put.is c.requires.numbers).1 in
    let there : c.into-in-Put.result < length s.channels = omega (arith, below, c.requires.shape.channels) in
    let item : to_z w64 (of_z w64 c.in-Put.item) ≡ c.in-Put.item = search rules in
    let same : Put c.into-in-Put-2.result c.into-in-Put-3.result (to_z w64 (of_z w64 c.in-Put.item)) ≡ c.args.event =
    cc in
    subst (λ e. Changes t e s c.put.new.self) same
    (Changes-reserved s c.into-in-Put.result there t _ (is_ok c.reserve_one.result) c.reserve_one.new.self
    c.put.new.self c.reserve_one.ensures.after c.put.ensures.changes)

pub returns-in_ok-reserve_one-in-WaitFull-clause-changes : goal.returns-in_ok-reserve_one-in-WaitFull-clause-changes
returns-in_ok-reserve_one-in-WaitFull-clause-changes g c =
    let t = c.args.network.now in
    let s = c.args.self.now in
    let below = (subst (λ e. HasNumbers t e) c.in-WaitFull.is c.requires.numbers).1 in
    let there : c.into-in-WaitFull.result < length s.channels = omega (arith, below, c.requires.shape.channels) in
    let same : WaitFull c.into-in-WaitFull-2.result c.into-in-WaitFull-3.result ≡ c.args.event = cc in
    subst (λ e. Changes t e s c.wait_on_full.new.self) same
    (Changes-reserved s c.into-in-WaitFull.result there t _ (is_ok c.reserve_one-in-WaitFull.result)
    c.reserve_one-in-WaitFull.new.self c.wait_on_full.new.self c.reserve_one-in-WaitFull.ensures.after
    c.wait_on_full.ensures.changes)
