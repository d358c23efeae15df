-- After an event that lets something go on nothing is owed; after one that is no wait what is owed for a stop is.
use Rattle.kpn_audit.proofs.Common.{◌≡◌, true, [], ◌∷◌, ◌++◌, None, rules, waiter, lets_go_on, no_cycle_owed_after}
use Rattle.kpn_audit.proofs.Followed.{no_waiter, owes_nothing_after, owes_at_stop}
use Rattle.kpn_audit.proofs.growth.owed_after.Goals as goal

pub returns-in-Get : goal.returns-in-Get
returns-in-Get g c H run =
    let none : waiter c.args.event ≡ None = search rules in
    let on : lets_go_on c.args.event ≡ true = search rules in
    owes_nothing_after c.args.network.now c.known.ensures H c.args.event none on run.legal

pub returns-in_default : goal.returns-in_default
returns-in_default g c H run =
    let t = c.args.network.now in
    let none = no_waiter c.args.event c.in_default.not-WaitEmpty c.in_default.not-WaitFull in
    owes_at_stop t (H ++ c.args.event ∷ []) c.args.machine.now c.owed_at_stop.result run
    (no_cycle_owed_after t H c.args.event none) c.owed_at_stop.ensures.now c.owed_at_stop.ensures.growth
    c.owed_at_stop.ensures.nothing c.owed_at_stop.ensures.awaited
