use Rattle.kpn_machine.proofs.Common.{◌≡◌, ◌<◌, ℕ, List, false, rules, sym, ap, ◌∙◌, subst, length, AreWaits, IsCycle}
use Rattle.kpn_machine.proofs.Marking.{no_cycle}
use Rattle.kpn_machine.proofs.Mirror.{mirror_length}
use Rattle.kpn_machine.proofs.machine.Machine.walk.Goals as goal

pub cycle_through-requires-clause-waits : goal.cycle_through-requires-clause-waits
cycle_through-requires-clause-waits g c =
    subst (AreWaits c.args.network.now) (sym (c.table.ensures ∙ ap (λ s. s.waits) c.self.view_is))
    c.requires.shape.waits

pub cycle_through-requires-clause-caps : goal.cycle_through-requires-clause-caps
cycle_through-requires-clause-caps g c =
    ap length c.as_slice.ensures.value
    ∙ mirror_length c.self.inside.channels.items c.self.inside.capacities.items c.self.invariant
    ∙ ap (λ s. length s.channels) c.self.view_is ∙ c.requires.shape.channels

pub returns-then-not-may_await-clause-exact : goal.returns-then-not-may_await-clause-exact
returns-then-not-may_await-clause-exact g c =
    let t = c.args.network.now in
    let told : c.may_await.result ≡ false = search rules in
    subst (λ s. (others : List ℕ) → IsCycle t s.waits c.args.p others → ⊥) c.self.view_is
    (no_cycle t c.self.inside.waits c.args.p (c.may_await.ensures told))

pub returns-clause-channel : goal.returns-clause-channel
returns-clause-channel g c = λ d is.
    subst (λ n. d < n) (sym c.requires.shape.channels) (c.cycle_through.ensures.channel d is)
