use Rattle.kpn_machine.proofs.Common.{◌≡◌, ℕ, false, rules, sym, subst, WaitsFor, is_marked}
use Rattle.std.specs.List.{Contains}
use Rattle.kpn_machine.proofs.Marking.{no_waiter}
use Rattle.kpn_machine.proofs.machine.marked_waits.MarkedWaits.may_await.Goals as goal

pub returns : goal.returns
returns g c = λ none q waiter.
    let t = c.args.network.now in
    let first : c.has_mark.result ≡ false = search rules in
    no_waiter c.self.inside.waits c.self.inside.full.items c.self.inside.empty.items c.self.invariant t c.args.p
    (subst (λ cs. (d : ℕ) → Contains cs d → is_marked c.self.inside.empty.items d ≡ false) c.outs.ensures
    (subst (λ ms. (d : ℕ) → Contains c.outs.result.now d → is_marked ms d ≡ false) c.deref.ensures.value
    (c.has_mark.ensures first)))
    (subst (λ cs. (d : ℕ) → Contains cs d → is_marked c.self.inside.full.items d ≡ false) c.ins.ensures
    (subst (λ ms. (d : ℕ) → Contains c.ins.result.now d → is_marked ms d ≡ false) c.deref-2.ensures.value
    (c.has_mark-2.ensures none)))
    q (subst (λ ws. WaitsFor t ws q c.args.p) (sym c.self.view_is) waiter)
