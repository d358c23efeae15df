use Rattle.std.proofs.Common.{◌≡◌, ◌↔◌, ℕ, [], ◌∷◌, ◌++◌, Option, Some, None, IfSome, refl, sym, ap, ◌∙◌, subst}
use Rattle.kpn_machine.proofs.Common.{cap_in, OwesCycleGrowth, waiter_of_last, last_or-push, Some-number, capacities, IsOwed, IsAwaitedBelowLimit, channel_to_grow}
use Rattle.kpn_machine.proofs.Growing.{owed_by_finding, owed_by_history, awaited_in_cycle, both}
use Rattle.kpn_machine.proofs.machine.Machine.owed.Goals as goal

pub returns-clause-channel : goal.returns-clause-channel
returns-clause-channel g c d =
    let s = c.args.self.now in
    subst (λ r. (r ≡ Some d) ↔ IsOwed c.args.network.now s c.args.p d)
    (sym
    (c.channel_to_grow.ensures
    ∙ ap (λ n. channel_to_grow (cap_in (capacities s)) n c.walk-found.result) c.limit.ensures))
    (owed_by_finding c.args.network.now s c.args.p c.walk-found.result c.walk-found.ensures.exact d)

pub returns-clause-growth : goal.returns-clause-growth
returns-clause-growth g c B event last run d =
    let s = c.args.self.now in
    both
    (subst (λ r. (r ≡ Some d) ↔ IsOwed c.args.network.now s c.args.p d)
    (sym
    (c.channel_to_grow.ensures
    ∙ ap (λ n. channel_to_grow (cap_in (capacities s)) n c.walk-found.result) c.limit.ensures))
    (owed_by_finding c.args.network.now s c.args.p c.walk-found.result c.walk-found.ensures.exact d))
    (owed_by_history c.args.network.now c.known.ensures B event c.args.p last s run d)

pub returns-clause-nothing : goal.returns-clause-nothing
returns-clause-nothing g c B event last run none q d owes =
    let t = c.args.network.now in
    let s = c.args.self.now in
    let same : q ≡ c.args.p =
    Some-number q c.args.p (sym owes.wait ∙ ap waiter_of_last (last_or-push None B event) ∙ last) in
    let owed : IsOwed t s c.args.p d =
    (owed_by_history t c.known.ensures B event c.args.p last s run d).1
    (subst (λ x. OwesCycleGrowth t (B ++ event ∷ []) x d) same owes) in
    let some : channel_to_grow (cap_in (capacities s)) t.limit c.walk-found.result ≡ Some d =
    (owed_by_finding t s c.args.p c.walk-found.result c.walk-found.ensures.exact d).1 owed in
    let clash : ◌≡◌ {A = Option ℕ} None (Some d) =
    sym none ∙ c.channel_to_grow.ensures
    ∙ ap (λ n. channel_to_grow (cap_in (capacities s)) n c.walk-found.result) c.limit.ensures ∙ some in
    absurd cc

pub returns-clause-awaited : goal.returns-clause-awaited
returns-clause-awaited g c =
    let t = c.args.network.now in
    let s = c.args.self.now in
    subst (λ r. IfSome r (IsAwaitedBelowLimit t s))
    (sym
    (c.channel_to_grow.ensures
    ∙ ap (λ n. channel_to_grow (cap_in (capacities s)) n c.walk-found.result) c.limit.ensures))
    (awaited_if_found (channel_to_grow (cap_in (capacities s)) t.limit c.walk-found.result)
    (λ d is. awaited_in_cycle t s c.args.p d
    ((owed_by_finding t s c.args.p c.walk-found.result c.walk-found.ensures.exact d).0 is)))
  where
    awaited_if_found : (found : Option ℕ)
        → ((d : ℕ) → found ≡ Some d → IsAwaitedBelowLimit c.args.network.now c.args.self.now d)
        → IfSome found (IsAwaitedBelowLimit c.args.network.now c.args.self.now)
    awaited_if_found None each = tt
    awaited_if_found (Some d) each = each d refl
