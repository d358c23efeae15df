use Rattle.kpn_region.proofs.Common.{◌≡◌, ◌+◌, ◌<◌, sym, ap, ◌∙◌, subst, true, false, get_or, slice_set, length, rules, get_or_read, process_events, no_frame, IsBatch, batch_of}
use Rattle.kpn_region.proofs.Batches.{turned, counted}
use Rattle.kpn_region.proofs.batch.Batch.turn.Given as given
use Rattle.kpn_region.proofs.batch.Batch.turn.Goals as goal
use Rattle.kpn_region.proofs.batch.Batch.turn.Goals.{After-stop}

after : (g : given.Over) (c : After-stop g)
    → IsBatch (batch_of c.self.inside.network.now c.self.inside.within.items c.self.inside.first.items
    (slice_set c.self.inside.frames.items c.args.p c.turn-turned.new.frame) c.turn-turned.new.self.sides.items
    c.turn-turned.new.self.events.items (slice_set c.self.inside.stops.items c.args.p c.stop.result))
after g c =
    let s = c.self.inside in
    let p = c.args.p in
    let told : c.has.result ≡ true = search rules in
    let below : p < length s.within.items =
    subst (λ xs. p < length xs) c.deref.ensures.value (c.has.ensures.there told) in
    let there : p < length s.network.now.instances = subst (λ k. p < k) c.self.invariant.0.is.within below in
    let framed : p < length s.frames.items = subst (λ k. p < k) (sym c.self.invariant.0.is.frames) there in
    turned s.network.now s.within.items s.first.items s.frames.items s.traffic.sides.items s.traffic.events.items
    s.stops.items c.self.invariant.0 p c.turn-turned.result.made there
    (subst (λ xs. get_or xs p false ≡ true) c.deref.ensures.value (c.has.ensures.within told))
    c.index_mut-frame.result.now c.turn-turned.new.frame c.reserve.new.self.sides.items
    c.turn-turned.new.self.sides.items c.reserve.new.self.events.items c.turn-turned.new.self.events.items
    (get_or_read s.frames.items p c.index_mut-frame.result.now framed c.index_mut-frame.ensures.value no_frame)
    c.reserve.ensures.sides c.reserve.ensures.events c.turn-turned.ensures.goes c.stop.result
    (c.stop.ensures s.network.now p c.turn-turned.new.frame c.turn-turned.ensures.halt)

count : (g : given.Over) (c : After-stop g)
    → c.self.inside.made + c.from.result ≡ process_events c.turn-turned.new.self.events.items
count g c =
    let s = c.self.inside in
    ap (λ n. s.made + n) c.from.ensures
    ∙ counted s.network.now c.args.p c.turn-turned.result.made s.made c.index_mut-frame.result.now
    c.turn-turned.new.frame c.reserve.new.self.sides.items c.turn-turned.new.self.sides.items s.traffic.events.items
    c.reserve.new.self.events.items c.turn-turned.new.self.events.items c.self.invariant.1 c.reserve.ensures.events
    c.turn-turned.ensures.goes

pub invariant_of-self-in-Stuck : goal.invariant_of-self-in-Stuck
invariant_of-self-in-Stuck g c =
    let at = (goal.at.invariant_of-self-in-Stuck g c).After-stop in
    (after g at, count g at)

pub invariant_of-self-in-Spent : goal.invariant_of-self-in-Spent
invariant_of-self-in-Spent g c =
    let at = (goal.at.invariant_of-self-in-Spent g c).After-stop in
    (after g at, count g at)

pub invariant_of-self-in-NoMemory : goal.invariant_of-self-in-NoMemory
invariant_of-self-in-NoMemory g c =
    let at = (goal.at.invariant_of-self-in-NoMemory g c).After-stop in
    (after g at, count g at)
