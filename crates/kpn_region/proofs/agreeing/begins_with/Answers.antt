use Rattle.kpn_region.proofs.Common.{◌≡◌, ◌<◌, ◌≤◌, length, take, sym, ◌∙◌, subst, arith, rules, both_ways, Decides-int_eq, readable}
use Rattle.std.proofs.lemmas.Slice.Eq.{slice_eq-Decides}
use Rattle.kpn_region.proofs.Comparing.{begins_first, begins_both, begins_front, begins_back}
use Rattle.kpn_region.proofs.agreeing.begins_with.Goals as goal

pub returns-then-items-first : goal.returns-then-items-first
returns-then-items-first g c =
    let items = c.args.items.now in
    let first = c.readable.result.0.now in
    let head =
    begins_first items first c.readable.result.1.now (readable c.args.channel.now) c.readable.ensures
    c.if-items-first.true in
    let same = slice_eq-Decides Decides-int_eq items (take (length items) first) c.eq.result c.eq.ensures in (
      λ is. same.0 is ∙ head,
      λ begins. same.1 (begins ∙ sym head),
    )

pub returns-then-eq : goal.returns-then-eq
returns-then-eq g c =
    let items = c.args.items.now in
    let first = c.readable.result.0.now in
    let rest = c.readable.result.1.now in
    let all = readable c.args.channel.now in
    let front = c.split_at.result.0.now in
    let back = c.split_at.result.1.now in
    let long : length first < length items = search rules in
    let more : length first ≤ length items = omega (arith, long) in
    let parts = c.readable.ensures in
    let here = slice_eq-Decides Decides-int_eq front first c.eq-2.result c.eq-2.ensures in
    let behind =
    slice_eq-Decides Decides-int_eq back (take (length back) rest) c.eq-then-eq.result c.eq-then-eq.ensures in
    let cut = c.split_at.ensures.back in (
      λ is.
          begins_both items first rest all parts more (sym c.split_at.ensures.front ∙ here.0 c.if-eq.true)
          (subst (λ xs. xs ≡ take (length xs) rest) cut (behind.0 is)),
      λ begins.
          behind.1 (subst (λ xs. xs ≡ take (length xs) rest) (sym cut)
          (begins_back items first rest all parts more begins)),
    )

pub returns-else-eq : goal.returns-else-eq
returns-else-eq g c =
    let items = c.args.items.now in
    let first = c.readable.result.0.now in
    let rest = c.readable.result.1.now in
    let front = c.split_at.result.0.now in
    let long : length first < length items = search rules in
    let here = slice_eq-Decides Decides-int_eq front first c.eq-2.result c.eq-2.ensures in (
      λ is. absurd (both_ways c.eq-2.result c.if-eq.false is),
      λ begins.
          absurd (both_ways c.eq-2.result c.if-eq.false (here.1 (c.split_at.ensures.front
          ∙ begins_front items first rest (readable c.args.channel.now) c.readable.ensures (omega (arith, long))
          begins))),
    )
