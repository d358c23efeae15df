use Rattle.kpn_region.proofs.Common.{◌≡◌, true, length, take, sym, ap, ◌∙◌, subst, rules, readable}
use Rattle.kpn_region.proofs.Comparing.{agrees_if, rest_if}
use Rattle.kpn_region.proofs.agreeing.agrees.Goals as goal

pub returns : goal.returns
returns g c t d sink_is =
    let side = c.args.side.now in
    let channel = c.args.channel.now in
    let so : c.begins_with.result ≡ true = search rules in
    let same : take c.claimed.result c.items-items.result.now ≡ take side.claimed side.items =
    ap (λ n. take n c.items-items.result.now) c.claimed.ensures ∙ ap (take side.claimed) c.items-items.ensures in (
      λ is.
          agrees_if t d c.args.sink sink_is side channel c.known.ensures
          (subst (λ xs. xs ≡ take (length xs) (readable channel)) same (c.begins_with.ensures.0 so))
          (sym c.rest_agrees.ensures ∙ is),
      λ h. c.rest_agrees.ensures ∙ rest_if t d c.args.sink sink_is side channel c.known.ensures h,
    )
