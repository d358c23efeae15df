use Rattle.std.proofs.Common.{◌≡◌, ◌<◌, ◌≤◌, true, false, slice_get, length, refl, sym, subst, ◌∙◌, inl, inr, arith, rules}
use Rattle.kpn_chan.proofs.Common.{both_ways, false≢true, cases_lt, slice_get-get_or, items_of}
use Rattle.kpn_chan.proofs.Places.{begins_by_places, at_place_of_beginning}
use Rattle.kpn_chan.proofs.chunks.Chunks.begins_with.Goals as goal

pub returns-then-not-has_at : goal.returns-then-not-has_at
returns-then-not-has_at g c =
    let items = c.args.items.now in
    let place = c.items.place in
    let not_at : c.has_at.result ≡ false = search rules in
    let below : place < length items = search rules in (
      λ is. absurd (false≢true is),
      λ begins.
          absurd (both_ways c.has_at.result not_at (c.has_at.ensures.1
          (at_place_of_beginning items (items_of c.args.self.now) begins place below
          ∙ slice_get-get_or items place _ below))),
    )

pub items-preserved : goal.items-preserved
items-preserved g c k below =
    let items = c.args.items.now in
    let journal = (items_of c.args.self.now) in
    let place = c.items.place in
    let has_at : c.has_at.result ≡ true = search rules in
    let within : place < length items = search rules in
    elim (cases_lt k place) [
      | inl before ↦ c.items.invariant k before
      | inr behind ↦
          let here : place ≡ k = omega (arith, below, behind) in
          subst (λ j. slice_get journal j ≡ slice_get items j) here
          (c.has_at.ensures.0 has_at ∙ sym (slice_get-get_or items place _ within))
    ]

pub returns : goal.returns
returns g c =
    let items = c.args.items.now in
    let ended : length items ≤ c.items.place = search rules in (
      λ _.
          begins_by_places items (items_of c.args.self.now)
          (λ k below. c.items.invariant k (omega (arith, below, ended))),
      λ _. refl,
    )
