use Rattle.std.proofs.Common.{◌≡◌, ℤ, ◌+◌, ◌<◌, take, set, Some, sym, ◌∙◌, subst, rules, arith, w64, SFits, to_z, of_z}
use Rattle.kpn_c.proofs.Common.{to_z-of_z, length-set, item_after, channel_in, next_items}
use Rattle.kpn_c.proofs.OneMore.{rest_then}
use Rattle.kpn_c.proofs.Shown.{shown_more, there_is}
use Rattle.kpn_c.proofs.looking.look.Goals as goal

pub places-preserved : goal.places-preserved
places-preserved c =
    let channel = channel_in c.args.book.now.machine c.args.channel in
    let item : ℤ = c.in-Some.item in
    let fits : SFits w64 item = search rules in
    let put : ℤ = to_z w64 (of_z w64 item) in
    let k = c.places.count in
    let so_far = c.places.invariant in
    let next : item_after k channel ≡ Some item = sym c.next_at.ensures ∙ c.in-Some.is in
    let there = there_is k channel item next in
    let room = subst (λ n. k < n) (sym so_far.long) c.places-test.true in
    record {
      shown =
          subst (λ v. take (k + 1) (set c.places.room k v) ≡ take (k + 1) (next_items channel))
          (sym (to_z-of_z w64 item fits)) (shown_more k channel item c.places.room next room so_far.shown);
      rest = rest_then c.places.room c.args.room.now k put so_far.rest;
      long = length-set c.places.room k put ∙ so_far.long;
      within = omega (arith, there);
    }
