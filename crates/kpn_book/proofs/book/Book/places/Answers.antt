use Rattle.kpn_book.proofs.Common.{◌≡◌, ℕ, ◌+◌, ◌*◌, ◌≤◌, max, Option, None, Some, refl, ap, ◌∙◌, arith, subst, unwrap_or, channel_in, IsKept}
use Rattle.kpn_chan.specs.declared.channel.TheConstants.{FIRST_PLACES}
use Rattle.kpn_chan.specs.declared.chunks.TheConstants.{CHUNK}
use Rattle.kpn_book.proofs.book.Book.places.Goals as goal

within : (most : ℕ) (capacity : Option ℕ) → ((cap : ℕ) → capacity ≡ Some cap → most ≤ cap)
    → max most (unwrap_or capacity 0) ≤ unwrap_or capacity most
within most None bound = omega arith
within most (Some cap) bound = let few = bound cap refl in omega (arith, few)

pub returns : goal.returns
returns g c forgets =
    let kept = subst IsKept c.self.view_is c.self.invariant in
    let channel = channel_in c.args.self.now.machine c.args.c in
    let is : c.channel.result.now ≡ channel =
    c.channel.ensures ∙ ap (λ b. channel_in b.machine c.args.c) c.self.view_is in
    let few : c.places.result ≤ CHUNK + FIRST_PLACES + 2 * max channel.most (unwrap_or channel.capacity 0) =
    subst (λ x. c.places.result ≤ CHUNK + FIRST_PLACES + 2 * max x.most (unwrap_or x.capacity 0)) is
    (c.places.ensures.bound (ap (λ x. x.is_kept) is ∙ forgets)) in
    let unread : max channel.most (unwrap_or channel.capacity 0) ≤ unwrap_or channel.capacity channel.most =
    within channel.most channel.capacity (λ cap. kept.in_step.run.shape.within c.args.c cap c.requires) in
    omega (arith, few, unread)
