use Rattle.std.proofs.Common.{◌≡◌, ◌<◌, ◌+◌, ◌≤◌, ◌^◌, false, List, ℤ, length, nat_lt, sym, ap, ◌∙◌, subst, length-drop, rules}
use Rattle.kpn_region.proofs.Common.{nil_from_length, AreWaits, unread, batch_joined, channel_in, AreWoken, ends_by_batch, SideState, side_at, items_put, has_put_items}
use Rattle.kpn_region.proofs.Piecewise.{nothing_joined}
use Rattle.kpn_region.proofs.Sides.{kept_of, put_of, handed_on, puts_some, may_join, bounded, is_joined}
use Rattle.kpn_region.proofs.batch.Batch.join_channel.Goals as goal

pub most_seen-most-requires-clause-bound : goal.most_seen-most-requires-clause-bound
most_seen-most-requires-clause-bound g c =
    let b = c.args.self.now in
    let n = c.args.c in
    let side = side_at b.now n in
    let channel = channel_in c.args.machine.now n in
    let at = c.channel-channel.ensures in
    subst (λ (s : SideState). length (unread c.channel-channel.result.now) + s.most < 2 ^ 64) (sym c.side-side.ensures)
    (subst (λ x. length (unread x) + side.most < 2 ^ 64) (sym at)
    (bounded b.tables n side channel c.requires.agrees (kept_of b c.known.ensures n c.requires.channel channel c.requires.agrees)
    (subst (λ x. x.read ≤ length x.journal) at c.known-3.ensures.read)
    (subst (λ x. x.is_retired ≡ false → length (unread x) ≤ x.most) at c.known-3.ensures.most)
    (subst (λ x. length x.journal < 2 ^ 64) at c.known-3.ensures.bound)))

pub join_channel-requires-clause-joins : goal.join_channel-requires-clause-joins
join_channel-requires-clause-joins g c =
    let b = c.args.self.now in
    let n = c.args.c in
    let side = side_at b.now n in
    let channel = channel_in c.args.machine.now n in
    let at = c.channel-channel.ensures in
    let h =
    handed_on c.side-side.result.now side c.side-side.ensures c.channel-channel.result.now channel
    c.channel-channel.ensures c.taken-taken.result c.claimed.result c.most_seen-most.result c.items.result.now
    c.split_at.result.1.now c.taken-taken.ensures c.claimed.ensures c.items.ensures c.split_at.ensures.back
    c.most_seen-most.ensures in
    rw (h.taken_is, h.put_is, h.most_is)
    (may_join b.tables n (side_at b.now n) channel c.requires.agrees (kept_of b c.known.ensures n c.requires.channel channel c.requires.agrees)
    (subst (λ x. x.read ≤ length x.journal) at c.known-3.ensures.read)
    (subst (λ x. x.is_retired ≡ false → length (unread x) ≤ x.most) at c.known-3.ensures.most))

pub returns-then-is_empty : goal.returns-then-is_empty
returns-then-is_empty g c =
    let b = c.args.self.now in
    let n = c.args.c in
    let s = c.args.machine.now in
    let none_taken : c.taken-taken.result ≡ 0 = search rules in
    let no_items : length c.split_at.result.1.now ≡ 0 = search rules in
    let none_put = nil_from_length c.split_at.result.1.now no_items in
    nothing_joined b n s c.requires.waits
    (ap (λ (x : SideState). x.taken) (sym c.side-side.ensures) ∙ sym c.taken-taken.ensures ∙ none_taken)
    (sym (put_of c.side-side.result.now (side_at b.now n) c.side-side.ensures c.claimed.result c.items.result.now
    c.split_at.result.1.now c.claimed.ensures c.items.ensures c.split_at.ensures.back) ∙ none_put)
    (kept_of b c.known.ensures n c.requires.channel (channel_in s n) c.requires.agrees)

pub returns : goal.returns
returns g c =
    let b = c.args.self.now in
    let n = c.args.c in
    let side = side_at b.now n in
    let before = c.args.machine.now in
    let after = c.join_channel.new.self in
    let now = channel_in after n in
    let channel = channel_in before n in
    let h =
    handed_on c.side-side.result.now side c.side-side.ensures c.channel-channel.result.now channel
    c.channel-channel.ensures c.taken-taken.result c.claimed.result c.most_seen-most.result c.items.result.now
    c.split_at.result.1.now c.taken-taken.ensures c.claimed.ensures c.items.ensures c.split_at.ensures.back
    c.most_seen-most.ensures in
    let some : nat_lt 0 (length c.split_at.result.1.now) ≡ has_put_items side =
    ap (λ (l : List ℤ). nat_lt 0 (length l)) h.put_is
    ∙ ap (nat_lt 0) (length-drop side.claimed side.items)
    ∙ puts_some side.claimed (length side.items) in
    record {
      rest = c.join_channel.ensures.after;
      channel =
          is_joined b.tables n side channel c.requires.agrees now
          (c.join_channel.ensures.channel
          ∙ ap (λ k. batch_joined k c.split_at.result.1.now c.most_seen-most.result now.is_reserved now.is_roomy channel) h.taken_is
          ∙ ap (λ l. batch_joined side.taken l c.most_seen-most.result now.is_reserved now.is_roomy channel) h.put_is
          ∙ ap (λ m. batch_joined side.taken (items_put side) m now.is_reserved now.is_roomy channel) h.most_is)
          (λ none. c.join_channel.ensures.reserved (h.put_is ∙ none));
      woken =
          subst (λ k. AreWoken (ends_by_batch n (nat_lt 0 k) (has_put_items side)) before.waits after.waits) h.taken_is
          (subst (λ x. AreWoken (ends_by_batch n (nat_lt 0 c.taken-taken.result) x) before.waits after.waits) some
          c.join_channel.ensures.woken);
      waits = subst (λ t. AreWaits t after.waits) c.requires.tables c.join_channel.ensures.waits;
    }
