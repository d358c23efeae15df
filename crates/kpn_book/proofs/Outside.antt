-- What the calls of the outside do.
use Rattle.kpn_book.proofs.Common.{◌≡◌, is_some, cond, slice_get, ℕ, ◌<◌, ℤ, true, false, List, [], ◌∷◌, ◌++◌, length, Some, None, refl, sym, ap, ◌∙◌, subst, arith, false≢true, channel_at, is_source, is_sink, IsNetwork, ChannelState, unread, next_item, with_room, Event, Recorded, Machine, channel_in, closed_in, with_channel, IsMachine, Changes, Legal-due, Schedule, Book, Appends, Happens, all_made_ready, woken_by, IsAtBound, Feeds, Closes, closes_by, Takes, Leaves, leaves_by, Follows, IsSound, reserved_on, IsKept}
use Rattle.kpn_history.specs.declared.event.Event.TheVariants as event
use Rattle.kpn_book.proofs.Following.{recorded, moved, same_recorded, followed, own_none}
use Rattle.kpn_book.proofs.Committing.{kept_reserved_on, source_there}
use Rattle.kpn_book.proofs.Reserved.{appends_unreserved}

pub fed : (b o a : Book) (c : ℕ) (v : ℤ) (bound : ℕ) → is_source (channel_at b.tables c) ≡ true
    → closed_in b.machine c ≡ false → (IsAtBound (channel_in b.machine c) bound → ⊥)
    → c < length b.machine.channels → o ≡ reserved_on c b → Follows (event.Feed c v) o a → Feeds c v bound b a
fed b o a c v bound source not_closed below there is follows = record {
  source = record { source = source; not_closed = not_closed };
  below = below;
  appends =
      appends_unreserved b c there (event.Feed c v) a
      (subst (λ x. Appends (event.Feed c v) x a) is follows.appends);
}

-- a channel of the network is one of the machine, and has a mark there
module _ (b : Book) (kept : IsKept b) (c : ℕ) (there : c < length b.tables.channels) where
  pub in_channels : c < length b.machine.channels
  in_channels = subst (λ n. c < n) (sym kept.in_step.run.shape.channels) there

  pub in_closed : c < length b.machine.closed
  in_closed = subst (λ n. c < n) (sym kept.in_step.run.shape.closed) there

-- a book with room for more events is the same book
module _ (b : Book) (h : Recorded) (events : h.events ≡ b.history) (keeps : h.is_kept ≡ b.keeps_events) where
  same : recorded b h b.machine b.schedule ≡ b
  same = same_recorded b h b.machine b.schedule b.history events keeps

  pub kept_with_memory : IsKept b → IsKept (recorded b h b.machine b.schedule)
  kept_with_memory kept = subst IsKept (sym same) kept

  pub sound_reserved : IsKept b → IsSound (recorded b h b.machine b.schedule)
  sound_reserved kept =
      subst IsSound (sym same) (record { in_step = kept.in_step; nothing_owed = kept.nothing_owed })

  pub follows_reserved : (e : Event) (m : Book) → Follows e (recorded b h b.machine b.schedule) m → Follows e b m
  follows_reserved e m follows = subst (λ x. Follows e x m) same follows

pub closed : (b a : Book) (c : ℕ) → is_source (channel_at b.tables c) ≡ true → closed_in b.machine c ≡ false
    → Happens (event.Close c) b a → Closes c b a
closed b a c source not_closed is =
    record { source = source; closes = subst (λ x. closes_by x c b a) (sym not_closed) is }

pub taken : (b a : Book) (c : ℕ) (v : ℤ) → is_sink (channel_at b.tables c) ≡ true
    → (channel_in b.machine c).is_retired ≡ false → next_item (channel_in b.machine c) ≡ Some v
    → Happens (event.Take c v) b a → Takes c (Some v) b a
taken b a c v sink not_left item is =
    record { sink = record { sink = sink; not_left = not_left }; takes = (item, is) }

pub left : (b a : Book) (c : ℕ) → is_sink (channel_at b.tables c) ≡ true
    → (channel_in b.machine c).is_retired ≡ false → Happens (event.Leave c) b a → Leaves c b a
left b a c sink not_left is = record { sink = sink; leaves = subst (λ x. leaves_by x c b a) (sym not_left) is }

pub kept_with_item : (b o : Book) (c : ℕ) → c < length b.machine.channels → o ≡ reserved_on c b → IsKept b
    → IsKept o
kept_with_item b o c below is kept = subst IsKept (sym is) (kept_reserved_on b kept c below)

-- an item was reserved, then fed
pub fed_follows : (b : Book) → IsNetwork b.tables → IsKept b → (c : ℕ) (v : ℤ)
    → is_source (channel_at b.tables c) ≡ true
    → closed_in b.machine c ≡ false → (o s : Machine)
    → o ≡ with_channel c (with_room (channel_in b.machine c)) b.machine
    → Changes b.tables (event.Feed c v) o s → IsMachine b.tables s → (pushed : Event) (h : Recorded)
    → (order : Schedule) (ws : List ℕ) → pushed ≡ event.Feed c v → h.events ≡ b.history ++ pushed ∷ []
    → h.is_kept ≡ b.keeps_events → order ≡ all_made_ready ws b.schedule → ws ≡ woken_by b.tables o.waits (event.Feed c v)
    → Follows (event.Feed c v) (moved b o b.schedule) (recorded b h s order)
fed_follows b network kept c v source not_closed o s is changes shape pushed h order ws same history keeps wakes woken =
    let there = source_there b.tables c source in
    let long = kept.in_step.run.shape.channels in
    let below : c < length b.machine.channels = omega (arith, there, long) in
    let x = moved b o b.schedule in
    let now = kept_with_item b x c below (ap (λ z. moved b z b.schedule) is) kept in
    followed x network now.in_step (event.Feed c v) (own_none x) tt s changes shape
    (Legal-due b.tables network b.history o now.in_step.run now.nothing_owed (event.Feed c v) there
    (source, ap (λ z. closed_in z c) is ∙ not_closed))
    pushed h b.schedule order ws same history keeps refl wakes woken

-- nothing is unread on a sink that was not left and has no item
pub nothing_to_take : (ch : ChannelState) → ch.is_retired ≡ false → is_some (next_item ch) ≡ false → unread ch ≡ []
nothing_to_take ch lives none =
    empty_list (unread ch) (sym (ap (λ r. is_some (cond r None (slice_get (unread ch) 0))) lives) ∙ none)
  where
    empty_list : (xs : List ℤ) → is_some (slice_get xs 0) ≡ false → xs ≡ []
    empty_list [] is = refl
    empty_list (x ∷ xs) is = absurd (false≢true (sym is))
