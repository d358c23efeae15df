-- An event that is due by the machine may follow the history that leads there.
use Rattle.kpn_machine.proofs.Common.{◌≡◌, ◌≢◌, ℕ, ◌+◌, ◌<◌, Bool, true, false, not, ◌&&◌, ℤ, cond, eqb, List, [], ◌∷◌, ◌++◌, length, drop, map, Option, Some, None, slice_get, refl, sym, ap, ◌∙◌, subst, append-nil, not-true, get_or-map, Ending, Tables, channel_at, is_source, is_sink, instance_at, IsNetwork, ProcessCanSay, ProcessComesTo, ends_at_channel, EndsThere, reader_of-sink, Stop, ChannelState, unread, next_item, How, Event, talk_of, how_of, has_ended, read_on, read_in, unread_on, is_empty, is_full, is_closed, is_left, reader_lives, lives, reaches, capacity_after, HasNumbers, IsDue, CanGo, ending_of, Legal, IsOldest, KeepsConsistent, OwesNothing, read_on-push, IsLast, IsLast-ending_of, Legal-exactly, item_here, Machine, channel_in, closed_in, end_in, frame_in, IsFree, HoldsChannel, IsEndOf, IsRun, Stands, ReadsFrom, WritesTo, stop_for, stop_of, IsDueNow}
use Rattle.kpn_lang.specs.declared.talk.Said.TheVariants as said
use Rattle.kpn_lang.specs.declared.talk.Ending.TheVariants as ending
use Rattle.kpn_lang.specs.declared.value.Fault.{Fault}
use Rattle.kpn_lang.specs.declared.value.Fault.TheVariants.{Overflow, ZeroDivisor, Index, Shift}
use Rattle.kpn_step.specs.declared.stop.Stop.TheVariants as stop
use Rattle.kpn_chan.specs.Channel as chan
use Rattle.kpn_chan.proofs.Reading.{given, drop-given}
use Rattle.kpn_history.specs.declared.event.Event.TheVariants.{Get, Put, WaitEmpty, WaitFull, Ended, Feed, Close, Take, Leave, Grow}
use Rattle.kpn_machine.proofs.Talking.{CanSay-next, ComesTo-end}

-- ---- ends as stops

pub stop_of-fault : (fault : Fault) → stop_of (how_of fault) ≡ stop.Faulted fault
stop_of-fault Overflow = refl
stop_of-fault ZeroDivisor = refl
stop_of-fault Index = refl
stop_of-fault Shift = refl

last_is_no_pause : (end : Ending) → IsLast end → stop_for end ≢ stop.Paused
last_is_no_pause ending.Done last e = absurd cc
last_is_no_pause (ending.Faulted fault) last e = absurd cc
last_is_no_pause end last e = absurd last

pub end_is_no_pause : (how : How) → stop_of how ≢ stop.Paused
end_is_no_pause how = last_is_no_pause (ending_of how) (IsLast-ending_of how)

-- ---- channels

module _ (t : Tables) (H : List Event) (c : ℕ) (ch : ChannelState) (holds : HoldsChannel t H c ch) where
  pub unread_same : unread ch ≡ unread_on H c
  unread_same = ap (λ n. drop n ch.journal) holds.read ∙ ap (drop (length (read_on H c))) holds.journal

  pub full_same : chan.is_channel_full ch ≡ is_full t H c
  full_same =
      ap (λ b. not b && chan.fills (length (unread ch)) ch.capacity) holds.retired
      ∙ ap (λ o. not (not (reader_lives t H c)) && chan.fills (length (unread ch)) o) holds.capacity
      ∙ ap (λ xs. not (not (reader_lives t H c)) && chan.fills (length xs) (capacity_after t H c)) unread_same
      ∙ tests (reader_lives t H c) (capacity_after t H c) (length (unread_on H c))
    where
      tests : (b : Bool) (cap : Option ℕ) (n : ℕ) → (not (not b) && chan.fills n cap) ≡ (b && reaches cap n)
      tests true None n = refl
      tests true (Some cap) n = refl
      tests false cap n = refl

  pub oldest : (v : ℤ) → next_item ch ≡ Some v → IsOldest H c v
  oldest v e =
      record {
        rest = drop (ch.read + 1) ch.journal;
        first = sym unread_same ∙ drop-given ch.journal ch.read v (given ch.is_retired _ v e);
      }

  pub has_reader : (v : ℤ) → next_item ch ≡ Some v → ch.is_retired ≡ false
  has_reader v e = by_test ch.is_retired (slice_get (unread ch) 0) e
    where
      by_test : (b : Bool) (o : Option ℤ) → cond b None o ≡ Some v → b ≡ false
      by_test true o e = absurd cc
      by_test false o e = refl

  pub not_left : is_sink (channel_at t c) ≡ true → ch.is_retired ≡ false → is_left H c ≡ false
  not_left sink is =
      not-true (is_left H c)
      (sym (ap (lives H c) (reader_of-sink t c sink)) ∙ lives_then (reader_lives t H c) (sym holds.retired ∙ is))
    where
      lives_then : (b : Bool) → not b ≡ false → b ≡ true
      lives_then true e = refl
      lives_then false e = absurd cc

  pub empty_same : unread ch ≡ [] → is_empty H c ≡ true
  empty_same e = ap (λ xs. eqb (length xs) 0) (sym unread_same ∙ e)

-- ---- what a process says next

module _ (t : Tables) (network : IsNetwork t) (H : List Event) (s : Machine) (run : IsRun t H s) (p : ℕ)
    (there : p < length t.instances) where
  pub says_got : (c : ℕ) (v : ℤ) → ReadsFrom t s p c
      → ProcessCanSay t p (read_on (H ++ Get p c v ∷ [])) (talk_of H p ++ said.Got c v ∷ [])
  says_got c v reads =
      subst (λ d. ProcessCanSay t p (read_on (H ++ Get p c v ∷ [])) (talk_of H p ++ said.Got d v ∷ [])) (reads.channel.1)
      (CanSay-next t network H run.legal p there (frame_in s p) (run.leads.frames p there)
      (stop.WantRead reads.port) reads.stands (λ e. absurd cc)
      (read_on (H ++ Get p c v ∷ [])) (λ d. read_in d (Get p c v)) (read_on-push H (Get p c v))
      (said.Got reads.port v) (
        refl,
        (
          [],
          get_or-map (λ d. read_in d (Get p c v)) (instance_at t p).ins reads.port 0 []
              (reads.channel.0) ∙ ap (λ d. read_in d (Get p c v)) (reads.channel.1)
              ∙ item_here c v,
        ),
      ))

  pub says_put : (c : ℕ) (v : ℤ) → WritesTo t s p c v → ProcessCanSay t p (read_on H) (talk_of H p ++ said.Put c v ∷ [])
  says_put c v writes =
      subst (λ d. ProcessCanSay t p (read_on H) (talk_of H p ++ said.Put d v ∷ [])) (writes.channel.1)
      (CanSay-next t network H run.legal p there (frame_in s p) (run.leads.frames p there)
      (stop.WantWrite writes.port v) writes.stands (λ e. absurd cc)
      (read_on H) (λ d. []) (λ d. sym (append-nil (read_on H d)))
      (said.Put writes.port v) (refl, refl))

-- ---- events of a process

module _ (t : Tables) (network : IsNetwork t) (H : List Event) (s : Machine) (run : IsRun t H s)
    (owes : OwesNothing t H) where
  -- nothing else has to follow
  legal_with : (e : Event) → HasNumbers t e → IsDue t H e → KeepsConsistent t H e → Legal t (H ++ e ∷ [])
  legal_with e numbers due keeps =
      (Legal-exactly t H e).1
      (run.legal, record { numbers = numbers; due = due; growth = λ q d owed. absurd (owes q d owed) }, keeps)

  pub lives_there : (p : ℕ) → p < length t.instances → end_in s p ≡ None → has_ended H p ≡ false
  lives_there p there e = subst (IsEndOf H p) e (run.leads.ends p there)

  pub may_go : (p : ℕ) → p < length t.instances → IsFree s p → CanGo t H p
  may_go p there free =
      record { lives = lives_there p there free.lives; free = sym (run.leads.waits p there) ∙ free.free }

  module _ (p : ℕ) (there : p < length t.instances) (free : IsFree s p) where
    pub Legal-got : (c : ℕ) (v : ℤ) → c < length t.channels → ReadsFrom t s p c → next_item (channel_in s c) ≡ Some v
        → Legal t (H ++ Get p c v ∷ [])
    Legal-got c v below reads ready =
        legal_with (Get p c v) (there, below) (may_go p there free) (
          oldest t H c (channel_in s c) (run.leads.channels c below) v ready,
          says_got t network H s run p there c v reads,
        )

    pub Legal-put : (c : ℕ) (v : ℤ) → c < length t.channels → WritesTo t s p c v
        → chan.is_channel_full (channel_in s c) ≡ false → Legal t (H ++ Put p c v ∷ [])
    Legal-put c v below writes ready =
        legal_with (Put p c v) (there, below) (may_go p there free)
        (sym (full_same t H c (channel_in s c) (run.leads.channels c below)) ∙ ready, says_put t network H s run p there c v writes)

    pub Legal-wait_full : (c : ℕ) (v : ℤ) → c < length t.channels → WritesTo t s p c v
        → chan.is_channel_full (channel_in s c) ≡ true → Legal t (H ++ WaitFull p c ∷ [])
    Legal-wait_full c v below writes ready =
        legal_with (WaitFull p c) (there, below) (
          may_go p there free,
          record {
            item = v;
            next = says_put t network H s run p there c v writes;
            full = sym (full_same t H c (channel_in s c) (run.leads.channels c below)) ∙ ready;
          },
        ) tt

    comes_to : (at : Stop) → Stands t s p at → at ≢ stop.Paused → (end : Ending)
        → EndsThere at (map (λ d. []) (instance_at t p).ins) end → ends_at_channel (instance_at t p) end ≢ ending.Cut
        → ProcessComesTo t p (read_on H) (ends_at_channel (instance_at t p) end) (talk_of H p)
    comes_to at stands no_pause end ends whole =
        ComesTo-end t network H run.legal p there (frame_in s p) (run.leads.frames p there) at stands no_pause
        (read_on H) (λ d. []) (λ d. sym (append-nil (read_on H d))) end ends whole

    pub Legal-wait_empty : (c : ℕ) → c < length t.channels → ReadsFrom t s p c → unread (channel_in s c) ≡ []
        → Legal t (H ++ WaitEmpty p c ∷ [])
    Legal-wait_empty c below reads ready =
        legal_with (WaitEmpty p c) (there, below) (
          may_go p there free,
          record {
            starved = subst (λ d. ProcessComesTo t p (read_on H) (ending.Starved d) (talk_of H p)) (reads.channel.1)
                (comes_to (stop.WantRead reads.port) reads.stands (λ e. absurd cc) (ending.Starved reads.port)
                (refl, get_or-map (λ d. []) (instance_at t p).ins reads.port 0 [] (reads.channel.0))
                (λ e. absurd cc));
            empty = empty_same t H c (channel_in s c) (run.leads.channels c below) ready;
          },
        ) tt

    comes_last : (end : Ending) → IsLast end → Stands t s p (stop_for end) → ProcessComesTo t p (read_on H) end (talk_of H p)
    comes_last ending.Done last stands = comes_to stop.Done stands (λ e. absurd cc) ending.Done tt (λ e. absurd cc)
    comes_last (ending.Faulted fault) last stands =
        comes_to (stop.Faulted fault) stands (λ e. absurd cc) (ending.Faulted fault) refl (λ e. absurd cc)
    comes_last end last stands = absurd last

    pub Legal-ended : (how : How) → Stands t s p (stop_of how) → Legal t (H ++ Ended p how ∷ [])
    Legal-ended how stands =
        legal_with (Ended p how) there (
          may_go p there free,
          comes_last (ending_of how) (IsLast-ending_of how) stands,
        ) tt

  -- ---- events of the caller

  module _ (c : ℕ) (below : c < length t.channels) where
    still_open : closed_in s c ≡ false → is_closed H c ≡ false
    still_open e = sym (run.leads.closed c below) ∙ e

    pub Legal-fed : (v : ℤ) → is_source (channel_at t c) ≡ true → closed_in s c ≡ false → Legal t (H ++ Feed c v ∷ [])
    Legal-fed v source e = legal_with (Feed c v) below (record { source = source; not_closed = still_open e }) tt

    pub Legal-closed : is_source (channel_at t c) ≡ true → closed_in s c ≡ false → Legal t (H ++ Close c ∷ [])
    Legal-closed source e = legal_with (Close c) below (record { source = source; not_closed = still_open e }) tt

    pub Legal-taken : (v : ℤ) → is_sink (channel_at t c) ≡ true → next_item (channel_in s c) ≡ Some v
        → Legal t (H ++ Take c v ∷ [])
    Legal-taken v sink ready =
        legal_with (Take c v) below
        (record {
          sink = sink;
          not_left =
              not_left t H c (channel_in s c) (run.leads.channels c below) sink
              (has_reader t H c (channel_in s c) (run.leads.channels c below) v ready);
        })
        (oldest t H c (channel_in s c) (run.leads.channels c below) v ready)

    pub Legal-left : is_sink (channel_at t c) ≡ true → (channel_in s c).is_retired ≡ false
        → Legal t (H ++ Leave c ∷ [])
    Legal-left sink is =
        legal_with (Leave c) below
        (record { sink = sink; not_left = not_left t H c (channel_in s c) (run.leads.channels c below) sink is })
        tt

  -- each event that is due
  pub Legal-due : (e : Event) → HasNumbers t e → IsDueNow t s e → Legal t (H ++ e ∷ [])
  Legal-due (Get p c v) numbers due = Legal-got p numbers.0 due.0 c v numbers.1 due.1 due.2
  Legal-due (Put p c v) numbers due = Legal-put p numbers.0 due.0 c v numbers.1 due.1 due.2
  Legal-due (WaitEmpty p c) numbers due = Legal-wait_empty p numbers.0 due.0 c numbers.1 due.1 due.2
  Legal-due (WaitFull p c) numbers due = Legal-wait_full p numbers.0 due.0 c due.1.0 numbers.1 due.1.1 due.2
  Legal-due (Ended p how) numbers due = Legal-ended p numbers due.0 how due.1
  Legal-due (Feed c v) numbers due = Legal-fed c numbers v due.0 due.1
  Legal-due (Close c) numbers due = Legal-closed c numbers due.0 due.1
  Legal-due (Take c v) numbers due = Legal-taken c numbers v due.0 due.1
  Legal-due (Leave c) numbers due = Legal-left c numbers due.0 due.1
  Legal-due (Grow p d n) numbers due = absurd due
