-- What each call does to a machine: its parts change as the call's event changes them.
use Rattle.std.proofs.Common.{◌≡◌, ◌≢◌, ℕ, ◌+◌, ◌<◌, Bool, true, false, ◌||◌, ℤ, eqb, eq-eqb, IsTrue, List, [], ◌∷◌, ◌++◌, length, get_or, slice_set, Option, Some, refl, sym, ap, ◌∙◌, subst, inl, inr, arith, append-nil, add-zero, length-set}
use Rattle.std.proofs.lemmas.Bool.{cases_eq, ne_eqb, eqb-true}
use Rattle.kpn_machine.proofs.Common.{get_or-set_same, get_or-set_other, get_or_default, Wait, Process, Sink, Tables, channel_at, is_source, reader_of, writer_of, program_of, wait_at, IsOwnWait, AreWaits, waits-set, Parts, Frame, fits, passed, IsGiven, Fits-from, ChannelState, after_put, after_get, retired, is_channel_full, most_after, How, Event, is_of, written_in, read_in, is_close_of, wait_made, wakes, capacity_then, takes_end, takes_reader, none_elsewhere, item_here, Machine, channel_in, closed_in, frame_in, no_frame, IsMachine, IsFree, with_closed, with_waits, with_frame, end_then, IsChannelAfter, IsFrameAfter, Changes, ReadsFrom, WritesTo, is_wait, woken_at, AreWoken}
use Rattle.kpn_net.specs.declared.wait.Wait.TheVariants.{Nobody, Empty, Full}
use Rattle.kpn_history.specs.declared.event.Event.TheVariants.{Get, Put, WaitEmpty, WaitFull, Feed, Close, Take, Leave}
use Rattle.kpn_machine.proofs.Parts.{or-false, IsUntouched, untouched, keeps_reader, channels_set, waits_of_kind, wakes-get, wakes-take, wakes-leave, wakes-put, wakes-feed, waits_set, wakes-wait_empty, wakes-wait_full, wait_then-close, KeepsRoom, SameLengths, IsMachine-next}
use Rattle.kpn_machine.proofs.Woken.{end_of, process_woken, stay}

-- the event changes the first machine into the second, which is still one of the network
pub record Made (t : Tables) (e : Event) (before after : Machine) : Type 0 where
  pub changes : Changes t e before after
  pub shape : IsMachine t after

pub Made-from : (t : Tables) (e : Event) (before after : Machine) → IsMachine t before
    → KeepsRoom t before e → Changes t e before after → SameLengths before after → AreWaits t after.waits
    → Made t e before after
Made-from t e before after h keeps a same waits =
    record { changes = a; shape = IsMachine-next t e before after h keeps a same waits }

-- ---- channels

elsewhere : (c d : ℕ) → d ≢ c → c ≡ d → ⊥
elsewhere c d differ e = differ (sym e)

writes_none : (ch : ChannelState) (xs : List ℤ) → xs ≡ [] → ch.journal ≡ ch.journal ++ xs
writes_none ch xs none = sym (ap (λ xs. ch.journal ++ xs) none ∙ append-nil ch.journal)

reads_none : (ch : ChannelState) (xs : List ℤ) → xs ≡ [] → ch.read ≡ ch.read + length xs
reads_none ch xs none = sym (ap (λ xs. ch.read + length xs) none ∙ add-zero ch.read)

reads_one : (ch : ChannelState) (xs : List ℤ) (v : ℤ) → xs ≡ v ∷ [] → ch.read + 1 ≡ ch.read + length xs
reads_one ch xs v is = sym (ap (λ xs. ch.read + length xs) is)

stays_retired : (ch : ChannelState) (b : Bool) → b ≡ false → ch.is_retired ≡ (ch.is_retired || b)
stays_retired ch b is = sym (ap (λ b. ch.is_retired || b) is ∙ or-false ch.is_retired)

becomes_retired : (ch : ChannelState) (b : Bool) → b ≡ true → true ≡ (ch.is_retired || b)
becomes_retired ch b is = sym (ap (λ b. ch.is_retired || b) is ∙ or-true ch.is_retired)
  where
    or-true : (b : Bool) → (b || true) ≡ true
    or-true true = refl
    or-true false = refl

put_is_no_silence : (v : ℤ) (xs : List ℤ) → xs ≡ v ∷ [] → xs ≡ [] → ⊥
put_is_no_silence v xs is none = let e : (v ∷ []) ≡ [] = sym is ∙ none in absurd cc

-- a read of the item by an event
channel_read : (t : Tables) (e : Event) (c : ℕ) (v : ℤ) (r : Bool) (ch : ChannelState) → written_in c e ≡ []
    → read_in c e ≡ v ∷ [] → takes_reader t c e ≡ false → ((cap : Option ℕ) → capacity_then t c e cap ≡ cap)
    → (IsTrue ch.is_reserved → IsTrue r) → IsChannelAfter t e c ch (after_get (Some v) r ch)
channel_read t e c v r ch writes reads stays cap keep =
    record {
      journal = writes_none ch (written_in c e) writes;
      read = reads_one ch (read_in c e) v reads;
      capacity = sym (cap ch.capacity);
      retired = stays_retired ch (takes_reader t c e) stays;
      reserved = λ none is. keep is;
      most = sym (ap (λ xs. most_after xs ch) writes);
      kept = refl;
    }

-- a put of the item by an event
channel_put : (t : Tables) (e : Event) (c : ℕ) (v : ℤ) (r : Bool) (ch : ChannelState) → written_in c e ≡ v ∷ []
    → read_in c e ≡ [] → takes_reader t c e ≡ false → ((cap : Option ℕ) → capacity_then t c e cap ≡ cap)
    → IsChannelAfter t e c ch (after_put v r ch)
channel_put t e c v r ch writes reads stays cap =
    record {
      journal = ap (λ xs. ch.journal ++ xs) (sym writes);
      read = reads_none ch (read_in c e) reads;
      capacity = sym (cap ch.capacity);
      retired = stays_retired ch (takes_reader t c e) stays;
      reserved = λ none is. absurd (put_is_no_silence v (written_in c e) writes none);
      most = ap (λ xs. most_after xs ch) (sym writes);
      kept = refl;
    }

-- ---- frames

-- two frames of one program have as many variables and cells
pub same_size : (parts : Parts) (f g : Frame) → IsTrue (fits parts f) → IsTrue (fits parts g)
    → length f.variables ≡ length g.variables
same_size parts f g one other = (Fits-from parts f one).variables ∙ sym (Fits-from parts g other).variables

pub frame_in-same : (s : Machine) (p : ℕ) (g : Frame) → p < length s.frames → frame_in (with_frame p g s) p ≡ g
frame_in-same s p g there = get_or-set_same s.frames p g _ there

pub frame_in-other : (s : Machine) (p q : ℕ) (g : Frame) → q ≢ p → frame_in (with_frame p g s) q ≡ frame_in s q
frame_in-other s p q g differ = get_or-set_other s.frames p q g _ differ

nothing_on : (t : Tables) (e : Event) (d : ℕ) → written_in d e ≡ [] → read_in d e ≡ []
    → ((cap : Option ℕ) → capacity_then t d e cap ≡ cap) → takes_reader t d e ≡ false → IsUntouched t e d
nothing_on t e d writes reads cap stays = record { written = writes; read = reads; capacity = cap; reader = stays }

not_nobody : (wait : Wait) → wait ≢ Nobody → is_wait wait Nobody ≡ false
not_nobody Nobody some = absurd (some refl)
not_nobody (Empty c) some = refl
not_nobody (Full c) some = refl

-- ---- what the code sees of a machine through a view

-- the element at a place of a list is the one that a clause names
pub element : {X : Type 0} (xs ys : List X) (i : ℕ) (x d : X) → xs ≡ ys → i < length ys → x ≡ get_or xs i x
    → x ≡ get_or ys i d
element xs ys i x d same below is = is ∙ ap (λ zs. get_or zs i x) same ∙ get_or_default ys i x d below

module _ (t : Tables) (s : Machine) (shape : IsMachine t s) where
  -- for a machine that is given in full
  pub made : (e : Event) (final after : Machine) → after ≡ final → KeepsRoom t s e → Changes t e s final
      → SameLengths s final → AreWaits t final.waits → Made t e s after
  made e final after is keeps changes same waits =
      subst (λ x. Made t e s x) (sym is) (Made-from t e s final shape keeps changes same waits)

  -- an event on one channel that closes nothing, ends no process and wakes those that wait in this way
  pub made_on : (e : Event) (c : ℕ) (ch : ChannelState) (wait : Wait) (frames : List Frame)
      → c < length t.channels → KeepsRoom t s e → IsChannelAfter t e c (channel_in s c) ch
      → ((d : ℕ) → d ≢ c → IsUntouched t e d)
      → ((d : ℕ) → is_close_of d e ≡ false) → ((q : ℕ) (end : Option How) → end_then e q end ≡ end)
      → wait ≢ Nobody → ((w : Wait) → wakes t e w ≡ is_wait wait w) → wait_made e ≡ Nobody
      → ((q : ℕ) → is_of q e ≡ true → wait_at s.waits q ≡ Nobody)
      → length frames ≡ length s.frames
      → ((q : ℕ) → IsFrameAfter t e q (frame_in s q) (get_or frames q no_frame))
      → (waits : List Wait) → waits ≡ woken_at (is_wait wait) s.waits (end_of t wait)
      → (after : Machine)
      → after ≡ record s { channels = slice_set s.channels c ch; waits = waits; frames = frames } → Made t e s after
  made_on e c ch wait frames below keeps here elsewhere closes ends some wakes_it makes_none free long moved waits woke
      after is =
      made e (record s { channels = slice_set s.channels c ch; waits = waits; frames = frames }) after is keeps
      (record {
        channels = λ d there. channels_set t e s.channels c ch (omega (arith, shape.channels)) here elsewhere d;
        closed = λ d there. sym (ap (λ b. closed_in s d || b) (closes d) ∙ or-false (closed_in s d));
        waits =
            λ q there.
            waits_of_kind t e (is_wait wait) s.waits waits
            (subst (λ ws. AreWoken (is_wait wait) s.waits ws) (sym woke)
            (process_woken t s.waits shape.waits wait some))
            wakes_it (not_nobody wait some) free makes_none q;
        ends = λ q there. sym (ends q _);
        frames = λ q there. moved q;
      })
      (record { channels = length-set s.channels c ch; closed = refl; ends = refl; frames = long })
      (subst (λ ws. AreWaits t ws) (sym woke) (stay t s.waits shape.waits wait (end_of t wait)))

  -- the event of a process moves its frame
  frames_moved : (p : ℕ) (g : Frame) (P : ℕ → Frame → Frame → Type 0) → p < length t.instances
      → P p (frame_in s p) g → ((q : ℕ) → p ≢ q → P q (frame_in s q) (frame_in s q)) → (q : ℕ)
      → P q (frame_in s q) (frame_in (with_frame p g s) q)
  frames_moved p g P there own other q =
      elim (cases_eq p q) [
        | inl same ↦
            subst (λ x. P x (frame_in s x) (frame_in (with_frame p g s) x)) same
            (subst (λ f. P p (frame_in s p) f) (sym (frame_in-same s p g (omega (arith, shape.frames)))) own)
        | inr differ ↦
            subst (λ f. P q (frame_in s q) f) (sym (frame_in-other s p q g (λ e. differ (sym e)))) (other q differ)
      ]

  own_is_free : (p : ℕ) → IsFree s p → (q : ℕ) → eqb p q ≡ true → wait_at s.waits q ≡ Nobody
  own_is_free p free q is = subst (λ x. wait_at s.waits x ≡ Nobody) (eqb-true p q is) free.free

  nobody_of : (q : ℕ) → false ≡ true → wait_at s.waits q ≡ Nobody
  nobody_of q is = absurd cc

  -- ---- an item enters a channel, or leaves it

  module _ (c : ℕ) (v : ℤ) (ch : ChannelState) (below : c < length t.channels) (waits : List Wait)
      (after : Machine) where
    module _ (put : ch ≡ after_put v ch.is_reserved (channel_in s c))
        (woke : waits ≡ woken_at (is_wait (Empty c)) s.waits (reader_of t c)) where
      pub Made-put : (p : ℕ) → p < length t.instances → IsFree s p → WritesTo t s p c v → writer_of t c ≡ Process p
          → is_channel_full (channel_in s c) ≡ false
          → after ≡ record s {
            channels = slice_set s.channels c ch;
            waits = waits;
            frames = slice_set s.frames p (passed (frame_in s p));
          }
          → Made t (Put p c v) s after
      Made-put p there free writes own room is =
          made_on (Put p c v) c ch (Empty c) (slice_set s.frames p (passed (frame_in s p))) below (own, room)
          (subst (λ x. IsChannelAfter t (Put p c v) c (channel_in s c) x) (sym put)
          (channel_put t (Put p c v) c v ch.is_reserved (channel_in s c) (item_here c v) refl
          (keeps_reader t (Put p c v) c (λ r. refl) refl) (λ cap. refl)))
          (λ d differ.
          record {
            written = none_elsewhere c d v (elsewhere c d differ);
            read = refl;
            capacity = λ cap. refl;
            reader = keeps_reader t (Put p c v) d (λ r. refl) refl;
          })
          (λ d. refl) (λ q end. refl) (λ e. absurd cc) (wakes-put t p c v) refl (own_is_free p free)
          (length-set s.frames p _)
          (frames_moved p (passed (frame_in s p)) (λ q f g. IsFrameAfter t (Put p c v) q f g) there (
            (λ same. record { port = writes.port; channel = writes.channel; stood = writes.stands; passes = refl }),
            (λ differ. absurd (differ refl)),
          )
          (λ q differ. ((λ same. absurd (differ same)), (λ other. refl))))
          waits woke after is

      pub Made-fed : is_source (channel_at t c) ≡ true
          → after ≡ record s { channels = slice_set s.channels c ch; waits = waits }
          → Made t (Feed c v) s after
      Made-fed source is =
          made_on (Feed c v) c ch (Empty c) s.frames below source
          (subst (λ x. IsChannelAfter t (Feed c v) c (channel_in s c) x) (sym put)
          (channel_put t (Feed c v) c v ch.is_reserved (channel_in s c) (item_here c v) refl
          (keeps_reader t (Feed c v) c (λ r. refl) refl) (λ cap. refl)))
          (λ d differ.
          record {
            written = none_elsewhere c d v (elsewhere c d differ);
            read = refl;
            capacity = λ cap. refl;
            reader = keeps_reader t (Feed c v) d (λ r. refl) refl;
          })
          (λ d. refl) (λ q end. refl) (λ e. absurd cc) (wakes-feed t c v) refl nobody_of refl (λ q. refl) waits woke
          after is

    module _ (read : ch ≡ after_get (Some v) ch.is_reserved (channel_in s c))
        (keep : IsTrue (channel_in s c).is_reserved → IsTrue ch.is_reserved)
        (woke : waits ≡ woken_at (is_wait (Full c)) s.waits (writer_of t c)) where
      pub Made-got : (p : ℕ) (g : Frame) → p < length t.instances → IsFree s p → ReadsFrom t s p c
          → IsGiven (program_of t p).blocks (frame_in s p) v g
          → after ≡ record s {
            channels = slice_set s.channels c ch;
            waits = waits;
            frames = slice_set s.frames p g;
          }
          → Made t (Get p c v) s after
      Made-got p g there free reads given is =
          made_on (Get p c v) c ch (Full c) (slice_set s.frames p g) below tt
          (subst (λ x. IsChannelAfter t (Get p c v) c (channel_in s c) x) (sym read)
          (channel_read t (Get p c v) c v ch.is_reserved (channel_in s c) refl (item_here c v)
          (keeps_reader t (Get p c v) c (λ r. refl) refl) (λ cap. refl) keep))
          (λ d differ.
          record {
            written = refl;
            read = none_elsewhere c d v (elsewhere c d differ);
            capacity = λ cap. refl;
            reader = keeps_reader t (Get p c v) d (λ r. refl) refl;
          })
          (λ d. refl) (λ q end. refl) (λ e. absurd cc) (wakes-get t p c v) refl (own_is_free p free)
          (length-set s.frames p _)
          (frames_moved p g (λ q f h. IsFrameAfter t (Get p c v) q f h) there (
            (λ same. record { port = reads.port; channel = reads.channel; stood = reads.stands; passes = given }),
            (λ differ. absurd (differ refl)),
          )
          (λ q differ. ((λ same. absurd (differ same)), (λ other. refl))))
          waits woke after is

      pub Made-taken : after ≡ record s { channels = slice_set s.channels c ch; waits = waits }
          → Made t (Take c v) s after
      Made-taken is =
          made_on (Take c v) c ch (Full c) s.frames below tt
          (subst (λ x. IsChannelAfter t (Take c v) c (channel_in s c) x) (sym read)
          (channel_read t (Take c v) c v ch.is_reserved (channel_in s c) refl (item_here c v)
          (keeps_reader t (Take c v) c (λ r. refl) refl) (λ cap. refl) keep))
          (λ d differ.
          record {
            written = refl;
            read = none_elsewhere c d v (elsewhere c d differ);
            capacity = λ cap. refl;
            reader = keeps_reader t (Take c v) d (λ r. refl) refl;
          })
          (λ d. refl) (λ q end. refl) (λ e. absurd cc) (wakes-take t c v) refl nobody_of refl (λ q. refl) waits woke
          after is

  -- ---- a channel is left, a source closed

  pub Made-left : (c : ℕ) (ch : ChannelState) → c < length t.channels → reader_of t c ≡ Sink
      → ch ≡ retired ch.is_reserved (channel_in s c)
      → (IsTrue (channel_in s c).is_reserved → IsTrue ch.is_reserved)
      → (waits : List Wait) → waits ≡ woken_at (is_wait (Full c)) s.waits (writer_of t c) → (after : Machine)
      → after ≡ record s { channels = slice_set s.channels c ch; waits = waits } → Made t (Leave c) s after
  Made-left c ch below sink left keep waits woke after is =
      made_on (Leave c) c ch (Full c) s.frames below tt
      (record {
        journal = ap (λ x. x.journal) left ∙ sym (append-nil (channel_in s c).journal);
        read = ap (λ x. x.read) left ∙ sym (add-zero (channel_in s c).read);
        capacity = ap (λ x. x.capacity) left;
        retired =
            ap (λ x. x.is_retired) left
            ∙ becomes_retired (channel_in s c) (takes_reader t c (Leave c))
            (ap (takes_end c (Leave c)) sink ∙ eq-eqb c c refl);
        reserved = λ none was. keep was;
        most = ap (λ x. x.most) left;
        kept = ap (λ x. x.is_kept) left;
      })
      (λ d differ.
      record {
        written = refl;
        read = refl;
        capacity = λ cap. refl;
        reader = keeps_reader t (Leave c) d (λ r. refl) (ne_eqb c d (elsewhere c d differ));
      })
      (λ d. refl) (λ q end. refl) (λ e. absurd cc) (wakes-leave t c) refl nobody_of refl (λ q. refl) waits woke after is

  pub Made-closed : (c : ℕ) → c < length t.channels → (after : Machine) → after ≡ with_closed c s
      → Made t (Close c) s after
  Made-closed c below after is =
      made (Close c) (with_closed c s) after is tt
      (record {
        channels = λ d there. untouched t (Close c) d (channel_in s d) (nothing_on t (Close c) d refl refl (λ cap. refl)
            (keeps_reader t (Close c) d (λ r. refl) refl));
        closed = λ d there. marked d;
        waits = λ q there. wait_then-close t c q (wait_at s.waits q);
        ends = λ q there. refl;
        frames = λ q there. refl;
      })
      (record { channels = refl; closed = length-set s.closed c true; ends = refl; frames = refl })
      shape.waits
    where
      or-true : (b : Bool) → (b || true) ≡ true
      or-true true = refl
      or-true false = refl

      marked : (d : ℕ) → closed_in (with_closed c s) d ≡ (closed_in s d || eqb c d)
      marked d =
          elim (cases_eq d c) [
            | inl same ↦
                subst (λ x. closed_in (with_closed c s) x ≡ (closed_in s x || eqb c x)) (sym same)
                (get_or-set_same s.closed c true false (omega (arith, shape.closed))
                ∙ sym (ap (λ b. closed_in s c || b) (eq-eqb c c refl) ∙ or-true (closed_in s c)))
            | inr differ ↦
                get_or-set_other s.closed c d true false differ
                ∙ sym (ap (λ b. closed_in s d || b) (ne_eqb c d (elsewhere c d differ)) ∙ or-false (closed_in s d))
          ]

  -- ---- a process comes to wait

  pub Made-waits : (e : Event) (p : ℕ) (wait : Wait) → p < length t.instances → IsOwnWait t p wait → KeepsRoom t s e
      → ((d : ℕ) → IsUntouched t e d) → ((d : ℕ) → is_close_of d e ≡ false)
      → ((q : ℕ) (end : Option How) → end_then e q end ≡ end)
      → ((q : ℕ) → IsFrameAfter t e q (frame_in s q) (frame_in s q))
      → ((q : ℕ) → is_of q e ≡ eqb p q) → wait_made e ≡ wait → ((w : Wait) → wakes t e w ≡ false)
      → (after : Machine) → after ≡ with_waits (slice_set s.waits p wait) s → Made t e s after
  Made-waits e p wait there own keeps still closes ends frames is_p made_so none after is =
      made e (with_waits (slice_set s.waits p wait) s) after is keeps
      (record {
        channels = λ d below. untouched t e d (channel_in s d) (still d);
        closed = λ d below. sym (ap (λ b. closed_in s d || b) (closes d) ∙ or-false (closed_in s d));
        waits =
            λ q below. waits_set t e p wait s.waits (omega (arith, shape.waits.one_each)) is_p made_so none q;
        ends = λ q below. sym (ends q _);
        frames = λ q below. frames q;
      })
      (record { channels = refl; closed = refl; ends = refl; frames = refl })
      (waits-set t s.waits p wait shape.waits own)

  pub Made-wait_empty : (p c : ℕ) → p < length t.instances → reader_of t c ≡ Process p → (after : Machine)
      → after ≡ with_waits (slice_set s.waits p (Empty c)) s → Made t (WaitEmpty p c) s after
  Made-wait_empty p c there own =
      Made-waits (WaitEmpty p c) p (Empty c) there own tt
      (λ d. nothing_on t (WaitEmpty p c) d refl refl (λ cap. refl) (keeps_reader t (WaitEmpty p c) d (λ r. refl) refl))
      (λ d. refl) (λ q end. refl) (λ q. refl) (λ q. refl) refl (wakes-wait_empty t p c)

  pub Made-wait_full : (p c : ℕ) → p < length t.instances → writer_of t c ≡ Process p
      → IsTrue (channel_in s c).is_reserved → (after : Machine)
      → after ≡ with_waits (slice_set s.waits p (Full c)) s → Made t (WaitFull p c) s after
  Made-wait_full p c there own reserved =
      Made-waits (WaitFull p c) p (Full c) there own reserved
      (λ d. nothing_on t (WaitFull p c) d refl refl (λ cap. refl) (keeps_reader t (WaitFull p c) d (λ r. refl) refl))
      (λ d. refl) (λ q end. refl) (λ q. refl) (λ q. refl) refl (wakes-wait_full t p c)
