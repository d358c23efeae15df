-- What holds of a book at one moment: who waits, whether all have stopped, and what lies on the sinks.
use Rattle.std.proofs.Common.{◌≡◌, ℕ, ◌<◌, Bool, true, false, not, cond, ℤ, List, [], ◌∷◌, ◌++◌, length, drop, slice_get, Option, Some, None, is_some, refl, sym, ap, ◌∙◌, subst, inl, inr, append-nil, append_assoc, length-append, arith}
use Rattle.kpn_stream.proofs.Common.{eqb-true, eq-eqb, false≢true, or_left, or_right, Tables, channel_at, is_sink, ChannelState, unread, next_item, state_at, Event, written_in, read_in, read_on, unread_on, is_left, is_leave_of, lives, HaveStopped, is_left-next, written_on-same, read_on-push, unread_length, unread_length-push, channel_in, Book, IsBook, IsGrowthOwed, Happens, AddNothing, happens_history, happens_written, happens_read, IsAwaited, AreLeft, IsSinkTaken, AreTaken}
use Rattle.kpn_net.proofs.Networks.{reader_of-sink, sink_there}
use Rattle.kpn_book.proofs.Tallies.{not_counted}
use Rattle.kpn_history.specs.declared.event.Event.TheVariants as event
use Rattle.kpn_history.specs.declared.state.State.{State}
use Rattle.kpn_history.specs.declared.state.State.TheVariants.{Ready, Held}
use Rattle.kpn_history.specs.declared.state.Counts.{Counts}
use Rattle.kpn_history.specs.Views.{is_ready, is_held, is_stopped, AreCounts}
use Rattle.kpn_history.proofs.States.{stopped_state}
use Rattle.kpn_machine.specs.Woken.{waiting_reader}
use Rattle.kpn_machine.proofs.Waking.{who_reads}
use Rattle.kpn_book.proofs.Standing.{states_now}

-- ---- who waits

-- the reader of a channel that waits for its item is a process of the network
pub awaits : (b : Book) → IsBook b → (c : ℕ) → is_some (waiting_reader b.tables b.machine.waits c) ≡ true
    → IsAwaited b.tables b.history c
awaits b book c = by (waiting_reader b.tables b.machine.waits c) refl
  where
    by : (o : Option ℕ) → waiting_reader b.tables b.machine.waits c ≡ o → is_some o ≡ true
        → IsAwaited b.tables b.history c
    by None at some = absurd cc
    by (Some q) at some =
        let run = book.kept.in_step.run in
        let waits = (who_reads b.tables b.machine.waits run.shape.waits c q).0 at in
        record { reader = q; there = waits.0; waits = sym (run.leads.waits q waits.0) ∙ waits.1 }

-- ---- whether all have stopped

stopped_if_neither : (s : State) → is_ready s ≡ false → is_held s ≡ false → is_stopped s ≡ true
stopped_if_neither Ready ready held = absurd (false≢true (sym ready))
stopped_if_neither Held ready held = absurd (false≢true (sym held))
stopped_if_neither state ready held = refl

pub stopped_if_none : (b : Book) → IsBook b → (counts : Counts) → AreCounts b.schedule.states counts
    → counts.ready ≡ 0 → counts.held ≡ 0 → HaveStopped b.tables b.history
stopped_if_none b book counts are ready held p below =
    let xs = b.schedule.states in
    let there : p < length xs = let long = book.kept.in_step.processes in omega arith in
    (stopped_state b.tables b.history p (state_at xs p) (states_now b book p below)).0
    (stopped_if_neither (state_at xs p) (not_counted is_ready xs (sym are.ready ∙ ready) p there)
    (not_counted is_held xs (sym are.held ∙ held) p there))

-- ---- what lies on a sink

-- what is unread in the book is what is unread in the history
pub unread_now : (b : Book) → IsBook b → (c : ℕ) → c < length b.tables.channels
    → unread (channel_in b.machine c) ≡ unread_on b.history c
unread_now b book c below =
    let holds = book.kept.in_step.run.leads.channels c below in
    ap (λ n. drop n (channel_in b.machine c).journal) holds.read
    ∙ ap (drop (length (read_on b.history c))) holds.journal

pub left_if_retired : (b : Book) → IsBook b → (c : ℕ) → is_sink (channel_at b.tables c) ≡ true
    → (channel_in b.machine c).is_retired ≡ true → is_left b.history c ≡ true
left_if_retired b book c sink retired =
    let holds = book.kept.in_step.run.leads.channels c (sink_there b.tables c sink) in
    both (is_left b.history c)
    (sym (holds.retired ∙ ap (λ end. not (lives b.history c end)) (reader_of-sink b.tables c sink)) ∙ retired)
  where
    both : (l : Bool) → not (not l) ≡ true → l ≡ true
    both true is = refl
    both false is = absurd (false≢true is)

pub taken_if_retired : (b : Book) → IsBook b → (c : ℕ) → is_sink (channel_at b.tables c) ≡ true
    → (channel_in b.machine c).is_retired ≡ true → IsSinkTaken b.history c
taken_if_retired b book c sink retired = inr (left_if_retired b book c sink retired)

pub taken_if_left : (t : Tables) (H : List Event) → AreLeft t H → AreTaken t H
taken_if_left t H left c sink = inr (left c sink)

none_unread : (xs : List ℤ) → slice_get xs 0 ≡ None → length xs ≡ 0
none_unread [] is = refl
none_unread (x ∷ xs) is = absurd cc

-- there is no next item: the sink is empty, or it was left
pub taken_if_none : (b : Book) → IsBook b → (c : ℕ) → is_sink (channel_at b.tables c) ≡ true
    → next_item (channel_in b.machine c) ≡ None → IsSinkTaken b.history c
taken_if_none b book c sink = by ch.is_retired refl
  where
    ch : ChannelState
    ch = channel_in b.machine c

    by : (r : Bool) → ch.is_retired ≡ r → cond r None (slice_get (unread ch) 0) ≡ None → IsSinkTaken b.history c
    by true is none = taken_if_retired b book c sink is
    by false is none =
        let same = unread_now b book c (sink_there b.tables c sink) in
        inl
        (eq-eqb (length (unread_on b.history c)) 0 (ap length (sym same) ∙ none_unread (unread ch) none))

-- there is a next item
pub some_unread : (b : Book) → IsBook b → (c : ℕ) (v : ℤ) → is_sink (channel_at b.tables c) ≡ true
    → next_item (channel_in b.machine c) ≡ Some v → 0 < length (unread_on b.history c)
some_unread b book c v sink = by ch.is_retired
  where
    ch : ChannelState
    ch = channel_in b.machine c

    some : (xs : List ℤ) → slice_get xs 0 ≡ Some v → 0 < length xs
    some [] is = absurd cc
    some (x ∷ xs) is = omega arith

    by : (r : Bool) → cond r None (slice_get (unread ch) 0) ≡ Some v → 0 < length (unread_on b.history c)
    by true is = absurd cc
    by false is =
        subst (λ xs. 0 < length xs) (unread_now b book c (sink_there b.tables c sink)) (some (unread ch) is)

-- ---- what events leave of it

taken_next : (H : List Event) (e : Event) (c : ℕ) → written_in c e ≡ [] → IsSinkTaken H c → IsSinkTaken (H ++ e ∷ []) c
taken_next H e c none taken =
    elim taken [
      | inl empty ↦
          let was = eqb-true (length (unread_on H c)) 0 empty in
          let long = unread_length H c in
          let then = unread_length-push H e c in
          let nothing = ap length none in
          inl (eq-eqb (length (unread_on (H ++ e ∷ []) c)) 0 (omega arith))
      | inr left ↦ inr (is_left-next H e c ∙ or_left (is_left H c) (is_leave_of c e) left)
    ]

taken_along : (es H : List Event) (c : ℕ) → AddNothing (written_in c) es → IsSinkTaken H c → IsSinkTaken (H ++ es) c
taken_along [] H c none taken = subst (λ X. IsSinkTaken X c) (sym (append-nil H)) taken
taken_along (e ∷ es) H c none taken =
    subst (λ X. IsSinkTaken X c) (append_assoc H (e ∷ []) es)
    (taken_along es (H ++ e ∷ []) c none.1 (taken_next H e c none.0 taken))

growth_adds : (t : Tables) (H growth : List Event) (c : ℕ) → IsGrowthOwed t H growth → AddNothing (written_in c) growth
growth_adds t H [] c owed = tt
growth_adds t H (event.Grow p d n ∷ []) c owed = (refl, tt)
growth_adds t H growth c owed = absurd owed

-- an event that writes nothing on a sink
pub happens_taken : (e : Event) (c : ℕ) → written_in c e ≡ [] → (before after : Book) → Happens e before after
    → IsSinkTaken before.history c → IsSinkTaken after.history c
happens_taken e c none before after is taken =
    subst (λ X. IsSinkTaken X c) (sym (happens_history e before after is))
    (taken_along (e ∷ is.growth) before.history c
    (none, growth_adds before.tables (before.history ++ e ∷ []) is.growth c is.owed) taken)

-- a sink that was left
pub left_then : (c : ℕ) (before after : Book) → Happens (event.Leave c) before after → IsSinkTaken after.history c
left_then c before after is =
    let here : is_left (before.history ++ event.Leave c ∷ []) c ≡ true =
    is_left-next before.history (event.Leave c) c
    ∙ or_right (is_left before.history c) (is_leave_of c (event.Leave c)) (eq-eqb c c refl) in
    subst (λ X. IsSinkTaken X c)
    (append_assoc before.history (event.Leave c ∷ []) is.growth ∙ sym (happens_history (event.Leave c) before after is))
    (taken_along is.growth (before.history ++ event.Leave c ∷ []) c
    (growth_adds before.tables (before.history ++ event.Leave c ∷ []) is.growth c is.owed) (inr here))

-- nothing comes to the sinks before the first event
pub taken_at_start : (b : Book) → b.history ≡ [] → AreTaken b.tables b.history
taken_at_start b start c sink = subst (λ H. IsSinkTaken H c) (sym start) (inl refl)

-- an item less is unread once one was taken
pub less_unread : (c : ℕ) (v : ℤ) (before after : Book) → Happens (event.Take c v) before after
    → 0 < length (unread_on before.history c)
    → length (unread_on after.history c) < length (unread_on before.history c)
less_unread c v before after is some =
    let written = ap length (happens_written (event.Take c v) before after is c) in
    let read = ap length (happens_read (event.Take c v) before after is c) in
    let written_too = ap length (written_on-same before.history (event.Take c v) c refl) in
    let read_too =
    ap length (read_on-push before.history (event.Take c v) c ∙ ap (λ xs. read_on before.history c ++ xs) (here c v)) in
    let one = length-append (read_on before.history c) (v ∷ []) in
    let a = unread_length before.history c in
    let b = unread_length after.history c in
    omega arith
  where
    here : (c : ℕ) (v : ℤ) → read_in c (event.Take c v) ≡ v ∷ []
    here c v = ap (λ b. cond b (v ∷ []) []) (eq-eqb c c refl)
