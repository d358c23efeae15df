-- What an event does to the parts of a machine: those that it touches, and the others.
use Rattle.std.proofs.Common.{◌≡◌, ◌≢◌, ℕ, ◌+◌, ◌<◌, ◌≤◌, Bool, true, false, not, ◌&&◌, ◌||◌, ◌∷◌, max, ℤ, cond, eqb, eq-eqb, eqb-true, arith, IsTrue, List, [], ◌++◌, length, get_or, set, Option, Some, None, is_some, refl, sym, ap, ◌∙◌, subst, inl, inr, append-nil, add-zero}
use Rattle.kpn_machine.proofs.Common.{option_map, cases_eq, ne_eqb, both_ways, get_or-set_same, get_or-set_other, Wait, End, Tables, channel_at, is_source, larger_capacity, writer_of, reader_of, program_of, larger_capacity_is_some, wait_at, IsOwnWait, AreWaits, Frame, fits, fits-passed, fits-passed_with, ChannelState, opened, unread, is_channel_full, fills, most_after, most_after_put, Event, is_of, is_end_of, written_in, read_in, is_leave_of, wait_made, wakes, wait_then, capacity_then, takes_end, takes_reader, no_source, none_elsewhere, Machine, channel_in, wait_in, IsMachine, IsChannelAfter, PassesRead, PassesWrite, IsFrameAfter, Changes, is_wait_on_full, is_wait_on_empty, AreWoken}
use Rattle.kpn_lang.proofs.Programs.{not_past}
use Rattle.kpn_net.specs.declared.wait.Wait.TheVariants.{Nobody, Empty, Full}
use Rattle.kpn_net.specs.declared.tables.End.TheVariants as end
use Rattle.kpn_history.specs.declared.event.Event.TheVariants.{Get, Put, WaitEmpty, WaitFull, Feed, Close, Take, Leave, Grow}

pub or-false : (b : Bool) → (b || false) ≡ b
or-false true = refl
or-false false = refl

-- ---- channels

-- the event neither writes on the channel nor reads from it, and leaves its capacity and its reader
pub record IsUntouched (t : Tables) (e : Event) (d : ℕ) : Type 0 where
  pub written : written_in d e ≡ []
  pub read : read_in d e ≡ []
  pub capacity : (cap : Option ℕ) → capacity_then t d e cap ≡ cap
  pub reader : takes_reader t d e ≡ false

pub untouched : (t : Tables) (e : Event) (d : ℕ) (channel : ChannelState) → IsUntouched t e d
    → IsChannelAfter t e d channel channel
untouched t e d channel u =
    record {
      journal = sym (ap (λ xs. channel.journal ++ xs) u.written ∙ append-nil channel.journal);
      read = sym (ap (λ xs. channel.read + length xs) u.read ∙ add-zero channel.read);
      capacity = sym (u.capacity channel.capacity);
      retired = sym (ap (λ b. channel.is_retired || b) u.reader ∙ or-false channel.is_retired);
      reserved = λ none is. is;
      most = sym (ap (λ xs. most_after xs channel) u.written);
      kept = refl;
    }

-- an event keeps the reader if it ends no process and is no leave of the channel
pub keeps_reader : (t : Tables) (e : Event) (d : ℕ) → ((r : ℕ) → is_end_of r e ≡ false) → is_leave_of d e ≡ false
    → takes_reader t d e ≡ false
keeps_reader t e d ends leaves = by_end (reader_of t d)
  where
    by_end : (x : End) → takes_end d e x ≡ false
    by_end (end.Process r) = ends r
    by_end end.Source = refl
    by_end end.Sink = leaves

-- one channel becomes another, and the event touches no other
pub channels_set : (t : Tables) (e : Event) (channels : List ChannelState) (c : ℕ) (channel : ChannelState)
    → c < length channels → IsChannelAfter t e c (get_or channels c (opened None false)) channel
    → ((d : ℕ) → d ≢ c → IsUntouched t e d) → (d : ℕ)
    → IsChannelAfter t e d (get_or channels d (opened None false))
    (get_or (set channels c channel) d (opened None false))
channels_set t e channels c channel there here elsewhere d =
    elim (cases_eq d c) [
      | inl same ↦
          subst
          (λ x.
          IsChannelAfter t e x (get_or channels x (opened None false))
          (get_or (set channels c channel) x (opened None false))) (sym same)
          (subst (λ x. IsChannelAfter t e c (get_or channels c (opened None false)) x)
          (sym (get_or-set_same channels c channel (opened None false) there)) here)
      | inr differ ↦
          subst (λ x. IsChannelAfter t e d (get_or channels d (opened None false)) x)
          (sym (get_or-set_other channels c d channel (opened None false) differ))
          (untouched t e d _ (elsewhere d differ))
    ]

-- ---- waits

-- an event that wakes the waits of one kind, and whose process, if it has one, waited for nobody and does not wait now
pub waits_of_kind : (t : Tables) (e : Event) (kind : Wait → Bool) (before after : List Wait)
    → AreWoken kind before after → ((w : Wait) → wakes t e w ≡ kind w) → kind Nobody ≡ false
    → ((q : ℕ) → is_of q e ≡ true → wait_at before q ≡ Nobody) → wait_made e ≡ Nobody → (q : ℕ)
    → wait_at after q ≡ wait_then t e q (wait_at before q)
waits_of_kind t e kind before after woken same nobody free none q = by_own (is_of q e) refl
  where
    by_own : (own : Bool) → is_of q e ≡ own
        → wait_at after q ≡ cond own (wait_made e) (cond (wakes t e (wait_at before q)) Nobody (wait_at before q))
    by_own true is =
        woken.each q
        ∙ ap (λ w. cond (kind w) Nobody w) (free q is)
        ∙ ap (λ b. cond b Nobody Nobody) nobody
        ∙ sym none
    by_own false is = woken.each q ∙ ap (λ b. cond b Nobody (wait_at before q)) (sym (same (wait_at before q)))

pub wakes-get : (t : Tables) (p c : ℕ) (v : ℤ) (w : Wait) → wakes t (Get p c v) w ≡ is_wait_on_full c w
wakes-get t p c v Nobody = refl
wakes-get t p c v (Empty d) = refl
wakes-get t p c v (Full d) = refl

pub wakes-take : (t : Tables) (c : ℕ) (v : ℤ) (w : Wait) → wakes t (Take c v) w ≡ is_wait_on_full c w
wakes-take t c v Nobody = refl
wakes-take t c v (Empty d) = refl
wakes-take t c v (Full d) = refl

pub wakes-leave : (t : Tables) (c : ℕ) (w : Wait) → wakes t (Leave c) w ≡ is_wait_on_full c w
wakes-leave t c Nobody = refl
wakes-leave t c (Empty d) = refl
wakes-leave t c (Full d) = refl

pub wakes-grow : (t : Tables) (p c n : ℕ) (w : Wait) → wakes t (Grow p c n) w ≡ is_wait_on_full c w
wakes-grow t p c n Nobody = refl
wakes-grow t p c n (Empty d) = refl
wakes-grow t p c n (Full d) = refl

pub wakes-put : (t : Tables) (p c : ℕ) (v : ℤ) (w : Wait) → wakes t (Put p c v) w ≡ is_wait_on_empty c w
wakes-put t p c v Nobody = refl
wakes-put t p c v (Empty d) = refl
wakes-put t p c v (Full d) = refl

pub wakes-feed : (t : Tables) (c : ℕ) (v : ℤ) (w : Wait) → wakes t (Feed c v) w ≡ is_wait_on_empty c w
wakes-feed t c v Nobody = refl
wakes-feed t c v (Empty d) = refl
wakes-feed t c v (Full d) = refl

-- an event that makes its process wait and wakes no process
pub waits_set : (t : Tables) (e : Event) (p : ℕ) (wait : Wait) (waits : List Wait) → p < length waits
    → ((q : ℕ) → is_of q e ≡ eqb p q) → wait_made e ≡ wait → ((w : Wait) → wakes t e w ≡ false) → (q : ℕ)
    → wait_at (set waits p wait) q ≡ wait_then t e q (wait_at waits q)
waits_set t e p wait waits there own made none q =
    elim (cases_eq p q) [
      | inl same ↦
          subst (λ x. wait_at (set waits p wait) x ≡ wait_then t e x (wait_at waits x)) same
          (get_or-set_same waits p wait Nobody there
          ∙ sym made
          ∙ ap (λ b. cond b (wait_made e) (cond (wakes t e (wait_at waits p)) Nobody (wait_at waits p)))
          (sym (own p ∙ eq-eqb p p refl)))
      | inr differ ↦
          get_or-set_other waits p q wait Nobody (λ e. differ (sym e))
          ∙ ap (λ b. cond b Nobody (wait_at waits q)) (sym (none (wait_at waits q)))
          ∙ ap (λ b. cond b (wait_made e) (cond (wakes t e (wait_at waits q)) Nobody (wait_at waits q)))
          (sym (own q ∙ ne_eqb p q differ))
    ]

pub wakes-wait_empty : (t : Tables) (p c : ℕ) (w : Wait) → wakes t (WaitEmpty p c) w ≡ false
wakes-wait_empty t p c Nobody = refl
wakes-wait_empty t p c (Empty d) = refl
wakes-wait_empty t p c (Full d) = refl

pub wakes-wait_full : (t : Tables) (p c : ℕ) (w : Wait) → wakes t (WaitFull p c) w ≡ false
wakes-wait_full t p c Nobody = refl
wakes-wait_full t p c (Empty d) = refl
wakes-wait_full t p c (Full d) = refl

pub wait_then-close : (t : Tables) (c q : ℕ) (w : Wait) → w ≡ wait_then t (Close c) q w
wait_then-close t c q Nobody = refl
wait_then-close t c q (Empty d) = refl
wait_then-close t c q (Full d) = refl

-- ---- a process that waits on a channel as full keeps the item that is reserved there

-- only the writer of a channel puts there, and not if it is full, only a source is fed, a process that comes to wait as
-- full has an item reserved, and if a channel grows, the limit is not 0 and its capacity becomes no less
abbrev pub KeepsRoom : Tables → Machine → Event → Type 0
KeepsRoom t s (Put p c v) = (writer_of t c ≡ end.Process p) × (is_channel_full (channel_in s c) ≡ false)
KeepsRoom t s (Feed c v) = is_source (channel_at t c) ≡ true
KeepsRoom t s (WaitFull p c) = IsTrue (channel_in s c).is_reserved
KeepsRoom t s (Grow p c n) =
    (0 < t.limit) × ((cap : ℕ) → (channel_in s c).capacity ≡ Some cap → cap ≤ larger_capacity t cap)
KeepsRoom t s event = Unit {0}

-- an event of another process writes nothing on a channel that a process writes
written_by_none : (t : Tables) (s : Machine) (e : Event) → KeepsRoom t s e → (p c : ℕ)
    → writer_of t c ≡ end.Process p → is_of p e ≡ false → written_in c e ≡ []
written_by_none t s (Put q d v) keeps p c own other = none_elsewhere d c v (λ same. both_ways (eqb q p) other
    (eq-eqb q p
    (let clash : end.Process q ≡ end.Process p = sym keeps.0 ∙ ap (λ x. writer_of t x) same ∙ own in cc)))
written_by_none t s (Feed d v) keeps p c own other = none_elsewhere d c v (no_source t c d p own keeps)
written_by_none t s event keeps p c own other = refl

-- an event after which its own process waits on a channel as full found an item reserved there, and writes nothing
came_to_wait : (t : Tables) (s : Machine) (e : Event) → KeepsRoom t s e → (c : ℕ) → wait_made e ≡ Full c
    → (written_in c e ≡ []) × IsTrue (channel_in s c).is_reserved
came_to_wait t s (WaitFull q d) keeps c is = (
  refl,
  let same : d ≡ c = cc in subst (λ x. IsTrue (channel_in s x).is_reserved) same keeps,
)
came_to_wait t s (WaitEmpty q d) keeps c is = absurd cc
came_to_wait t s event keeps c is = absurd cc

waited_before : (b : Bool) (w : Wait) (c : ℕ) → cond b Nobody w ≡ Full c → w ≡ Full c
waited_before true w c is = absurd cc
waited_before false w c is = is

-- a process that waits as full after an event had its item reserved before it, and the event does not write there
room_before : (t : Tables) (s : Machine) (e : Event) → IsMachine t s → KeepsRoom t s e → (p c : ℕ)
    → p < length t.instances → c < length t.channels → wait_then t e p (wait_in s p) ≡ Full c
    → (written_in c e ≡ []) × IsTrue (channel_in s c).is_reserved
room_before t s e shape keeps p c process channel is = by_own (is_of p e) refl is
  where
    by_own : (own : Bool) → is_of p e ≡ own
        → cond own (wait_made e) (cond (wakes t e (wait_in s p)) Nobody (wait_in s p)) ≡ Full c
        → (written_in c e ≡ []) × IsTrue (channel_in s c).is_reserved
    by_own true own waits = came_to_wait t s e keeps c waits
    by_own false own waits =
        let before = waited_before (wakes t e (wait_in s p)) (wait_in s p) c waits in (
          written_by_none t s e keeps p c (subst (λ w. IsOwnWait t p w) before (shape.waits.own p process)) own,
          shape.reserved p c process channel before,
        )

-- ---- it is still a machine of the network

pub record SameLengths (before after : Machine) : Type 0 where
  pub channels : length after.channels ≡ length before.channels
  pub closed : length after.closed ≡ length before.closed
  pub ends : length after.ends ≡ length before.ends
  pub frames : length after.frames ≡ length before.frames

some_or_none : (t : Tables) (c : ℕ) (e : Event) (cap : Option ℕ) → is_some (capacity_then t c e cap) ≡ is_some cap
some_or_none t c (Grow p d n) cap = by_test (eqb d c) cap
  where
    by_test : (b : Bool) (cap : Option ℕ)
        → is_some (cond b (option_map (larger_capacity t) cap) cap) ≡ is_some cap
    by_test true None = refl
    by_test true (Some n) = refl
    by_test false cap = refl
some_or_none t c event cap = refl

-- a capacity that is not 0 stays so
positive_then : (t : Tables) (s : Machine) (e : Event) → KeepsRoom t s e → (c : ℕ) (before : Option ℕ)
    → ((n : ℕ) → before ≡ Some n → 0 < n) → (cap : ℕ) → capacity_then t c e before ≡ Some cap → 0 < cap
positive_then t s (Grow p d m) keeps c before some cap is = by_test (eqb d c) before some is
  where
    by_test : (b : Bool) (o : Option ℕ) → ((n : ℕ) → o ≡ Some n → 0 < n)
        → cond b (option_map (larger_capacity t) o) o ≡ Some cap → 0 < cap
    by_test true None some is = absurd cc
    by_test true (Some n) some is =
        let same : larger_capacity t n ≡ cap = cc in
        subst (λ m. 0 < m) same (larger_capacity_is_some t n keeps.0 (some n refl))
    by_test false o some is = some cap is
positive_then t s event keeps c before some cap is = some cap is

-- a put on a channel that is not full keeps what was ever unread within the capacity
most_put : (gone : Bool) (most count cap : ℕ) → (not gone && fills count (Some cap)) ≡ false → most ≤ cap
    → cond gone most (max most (count + 1)) ≤ cap
most_put true most count cap room within = within
most_put false most count cap room within =
    let below = not_past cap count room in omega (arith, below, within)

within_put : (channel : ChannelState) (cap : ℕ) → is_channel_full channel ≡ false → channel.capacity ≡ Some cap
    → channel.most ≤ cap → most_after_put channel ≤ cap
within_put channel cap room is within =
    most_put channel.is_retired channel.most (length (unread channel)) cap
    (sym (ap (λ o. not channel.is_retired && fills (length (unread channel)) o) is) ∙ room) within

-- what was ever unread stays within the capacity
within_then : (t : Tables) (s : Machine) (e : Event) → KeepsRoom t s e → (c : ℕ) → c < length t.channels
    → IsMachine t s → (cap : ℕ) → capacity_then t c e (channel_in s c).capacity ≡ Some cap
    → most_after (written_in c e) (channel_in s c) ≤ cap
within_then t s (Put p d v) keeps c below h cap is = by_test (eqb d c) refl
  where
    by_test : (b : Bool) → eqb d c ≡ b → most_after (cond b (v ∷ []) []) (channel_in s c) ≤ cap
    by_test true same =
        within_put (channel_in s c) cap (subst (λ x. is_channel_full (channel_in s x) ≡ false) (eqb-true d c same) keeps.1) is
        (h.within c cap below is)
    by_test false other = h.within c cap below is
within_then t s (Feed d v) keeps c below h cap is = by_test (eqb d c) refl
  where
    by_test : (b : Bool) → eqb d c ≡ b → most_after (cond b (v ∷ []) []) (channel_in s c) ≤ cap
    by_test true same =
        let source = subst (λ x. is_source (channel_at t x) ≡ true) (eqb-true d c same) keeps in
        let none : true ≡ false = sym (ap is_some is) ∙ h.bounded c below ∙ ap not source in
        absurd cc
    by_test false other = h.within c cap below is
within_then t s (Grow p d n) keeps c below h cap is = by_test (eqb d c) refl (channel_in s c).capacity refl is
  where
    by_test : (b : Bool) → eqb d c ≡ b → (o : Option ℕ) → (channel_in s c).capacity ≡ o
        → cond b (option_map (larger_capacity t) o) o ≡ Some cap → (channel_in s c).most ≤ cap
    by_test true same None was is = absurd cc
    by_test true same (Some m) was is =
        let larger : larger_capacity t m ≡ cap = cc in
        let within = h.within c m below was in
        let more : m ≤ larger_capacity t m =
        keeps.1 m (ap (λ x. (channel_in s x).capacity) (eqb-true d c same) ∙ was) in
        omega (arith, within, more, larger)
    by_test false other o was is = h.within c cap below (was ∙ is)
within_then t s event keeps c below h cap is = h.within c cap below is

fits-read : (t : Tables) (p c : ℕ) (v : ℤ) (f g : Frame) → PassesRead t p c v f g → IsTrue (fits (program_of t p) f)
    → IsTrue (fits (program_of t p) g)
fits-read t p c v f g passes h =
    let at = passes.stood in
    subst (λ x. IsTrue (fits (program_of t p) x)) (sym (passes.passes passes.port at.0 at.1.statement))
    (fits-passed_with (program_of t p) f _ at.0 v h at.1.statement)

fits-write : (t : Tables) (p c : ℕ) (v : ℤ) (f g : Frame) → PassesWrite t p c v f g → IsTrue (fits (program_of t p) f)
    → IsTrue (fits (program_of t p) g)
fits-write t p c v f g passes h =
    subst (λ x. IsTrue (fits (program_of t p) x)) (sym passes.passes)
    (fits-passed (program_of t p) f _ h passes.stood.statement)

fits-next : (t : Tables) (e : Event) (p : ℕ) (f g : Frame) → IsFrameAfter t e p f g → IsTrue (fits (program_of t p) f)
    → IsTrue (fits (program_of t p) g)
fits-next t (Get q c v) p f g a h =
    elim (cases_eq q p) [
      | inl same ↦ fits-read t p c v f g (a.0 same) h
      | inr differ ↦ subst (λ x. IsTrue (fits (program_of t p) x)) (sym (a.1 differ)) h
    ]
fits-next t (Put q c v) p f g a h =
    elim (cases_eq q p) [
      | inl same ↦ fits-write t p c v f g (a.0 same) h
      | inr differ ↦ subst (λ x. IsTrue (fits (program_of t p) x)) (sym (a.1 differ)) h
    ]
fits-next t event p f g a h = subst (λ x. IsTrue (fits (program_of t p) x)) (sym a) h

pub IsMachine-next : (t : Tables) (e : Event) (before after : Machine) → IsMachine t before
    → KeepsRoom t before e → Changes t e before after → SameLengths before after → AreWaits t after.waits
    → IsMachine t after
IsMachine-next t e before after h keeps a same waits =
    record {
      channels = same.channels ∙ h.channels;
      closed = same.closed ∙ h.closed;
      ends = same.ends ∙ h.ends;
      frames = same.frames ∙ h.frames;
      waits = waits;
      bounded =
          λ c below. ap is_some (a.channels c below).capacity ∙ some_or_none t c e (channel_in before c).capacity
          ∙ h.bounded c below;
      positive =
          λ c cap below is.
          positive_then t before e keeps c (channel_in before c).capacity (λ n. h.positive c n below) cap
          (sym (a.channels c below).capacity ∙ is);
      within =
          λ c cap below is.
          subst (λ n. n ≤ cap) (sym (a.channels c below).most)
          (within_then t before e keeps c below h cap (sym (a.channels c below).capacity ∙ is));
      fit = λ p below. fits-next t e p _ _ (a.frames p below) (h.fit p below);
      reserved =
          λ p c process channel is.
          let room = room_before t before e h keeps p c process channel (sym (a.waits p process) ∙ is) in
          (a.channels c channel).reserved room.0 room.1;
    }
