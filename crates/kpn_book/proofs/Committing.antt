-- A commit, and a step in place: a process is held, goes to the end of its steps, and is committed there.
use Rattle.kpn_book.proofs.Common.{◌≡◌, ◌≢◌, ℕ, ◌+◌, ◌-◌, ◌<◌, ◌≤◌, ◌^◌, ℤ, true, false, cond, if◌then◌else◌, is_ok, IsTrue, List, length, set, Option, None, refl, sym, ap, ◌∙◌, subst, inl, inr, arith, Result, Ok, Err, slice_index, cases_eq, cases_lt, false≢true, length-set, get_or-set_same, get_or-set_other, get_or_past, Tables, instance_at, program_of, channel_at, is_source, Frame, Stop, Parts, Advanced, IsAdvance, IsAtPort, IsWithinQuota, advanced_of, Event, Recorded, Ready, Held, is_of_process, process_events, IsNetwork, waiter, lets_go_on, process_events-next, is_held, with_room, Machine, channel_in, end_in, wait_in, frame_in, with_channel, IsRun-moved, Schedule, state_at, HoldsFirst, Done, Book, IsHeld, held_count, standing_at, put_back, IsClaimed, IsWriteTo, HandlesStop, IsOwnAdvance, Commits, IsStateBy, IsKept, Stands, ReadsFrom, WritesTo, ClaimsAndSteps, StepsNext, StepsInVain, IsChannelAt}
use Rattle.kpn_step.specs.declared.stop.Stop.TheVariants as stop
use Rattle.kpn_machine.proofs.Reserving.{IsRun-reserved}
use Rattle.kpn_book.specs.Open.{Follows, GrowsAtStop, of_process, reserves_by, IsReserved, is_but_reserved, reserved_on}
use Rattle.kpn_book.proofs.CommitCounts.{held_in, held_more}
use Rattle.kpn_book.proofs.Appended.{claimed_is_held}
use Rattle.kpn_book.proofs.Reserved.{handles_unreserved, is_reserved_here}
use Rattle.kpn_book.proofs.Following.{held_is_there, recorded, moved, same_recorded}
use Rattle.kpn_book.proofs.Answering.{put_back_in_step, put_back_released, sound_after, events_at_stop, commits_at_stop, IsAtStop}

-- ---- memory that is reserved

pub kept_reserved_on : (b : Book) → IsKept b → (c : ℕ) → c < length b.machine.channels → IsKept (reserved_on c b)
kept_reserved_on b kept c below = record {
  in_step = record {
    run =
        IsRun-reserved b.machine c below b.tables b.history true (reserved_on c b).machine refl
        kept.in_step.run;
    processes = kept.in_step.processes;
    states = kept.in_step.states;
  };
  nothing_owed = kept.nothing_owed;
  committed = kept.committed;
  countable = kept.countable;
}

module _ (s : Stop) (b o : Book) (but : is_but_reserved s b o) where
  -- what holds both of the book and of each book with an item reserved
  by_cases : (P : Book → Type 0) → P b → ((c : ℕ) → c < length b.machine.channels → P (reserved_on c b)) → P o
  by_cases P same reserved =
      elim but [
        | inl is ↦ subst P (sym is) same
        | inr is ↦ subst P (sym is.1.2) (reserved is.1.0 is.1.1)
      ]

  pub kept_reserved : IsKept b → IsKept o
  kept_reserved kept = by_cases IsKept kept (kept_reserved_on b kept)

  pub held_reserved : (p : ℕ) → IsHeld b p → IsHeld o p
  held_reserved p held =
      by_cases (λ x. IsHeld x p) held (λ c below. record { there = held.there; held = held.held })

  pub tables_reserved : o.tables ≡ b.tables
  tables_reserved = by_cases (λ x. x.tables ≡ b.tables) refl (λ c below. refl)

  pub history_reserved : o.history ≡ b.history
  history_reserved = by_cases (λ x. x.history ≡ b.history) refl (λ c below. refl)

  pub commits_reserved : o.commits ≡ b.commits
  commits_reserved = by_cases (λ x. x.commits ≡ b.commits) refl (λ c below. refl)

  pub count_reserved : held_count o ≡ held_count b
  count_reserved = by_cases (λ x. held_count x ≡ held_count b) refl (λ c below. refl)

  pub frame_reserved : (p : ℕ) → frame_in o.machine p ≡ frame_in b.machine p
  frame_reserved p =
      by_cases (λ x. frame_in x.machine p ≡ frame_in b.machine p) refl (λ c below. refl)

  pub port_reserved : (p : ℕ) → (f : Frame) × IsAtPort (program_of b.tables p) f s
      → (f : Frame) × IsAtPort (program_of o.tables p) f s
  port_reserved p at = (at.0, subst (λ t. IsAtPort (program_of t p) at.0 s) (sym tables_reserved) at.1)

  pub standing_reserved : (p : ℕ) (f : Frame) → is_but_reserved s (standing_at p f b) (standing_at p f o)
  standing_reserved p f =
      elim but [
        | inl is ↦ inl (ap (standing_at p f) is)
        | inr is ↦ inr (is.0, (is.1.0, is.1.1, ap (standing_at p f) is.1.2))
      ]

  pub handles_reserved : (p : ℕ) (answer : Done) (a : Book) → HandlesStop p s answer o a → HandlesStop p s answer b a
  handles_reserved p answer a is =
      elim but [
        | inl same ↦ subst (λ x. HandlesStop p s answer x a) same is
        | inr more ↦
            handles_unreserved b more.1.0 more.1.1 p s answer a more.0
            (subst (λ x. HandlesStop p s answer x a) more.1.2 is)
      ]

-- ---- a process at another frame

pub kept_moved : (b : Book) → IsKept b → (p : ℕ) → p < length b.tables.instances → (a : Advanced) → IsAdvance a
    → IsOwnAdvance b p a → IsKept (standing_at p a.to b)
kept_moved b kept p there a advance own = record {
  in_step = record {
    run =
        IsRun-moved b.tables b.machine p a.to there kept.in_step.run.shape b.history a advance own.program
        own.from refl kept.in_step.run;
    processes = kept.in_step.processes;
    states = kept.in_step.states;
  };
  nothing_owed = kept.nothing_owed;
  committed = kept.committed;
  countable = kept.countable;
}

pub held_moved : (b : Book) (p q : ℕ) (f : Frame) → IsHeld b q → IsHeld (standing_at p f b) q
held_moved b p q f held = record { there = held.there; held = held.held }

-- ---- a process that is put back

pub kept_put_back : (b : Book) → IsKept b → (p : ℕ) → IsHeld b p → IsKept (put_back p b)
kept_put_back b kept p held =
    let released = put_back_released b p held in
    let count = kept.countable in
    record {
      in_step = put_back_in_step b kept.in_step p held;
      nothing_owed = kept.nothing_owed;
      committed = kept.committed;
      countable = omega (arith, released, count);
    }

-- ---- a process that is claimed

next_counts : (commits held now : ℕ) → (commits + held ≡ 2 ^ 64 - 1 → ⊥) → commits + held < 2 ^ 64 → now ≡ held + 1
    → commits + now < 2 ^ 64
next_counts commits held now less count is =
    elim (cases_eq (commits + held) (2 ^ 64 - 1)) [
      | inl same ↦ absurd (less same)
      | inr other ↦ omega (arith, other, count, is)
    ]

module _ (b : Book) (kept : IsKept b) (p : ℕ) (s : Schedule) (holds : HoldsFirst p b.schedule s)
    (more : b.commits + held_count b ≡ 2 ^ 64 - 1 → ⊥) where
  abbrev claimed_book : Book
  claimed_book = record b { schedule = s }

  free_state : IsStateBy (end_in b.machine p) (wait_in b.machine p) Held
  free_state =
      let there = holds.there in
      let long = kept.in_step.processes in
      subst (λ x. IsStateBy (end_in b.machine p) (wait_in b.machine p) x) holds.was_ready
      (kept.in_step.states p (omega (arith, there, long)))

  states_then : (q : ℕ) → q < length b.tables.instances
      → IsStateBy (end_in b.machine q) (wait_in b.machine q) (state_at s.states q)
  states_then q there =
      subst (λ xs. IsStateBy (end_in b.machine q) (wait_in b.machine q) (state_at xs q)) (sym holds.states)
      (elim (cases_eq q p) [
        | inl same ↦
            subst
            (λ z. IsStateBy (end_in b.machine z) (wait_in b.machine z)
            (state_at (set b.schedule.states p Held) z)) (sym same)
            (subst (λ x. IsStateBy (end_in b.machine p) (wait_in b.machine p) x)
            (sym (get_or-set_same b.schedule.states p Held Ready holds.there)) free_state)
        | inr other ↦
            subst (λ x. IsStateBy (end_in b.machine q) (wait_in b.machine q) x)
            (sym (get_or-set_other b.schedule.states p q Held Ready other)) (kept.in_step.states q there)
      ])

  held_then : held_in s.states ≡ held_count b + 1
  held_then =
      ap held_in holds.states
      ∙ held_more b.schedule.states p holds.there (ap is_held holds.was_ready)

  kept_with : IsKept claimed_book
  kept_with =
      let count = kept.countable in
      let held = held_then in
      record {
        in_step = record {
          run = kept.in_step.run;
          processes = ap length holds.states ∙ length-set b.schedule.states p Held ∙ kept.in_step.processes;
          states = states_then;
        };
        nothing_owed = kept.nothing_owed;
        committed = kept.committed;
        countable = next_counts b.commits (held_count b) (held_in s.states) more count held;
      }

pub kept_claimed : (b : Book) → IsKept b → (p : ℕ) (a : Book) → IsClaimed p b a
    → (b.commits + held_count b ≡ 2 ^ 64 - 1 → ⊥) → IsKept a
kept_claimed b kept p a claimed more =
    subst IsKept (sym claimed.same) (kept_with b kept p a.schedule claimed.holds more)

-- ---- an event of the outside

-- if no growth is owed after it
pub kept_outside : (b a : Book) (e : Event) → IsNetwork b.tables → IsKept b → Follows e b a → is_of_process e ≡ false
    → waiter e ≡ None → lets_go_on e ≡ true → IsKept a
kept_outside b a e network kept follows nobody none goes =
    let sound = sound_after e b a network follows none goes in
    let count = kept.countable in
    let before = kept.committed in
    let held = follows.held in
    let zero : of_process e ≡ 0 = ap (λ x. cond x 1 0) nobody in
    let same = follows.appends.commits in
    let more : process_events a.history ≡ process_events b.history + of_process e =
    ap process_events follows.appends.history ∙ process_events-next b.history e in
    record {
      in_step = sound.in_step;
      nothing_owed = sound.nothing_owed;
      committed = omega (arith, before, zero, same, more);
      countable = omega (arith, count, held, zero, same);
    }

-- if the growth that is owed after it happens
pub kept_grown : (b m a : Book) (e : Event) (channel : Option ℕ) → IsKept b → Follows e b m → is_of_process e ≡ false
    → GrowsAtStop channel m a → IsKept a
kept_grown b m a e channel kept follows nobody grows =
    let count = kept.countable in
    let before = kept.committed in
    let held = follows.held in
    let still = grows.held in
    let zero : of_process e ≡ 0 = ap (λ x. cond x 1 0) nobody in
    let same = follows.appends.commits in
    let again = commits_at_stop m a channel grows in
    let more : process_events m.history ≡ process_events b.history + of_process e =
    ap process_events follows.appends.history ∙ process_events-next b.history e in
    let no_more = events_at_stop m a channel grows in
    record {
      in_step = grows.sound.in_step;
      nothing_owed = grows.sound.nothing_owed;
      committed = omega (arith, before, zero, same, again, more, no_more);
      countable = omega (arith, count, held, still, zero, same, again);
    }

-- a source or a sink is a channel of the network
pub source_there : (t : Tables) (c : ℕ) → is_source (channel_at t c) ≡ true → c < length t.channels
source_there t c is =
    elim (cases_lt c (length t.channels)) [
      | inl below ↦ below
      | inr past ↦ absurd (false≢true (sym (ap is_source (get_or_past t.channels c _ past)) ∙ is))
    ]

-- ---- a commit

pub own_reserved : (s : Stop) (b o : Book) → is_but_reserved s b o → (p : ℕ) (x : Advanced) → IsOwnAdvance b p x
    → IsOwnAdvance o p x
own_reserved s b o but p x own = record {
  program = own.program ∙ ap (λ t. program_of t p) (sym (tables_reserved s b o but));
  from = own.from ∙ sym (frame_reserved s b o but p);
}

-- its memory is reserved, and the process goes to the end of its steps
pub goes_to_stop : (b o a : Book) (p : ℕ) (x : Advanced) → IsKept b → IsHeld b p → IsAdvance x → IsOwnAdvance b p x
    → is_but_reserved x.stop b o → a ≡ standing_at p x.to o → IsAtStop p x.stop (λ answer z. Commits p x answer b z) a
goes_to_stop b o a p x kept held advance own but is =
    let now = kept_reserved x.stop b o but kept in
    let still = held_reserved x.stop b o but p held in
    record {
      kept =
          subst IsKept (sym is)
          (kept_moved o now p (held_is_there o now.in_step p still) x advance (own_reserved x.stop b o but p x own));
      held = subst (λ z. IsHeld z p) (sym is) (held_moved o p p x.to still);
      commits = λ answer z handles. record {
        held = held;
        own = own;
        handles =
            handles_reserved x.stop (standing_at p x.to b) (standing_at p x.to o)
            (standing_reserved x.stop b o but p x.to) p answer z
            (subst (λ y. HandlesStop p x.stop answer y z) is handles);
      };
    }

-- ---- a step in place

-- process p has been claimed and has made its steps, before memory for its stop is reserved
pub record HasStepped (quota p : ℕ) (s : Stop) (b o : Book) : Type 0 where
  pub kept : IsKept o
  pub held : IsHeld o p
  pub at_stop : (a : Book) → is_but_reserved s o a → IsAtStop p s (λ answer z. StepsNext quota answer b z) a
  pub in_vain : (a : Book) → s ≢ stop.Paused → a ≡ put_back p o → StepsInVain quota b a

module _ (quota p : ℕ) (b o0 : Book) (x : Advanced) (claimed : IsClaimed p b o0) (kept : IsKept o0)
    (own : IsOwnAdvance o0 p x) (advance : IsAdvance x) (within : IsWithinQuota quota x) (o1 : Book)
    (is : o1 ≡ standing_at p x.to o0) where
  steps_made : ClaimsAndSteps quota p x b o0
  steps_made = record { claimed = claimed; own = own; advance = advance; within = within }

  pub stepped_kept : IsKept o1
  stepped_kept =
      let held = claimed_is_held p b o0 claimed in
      let there = held.there in
      let long = kept.in_step.processes in
      subst IsKept (sym is) (kept_moved o0 kept p (omega (arith, there, long)) x advance own)

  pub stepped_held : IsHeld o1 p
  stepped_held =
      subst (λ z. IsHeld z p) (sym is) (held_moved o0 p p x.to (claimed_is_held p b o0 claimed))

  pub steps_next : (o2 a : Book) (answer : Done) → is_but_reserved x.stop o1 o2 → HandlesStop p x.stop answer o2 a
      → StepsNext quota answer b a
  steps_next o2 a answer but handles = record {
    process = p;
    advance = x;
    between = o0;
    steps = steps_made;
    commits = record {
      held = claimed_is_held p b o0 claimed;
      own = own;
      handles =
          subst (λ z. HandlesStop p x.stop answer z a) is (handles_reserved x.stop o1 o2 but p answer a handles);
    };
  }

  pub has_stepped : HasStepped quota p x.stop b o1
  has_stepped = record {
    kept = stepped_kept;
    held = stepped_held;
    at_stop = λ a but. record {
      kept = kept_reserved x.stop o1 a but stepped_kept;
      held = held_reserved x.stop o1 a but p stepped_held;
      commits = λ answer z handles. steps_next a z answer but handles;
    };
    in_vain = λ a wants back. record {
      process = p;
      advance = x;
      between = o0;
      steps = steps_made;
      wants = wants;
      back = back ∙ ap (put_back p) is;
    };
  }

-- ---- memory for a write

pub no_pause : (s : Stop) (port : ℕ) (v : ℤ) → s ≡ stop.WantWrite port v → s ≡ stop.Paused → ⊥
no_pause s port v is paused = let clash : stop.WantWrite port v ≡ stop.Paused = sym is ∙ paused in absurd cc

one_port : (p : ℕ) (s : Stop) (port : ℕ) (v : ℤ) (c d : ℕ) (w : ℤ) (t : Tables) → s ≡ stop.WantWrite port v
    → IsChannelAt (instance_at t p).outs port c → IsWriteTo t p s d w → c ≡ d
one_port p s port v c d w t is at writes =
    let same : stop.WantWrite port v ≡ stop.WantWrite writes.port w = sym is ∙ writes.asks in
    let ports : port ≡ writes.port = cc in
    sym at.1 ∙ ap (slice_index (instance_at t p).outs) ports ∙ writes.channel.1

pub reserves_write : (p : ℕ) (s : Stop) (port : ℕ) (v : ℤ) (c : ℕ) (b a : Book) (room : ℕ)
    → s ≡ stop.WantWrite port v → IsChannelAt (instance_at b.tables p).outs port c
    → c < length b.machine.channels → 2 ≤ room → a ≡ reserved_on c b
    → IsReserved p s room a × is_but_reserved s b a
reserves_write p s port v c b a room is at below two same = (
  record {
    events = λ some. two;
    item = λ d w writes.
        subst (λ z. IsTrue (channel_in z.machine d).is_reserved) (sym same)
        (subst (λ z. IsTrue (channel_in (reserved_on c b).machine z).is_reserved)
        (one_port p s port v c d w b.tables is at
        (subst (λ z. IsWriteTo z.tables p s d w) same writes)) (is_reserved_here b c below));
  },
  inr (λ paused. no_pause s port v is paused, (c, below, same)),
)

pub reserves_item : {T E : Type 0} (p : ℕ) (s : Stop) (port : ℕ) (v : ℤ) (c : ℕ) (b : Book) (h : Recorded)
    → (o : Machine) (room : ℕ) (r : Result T E) → s ≡ stop.WantWrite port v
    → IsChannelAt (instance_at b.tables p).outs port c → c < length b.machine.channels → 2 ≤ room
    → h.events ≡ b.history → h.is_kept ≡ b.keeps_events → o ≡ (if is_ok r then with_channel c (with_room (channel_in b.machine c)) b.machine
    else b.machine) → reserves_by p s r b room (recorded b h o b.schedule)
reserves_item p s port v c b h o room (Ok _) is at below two same kept after =
    reserves_write p s port v c b (recorded b h o b.schedule) room is at below two
    (same_recorded b h o b.schedule b.history same kept ∙ ap (λ z. moved b z b.schedule) after)
reserves_item p s port v c b h o room (Err _) is at below two same kept after = (
  λ paused. no_pause s port v is paused,
  same_recorded b h o b.schedule b.history same kept ∙ ap (λ z. moved b z b.schedule) after,
)

-- ---- a process at its stop

pub reads_from : (t : Tables) (s : Machine) (p c port : ℕ) (z : Stop) → z ≡ stop.WantRead port
    → IsChannelAt (instance_at t p).ins port c → Stands t s p z → ReadsFrom t s p c
reads_from t s p c port z is channel stands =
    record { port = port; channel = channel; stands = subst (λ x. Stands t s p x) is stands }

pub writes_to : (t : Tables) (s : Machine) (p c port : ℕ) (v w : ℤ) (z : Stop) → z ≡ stop.WantWrite port v
    → w ≡ v → IsChannelAt (instance_at t p).outs port c → Stands t s p z → WritesTo t s p c w
writes_to t s p c port v w z is same channel stands = record {
  port = port;
  channel = channel;
  stands = subst (λ x. Stands t s p x) (is ∙ ap (stop.WantWrite port) (sym same)) stands;
}

-- these steps, part by part
pub advance_is : (a : Advanced) (program : Parts) (from to : Frame) (steps : ℕ) (z : Stop) → program ≡ a.program
    → from ≡ a.from → to ≡ a.to → steps ≡ a.steps → z ≡ a.stop → advanced_of program from to steps z ≡ a
advance_is a program from to steps z is begins ends made stops = rw (is, begins, ends, made, stops) refl
