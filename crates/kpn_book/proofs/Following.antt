-- One event that happens to a book: the book after it.
use Rattle.kpn_book.proofs.Common.{◌≡◌, ℕ, ◌+◌, ◌<◌, true, false, eqb, List, [], ◌∷◌, ◌++◌, length, refl, sym, ap, ◌∙◌, subst, arith, eqb-true, false≢true, IsNetwork, Event, Recorded, is_of, Legal, Held, Machine, end_in, wait_in, IsMachine, IsFree, Changes, Tables, sizes, Schedule, state_at, Book, IsHeld, own_part, woken_by, all_made_ready, schedule_after, IsStateBy, IsInStep}
use Rattle.kpn_machine.proofs.Running.{IsRun-next}
use Rattle.kpn_book.specs.Open.{MayBeReady, Follows, of_process}
use Rattle.kpn_book.proofs.Woken.{EndsThere, woken_distinct}
use Rattle.kpn_book.proofs.InStep.{woken_may_be_ready, woken_not_held, agree_after, length_after}
use Rattle.kpn_book.proofs.CommitCounts.{held_as_before, held_own}

-- the book after the event has made this machine
abbrev pub next_book : Event → Machine → Book → Book
next_book e machine b =
    record {
      tables = b.tables;
      history = b.history ++ e ∷ [];
      machine = machine;
      schedule = schedule_after b.tables b.machine.waits e b.schedule;
      commits = b.commits;
      keeps_events = b.keeps_events;
    }

-- the book with this machine and schedule
abbrev pub moved : Book → Machine → Schedule → Book
moved b s order = record b { machine = s; schedule = order }

-- the book with this history, machine and schedule
abbrev pub recorded : Book → Recorded → Machine → Schedule → Book
recorded b h s order = record (moved b s order) { history = h.events; keeps_events = h.is_kept }

-- a book whose history has other memory is the same book
pub same_recorded : (b : Book) (h : Recorded) (s : Machine) (order : Schedule) (H : List Event) → h.events ≡ H
    → h.is_kept ≡ b.keeps_events → recorded b h s order ≡ record (moved b s order) { history = H }
same_recorded b h s order H events kept =
    ap (λ xs. record (moved b s order) { history = xs; keeps_events = h.is_kept }) events
    ∙ ap (λ k. record (moved b s order) { history = H; keeps_events = k }) kept

-- the process of an event is held
pub own_held : (b : Book) (p : ℕ) → IsHeld b p → (q : ℕ) → eqb p q ≡ true → IsHeld b q
own_held b p held q is = subst (λ z. IsHeld b z) (eqb-true p q is) held

-- an event of no process
pub own_none : (b : Book) (q : ℕ) → false ≡ true → IsHeld b q
own_none b q is = absurd (false≢true is)

-- a held process is free, and exists
pub held_is_free : (b : Book) → IsInStep b → (p : ℕ) → IsHeld b p → IsFree b.machine p
held_is_free b step p held =
    let there = held.there in
    let by = subst (λ x. IsStateBy (end_in b.machine p) (wait_in b.machine p) x) held.held
    (step.states p (omega (arith, step.processes, there))) in
    record { lives = by.0; free = by.1 }

pub held_is_there : (b : Book) → IsInStep b → (p : ℕ) → IsHeld b p → p < length b.tables.instances
held_is_there b step p held = let there = held.there in omega (arith, step.processes)

module _ (b : Book) (network : IsNetwork b.tables) (step : IsInStep b) (e : Event)
    (own : (q : ℕ) → is_of q e ≡ true → IsHeld b q) (ends : EndsThere b.tables e) where
  own_states : (q : ℕ) → is_of q e ≡ true → state_at b.schedule.states q ≡ Held
  own_states q is = (own q is).held

  pub may_be_ready : MayBeReady (own_part e b.schedule) (woken_by b.tables b.machine.waits e)
  may_be_ready = record {
    once = woken_distinct b.tables network b.machine.waits step.run.shape.waits e ends;
    each =
        woken_may_be_ready b.tables network b.history b.machine step.run b.schedule step.processes step.states e
        own_states ends;
  }

  module _ (s : Machine) (changes : Changes b.tables e b.machine s) (shape : IsMachine b.tables s)
      (legal : Legal b.tables (b.history ++ e ∷ [])) where
    follows_next : Follows e b (next_book e s b)
    follows_next = record {
      appends = record { tables = refl; history = refl; machine = changes; schedule = refl; commits = refl; keeps_events = refl };
      in_step = record {
        run = IsRun-next b.tables network b.history e b.machine s step.run legal changes shape;
        processes =
            length_after b.tables network b.history b.machine step.run b.schedule step.processes step.states e
            own_states ends;
        states =
            agree_after b.tables network b.history b.machine step.run b.schedule step.processes step.states e
            own_states ends s changes;
      };
      held =
          ap (λ n. n + of_process e)
          (held_as_before (woken_by b.tables b.machine.waits e) (own_part e b.schedule)
          (woken_not_held b.tables network b.history b.machine step.run b.schedule step.processes step.states e
          own_states ends))
          ∙ held_own e b.schedule (λ q is. ((own q is).there, (own q is).held));
    }

    pub follows : (after : Book) → after ≡ next_book e s b → Follows e b after
    follows after is = subst (λ x. Follows e b x) (sym is) follows_next

-- ---- how the calls come to it

-- ---- what the calls make of it
pub may_be_woken : (b : Book) → IsNetwork b.tables → IsInStep b → (e : Event)
    → ((q : ℕ) → is_of q e ≡ true → IsHeld b q) → EndsThere b.tables e → (s : Schedule) (ps : List ℕ)
    → s ≡ own_part e b.schedule → ps ≡ woken_by b.tables b.machine.waits e → MayBeReady s ps
may_be_woken b network step e own ends s ps is woken =
    subst (λ x. MayBeReady x ps) (sym is)
    (subst (λ xs. MayBeReady (own_part e b.schedule) xs) (sym woken) (may_be_ready b network step e own ends))

-- the machine changes, an event is pushed, its process moves, and others are woken
pub followed : (b : Book) → IsNetwork b.tables → IsInStep b → (e : Event) → ((q : ℕ) → is_of q e ≡ true → IsHeld b q)
    → EndsThere b.tables e → (s : Machine) → Changes b.tables e b.machine s → IsMachine b.tables s
    → Legal b.tables (b.history ++ e ∷ []) → (pushed : Event) (h : Recorded) (own order : Schedule) (ws : List ℕ)
    → pushed ≡ e → h.events ≡ b.history ++ pushed ∷ [] → h.is_kept ≡ b.keeps_events → own ≡ own_part e b.schedule
    → order ≡ all_made_ready ws own → ws ≡ woken_by b.tables b.machine.waits e → Follows e b (recorded b h s order)
followed b network step e own ends s changes shape legal pushed h own_then order ws is history kept moves wakes woken =
    follows b network step e own ends s changes shape legal (recorded b h s order)
    (same_recorded b h s order (b.history ++ e ∷ []) (history ∙ ap (λ x. b.history ++ x ∷ []) is) kept
    ∙ ap (λ x. record (moved b s x) { history = b.history ++ e ∷ [] })
    (wakes ∙ ap (all_made_ready ws) moves ∙ ap (λ xs. all_made_ready xs (own_part e b.schedule)) woken))

-- the numbers of a network fit in an event
pub process_fits : (t : Tables) → IsNetwork t → (p : ℕ) → p < length t.instances → p < 65536
process_fits t network p there = let few = (sizes t network).instances in omega (arith, few, there)

pub channel_fits : (t : Tables) → IsNetwork t → (c : ℕ) → c < length t.channels → c < 65536
channel_fits t network c there = let few = (sizes t network).channels in omega (arith, few, there)
