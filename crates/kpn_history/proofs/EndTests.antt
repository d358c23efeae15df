-- Plain tests of how a history may end, and what follows from a yes of each: quiet, settled, and each verdict.
use Rattle.kpn_history.proofs.Common.{Contains, ◌≡◌, ℕ, ◌<◌, ◌⊎◌, inl, inr, Bool, true, false, not, ◌&&◌, ◌||◌, List, [], ◌∷◌, length, Some, refl, subst, and_parts, or_cases, not-true, not-false, not_from_false, both_ways, cases_Bool, Wait, Nobody, Empty, Full, Tables, channel_at, is_source, is_sink, Event, Verdict, has_ended, is_empty, is_closed, is_left, wait_of, waits_of, full_in_cycle, HasFullCycle, WaitsOnEmpty, WaitsOnFull, IsQuiet, IsSettled, HasFullWait, IsVerdict, Contains-first, Contains-none, cycle_below}
use Rattle.kpn_history.specs.declared.state.Verdict.TheVariants as verdict
use Rattle.kpn_history.proofs.Searching.{each_below, each_below-at, each_below-fails, way-ends, Way, Round, Off, Lost, Allows}
use Rattle.kpn_history.proofs.Checking.{way_round, way_round-allows, way_round-cycle, is_nobody}

-- ---- waits

abbrev waits_empty : Wait → Bool
waits_empty Nobody = false
waits_empty (Empty c) = true
waits_empty (Full c) = false

abbrev waits_full : Wait → Bool
waits_full Nobody = false
waits_full (Empty c) = false
waits_full (Full c) = true

on_empty : (t : Tables) (H : List Event) (p : ℕ) (w : Wait) → wait_of t H p ≡ w → waits_empty w ≡ true
    → WaitsOnEmpty t H p
on_empty t H p Nobody is e = absurd cc
on_empty t H p (Empty c) is e = record { channel = c; blocked = is }
on_empty t H p (Full c) is e = absurd cc

on_full : (t : Tables) (H : List Event) (p : ℕ) (w : Wait) → wait_of t H p ≡ w → waits_full w ≡ true
    → WaitsOnFull t H p
on_full t H p Nobody is e = absurd cc
on_full t H p (Empty c) is e = absurd cc
on_full t H p (Full c) is e = record { channel = c; blocked = is }

on_either : (t : Tables) (H : List Event) (p : ℕ) (w : Wait) → wait_of t H p ≡ w → is_nobody w ≡ false
    → WaitsOnEmpty t H p ⊎ WaitsOnFull t H p
on_either t H p Nobody is e = absurd cc
on_either t H p (Empty c) is e = inl (record { channel = c; blocked = is })
on_either t H p (Full c) is e = inr (record { channel = c; blocked = is })

full_wait : (t : Tables) (H : List Event) (p : ℕ) → WaitsOnFull t H p → waits_full (wait_of t H p) ≡ true
full_wait t H p h = rw h.blocked refl

-- ---- quiet

abbrev is_quiet_at : Tables → List Event → (p : ℕ) → Bool
is_quiet_at t H p = has_ended H p || waits_empty (wait_of t H p)

abbrev pub is_quiet : Tables → List Event → Bool
is_quiet t H = each_below (is_quiet_at t H) (length t.instances)

quiet_at : (t : Tables) (H : List Event) (p : ℕ) → is_quiet_at t H p ≡ true
    → (has_ended H p ≡ true) ⊎ WaitsOnEmpty t H p
quiet_at t H p e = elim (or_cases _ _ e) [ inl ended ↦ inl ended | inr waits ↦ inr (on_empty t H p _ refl waits) ]

pub is_quiet-true : (t : Tables) (H : List Event) → is_quiet t H ≡ true → IsQuiet t H
is_quiet-true t H e = record { each = λ p h. quiet_at t H p (each_below-at (is_quiet_at t H) _ e p h) }

-- ---- settled

abbrev is_settled_at : Tables → List Event → (p : ℕ) → Bool
is_settled_at t H p = has_ended H p || not (is_nobody (wait_of t H p))

abbrev is_shut : Tables → List Event → (c : ℕ) → Bool
is_shut t H c = not (is_source (channel_at t c)) || is_closed H c

abbrev is_emptied : Tables → List Event → (c : ℕ) → Bool
is_emptied t H c = not (is_sink (channel_at t c)) || (is_empty H c || is_left H c)

abbrev pub is_settled : Tables → List Event → Bool
is_settled t H =
    each_below (is_settled_at t H) (length t.instances)
    && (each_below (is_shut t H) (length t.channels) && each_below (is_emptied t H) (length t.channels))

settled_at : (t : Tables) (H : List Event) (p : ℕ) → is_settled_at t H p ≡ true
    → (has_ended H p ≡ true) ⊎ WaitsOnEmpty t H p ⊎ WaitsOnFull t H p
settled_at t H p e =
    elim (or_cases _ _ e) [ inl ended ↦ inl ended | inr waits ↦ inr (on_either t H p _ refl (not-true _ waits)) ]

shut_at : (t : Tables) (H : List Event) (c : ℕ) → is_shut t H c ≡ true → is_source (channel_at t c) ≡ true
    → is_closed H c ≡ true
shut_at t H c e source =
    elim (or_cases _ _ e) [ inl other ↦ absurd (both_ways _ (not-true _ other) source) | inr closed ↦ closed ]

emptied_at : (t : Tables) (H : List Event) (c : ℕ) → is_emptied t H c ≡ true → is_sink (channel_at t c) ≡ true
    → (is_empty H c ≡ true) ⊎ (is_left H c ≡ true)
emptied_at t H c e sink =
    elim (or_cases _ _ e) [ inl other ↦ absurd (both_ways _ (not-true _ other) sink) | inr rest ↦ or_cases _ _ rest ]

pub is_settled-true : (t : Tables) (H : List Event) → is_settled t H ≡ true → IsSettled t H
is_settled-true t H e =
    let parts = and_parts _ _ e in let more = and_parts _ _ parts.1 in
    record {
      processes = λ p h. settled_at t H p (each_below-at (is_settled_at t H) _ parts.0 p h);
      sources = λ c h. shut_at t H c (each_below-at (is_shut t H) _ more.0 c h);
      sinks = λ c h. emptied_at t H c (each_below-at (is_emptied t H) _ more.1 c h);
    }

-- ---- full cycles

abbrev is_nil : List ℕ → Bool
is_nil [] = true
is_nil (x ∷ xs) = false

abbrev lacks_full : Tables → List Event → (p : ℕ) → Way → Bool
lacks_full t H p (Round others) = is_nil (full_in_cycle t H p others)
lacks_full t H p Off = true
lacks_full t H p Lost = false

abbrev has_full : Tables → List Event → (p : ℕ) → Way → Bool
has_full t H p (Round others) = not (is_nil (full_in_cycle t H p others))
has_full t H p Off = false
has_full t H p Lost = false

nothing_in : (xs : List ℕ) (c : ℕ) → is_nil xs ≡ true → Contains xs c → ⊥
nothing_in [] c e h = Contains-none c h
nothing_in (x ∷ xs) c e h = cc

something_in : (xs : List ℕ) → is_nil xs ≡ false → (c : ℕ) × Contains xs c
something_in [] e = absurd cc
something_in (x ∷ xs) e = (x, Contains-first x xs)

lacks_full-true : (t : Tables) (H : List Event) (p : ℕ) (w : Way) (others : List ℕ) (c : ℕ)
    → lacks_full t H p w ≡ true → Allows w others → Contains (full_in_cycle t H p others) c → ⊥
lacks_full-true t H p (Round found) others c e same h =
    nothing_in (full_in_cycle t H p others) c (subst (λ xs. is_nil (full_in_cycle t H p xs) ≡ true) same e) h
lacks_full-true t H p Off others c e same h = same
lacks_full-true t H p Lost others c e same h = cc

abbrev pub lacks_full_cycle : Tables → List Event → Bool
lacks_full_cycle t H = each_below (λ p. lacks_full t H p (way_round t H p)) (length t.instances)

pub lacks_full_cycle-true : (t : Tables) (H : List Event) → lacks_full_cycle t H ≡ true → ¬ HasFullCycle t H
lacks_full_cycle-true t H e h =
    lacks_full-true t H h.process _ h.others h.channel
    (each_below-at (λ p. lacks_full t H p (way_round t H p)) _ e h.process
    (cycle_below t (waits_of t H) h.process h.others h.cycle h.process (Contains-first h.process h.others)))
    (way_round-allows t H h.process h.others h.cycle) h.full

has_full-true : (t : Tables) (H : List Event) (p : ℕ) (w : Way) → way_round t H p ≡ w → has_full t H p w ≡ true
    → HasFullCycle t H
has_full-true t H p (Round others) found e =
    let some = something_in _ (not-true _ e) in
    record {
      process = p;
      others = others;
      cycle = way_round-cycle t H p others found;
      channel = some.0;
      full = some.1;
    }
has_full-true t H p Off found e = absurd cc
has_full-true t H p Lost found e = absurd cc

full_unless_lacking : (t : Tables) (H : List Event) (p : ℕ) (w : Way) → way_round t H p ≡ w
    → lacks_full t H p w ≡ false → HasFullCycle t H
full_unless_lacking t H p (Round others) found e = has_full-true t H p (Round others) found (not_from_false _ e)
full_unless_lacking t H p Off found e = absurd cc
full_unless_lacking t H p Lost found e = absurd (way-ends t (waits_of t H) p p found)

lacks_full_cycle-false : (t : Tables) (H : List Event) → lacks_full_cycle t H ≡ false → HasFullCycle t H
lacks_full_cycle-false t H e =
    let at_p = each_below-fails (λ p. lacks_full t H p (way_round t H p)) (length t.instances) e in
    full_unless_lacking t H at_p.number (way_round t H at_p.number) refl at_p.fails

-- ---- verdicts

abbrev pub lacks_full_wait : Tables → List Event → Bool
lacks_full_wait t H = each_below (λ p. not (waits_full (wait_of t H p))) (length t.instances)

lacks_full_wait-true : (t : Tables) (H : List Event) → lacks_full_wait t H ≡ true → ¬ HasFullWait t H
lacks_full_wait-true t H e h =
    both_ways _ (not-true _ (each_below-at (λ p. not (waits_full (wait_of t H p))) _ e h.process h.there))
    (full_wait t H h.process h.waits)

full_wait_unless : (t : Tables) (H : List Event) → lacks_full_wait t H ≡ false → HasFullWait t H
full_wait_unless t H e =
    let at_p = each_below-fails (λ p. not (waits_full (wait_of t H p))) (length t.instances) e in
    record {
      process = at_p.number;
      there = at_p.below;
      waits = on_full t H at_p.number _ refl (not-false _ at_p.fails);
    }

abbrev pub is_ended : Tables → List Event → Bool
is_ended t H = is_settled t H && (lacks_full_cycle t H && lacks_full_wait t H)

pub is_ended-true : (t : Tables) (H : List Event) → is_ended t H ≡ true → IsVerdict t H (Some verdict.Ended)
is_ended-true t H e =
    let parts = and_parts _ _ e in let more = and_parts _ _ parts.1 in
    (is_settled-true t H parts.0, lacks_full_cycle-true t H more.0, lacks_full_wait-true t H more.1)

-- process p waits on a full channel
abbrev pub is_clogged_at : Tables → List Event → (p : ℕ) → Bool
is_clogged_at t H p = is_settled t H && (lacks_full_cycle t H && waits_full (wait_of t H p))

pub is_clogged_at-true : (t : Tables) (H : List Event) (p : ℕ) → p < length t.instances → is_clogged_at t H p ≡ true
    → IsVerdict t H (Some verdict.Clogged)
is_clogged_at-true t H p there e =
    let parts = and_parts _ _ e in let more = and_parts _ _ parts.1 in (
      is_settled-true t H parts.0,
      lacks_full_cycle-true t H more.0,
      record { process = p; there = there; waits = on_full t H p _ refl more.1 },
    )

-- process p waits in a cycle with a full channel
abbrev pub is_jammed_at : Tables → List Event → (p : ℕ) → Bool
is_jammed_at t H p = is_settled t H && has_full t H p (way_round t H p)

pub is_jammed_at-true : (t : Tables) (H : List Event) (p : ℕ) → is_jammed_at t H p ≡ true
    → IsVerdict t H (Some verdict.Jammed)
is_jammed_at-true t H p e =
    let parts = and_parts _ _ e in (is_settled-true t H parts.0, has_full-true t H p _ refl parts.1)

-- ---- each settled history has a verdict

pub record HasVerdict (t : Tables) (H : List Event) : Type 0 where
  pub verdict : Verdict
  pub is : IsVerdict t H (Some verdict)

pub has_verdict : (t : Tables) (H : List Event) → IsSettled t H → HasVerdict t H
has_verdict t H settled =
    elim (cases_Bool (lacks_full_cycle t H)) [
      | inr full ↦ record { verdict = verdict.Jammed; is = (settled, lacks_full_cycle-false t H full) }
      | inl no_cycle ↦
          elim (cases_Bool (lacks_full_wait t H)) [
            | inl no_wait ↦
                record {
                  verdict = verdict.Ended;
                  is = (settled, lacks_full_cycle-true t H no_cycle, lacks_full_wait-true t H no_wait);
                }
            | inr waits ↦
                record {
                  verdict = verdict.Clogged;
                  is = (settled, lacks_full_cycle-true t H no_cycle, full_wait_unless t H waits);
                }
          ]
    ]
