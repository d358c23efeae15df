-- After one more event the history leads to the machine into which the event changes the one before, part by
-- part.
use Rattle.std.proofs.Common.{◌≡◌, ℕ, ◌+◌, Bool, true, false, not, ◌&&◌, ◌||◌, ℤ, cond, eqb, eq-eqb, List, [], ◌∷◌, ◌++◌, length, map, Option, Some, None, refl, sym, ap, ◌∙◌, subst, inl, inr, length-append}
use Rattle.kpn_machine.proofs.Common.{cases_eq, ne_eqb, map-append, Contains-append_left, Contains-push, Said, Tables, instance_at, program_of, IsNetwork, at_channel, Frame, ChannelState, How, Event, is_end_of, said_in, talk_of, written_in, read_in, read_on, reader_lives, is_close_of, wait_then, capacity_then, takes_reader, Legal, flat_map-same, written_on-push, read_on-push, talk_of-push, talk_of-other, capacity_after-next, Machine, HoldsChannel, IsEndOf, NamesInsBelow, StandsAfter, LeadsToMachine, IsChannelAfter, end_then, PassesRead, PassesWrite, IsFrameAfter, Changes, wait_of-then, IsAfter-got, IsAfter-put}
use Rattle.kpn_lang.specs.declared.talk.Said.TheVariants as said
use Rattle.kpn_history.specs.declared.event.Event.TheVariants.{Get, Put, Ended}
use Rattle.kpn_history.proofs.AfterEvent.{has_ended-next, is_closed-next, reader_lives-next}

-- ---- channels

not_or : (a b : Bool) → (not a || b) ≡ not (a && not b)
not_or true true = refl
not_or true false = refl
not_or false b = refl

HoldsChannel-next : (t : Tables) (B : List Event) (e : Event) (c : ℕ) (before after : ChannelState)
    → HoldsChannel t B c before → IsChannelAfter t e c before after → HoldsChannel t (B ++ e ∷ []) c after
HoldsChannel-next t B e c before after h a =
    record {
      journal = a.journal ∙ ap (λ xs. xs ++ written_in c e) h.journal ∙ sym (written_on-push B e c);
      read =
          a.read ∙ ap (λ n. n + length (read_in c e)) h.read ∙ sym (length-append (read_on B c) (read_in c e))
          ∙ sym (ap length (read_on-push B e c));
      capacity = a.capacity ∙ ap (capacity_then t c e) h.capacity ∙ sym (capacity_after-next t B e c);
      retired =
          a.retired ∙ ap (λ b. b || takes_reader t c e) h.retired ∙ not_or (reader_lives t B c) (takes_reader t c e)
          ∙ sym (ap not (reader_lives-next t B e c));
    }

-- ---- ends

or_neither : (a b : Bool) → a ≡ false → b ≡ false → (a || b) ≡ false
or_neither true b p q = p
or_neither false b p q = q

-- an event that does not end the process
IsEndOf-kept : (B : List Event) (e : Event) (p : ℕ) (end : Option How) → is_end_of p e ≡ false → IsEndOf B p end
    → IsEndOf (B ++ e ∷ []) p end
IsEndOf-kept B e p None lives h = has_ended-next B e p ∙ or_neither _ _ h lives
IsEndOf-kept B e p (Some how) lives h = Contains-append_left B (e ∷ []) (Ended p how) h

IsEndOf-next : (B : List Event) (e : Event) (p : ℕ) (end : Option How) → IsEndOf B p end
    → IsEndOf (B ++ e ∷ []) p (end_then e p end)
IsEndOf-next B (Ended q how) p end h =
    elim (cases_eq q p) [
      | inl same ↦
          rw (eq-eqb q p same) (rw same (Contains-push B (Ended p how)))
      | inr differ ↦
          rw (ne_eqb q p differ) (IsEndOf-kept B (Ended q how) p end (ne_eqb q p differ) h)
    ]
IsEndOf-next B event p end h = IsEndOf-kept B event p end refl h

-- ---- frames

-- after an event of another process, or one in which it says nothing, a process is at the same place
StandsAfter-kept : (t : Tables) (B : List Event) (e : Event) (p : ℕ) (f g : Frame)
    → talk_of (B ++ e ∷ []) p ≡ talk_of B p → g ≡ f → StandsAfter t B p f → StandsAfter t (B ++ e ∷ []) p g
StandsAfter-kept t B e p f g talk same h =
    record { said = h.said; ports = h.ports; talk = h.talk ∙ sym talk; after = rw same h.after }

-- what is said at a port is said on the channel of that port
said_at : (t : Tables) (B : List Event) (e : Event) (p : ℕ) (talk : List Said) (spoken heard : Said)
    → map (at_channel (instance_at t p)) talk ≡ talk_of B p → at_channel (instance_at t p) spoken ≡ heard
    → said_in p e ≡ heard ∷ [] → map (at_channel (instance_at t p)) (talk ++ spoken ∷ []) ≡ talk_of (B ++ e ∷ []) p
said_at t B e p talk spoken heard before here is =
    map-append (at_channel (instance_at t p)) talk (spoken ∷ [])
    ∙ ap (λ xs. xs ++ at_channel (instance_at t p) spoken ∷ []) before
    ∙ ap (λ x. talk_of B p ++ x ∷ []) here
    ∙ ap (λ xs. talk_of B p ++ xs) (sym is)
    ∙ sym (talk_of-push B e p)

ports_more : (n : ℕ) (talk : List Said) (spoken : Said) → NamesInsBelow n talk → NamesInsBelow n (spoken ∷ [])
    → NamesInsBelow n (talk ++ spoken ∷ [])
ports_more n [] spoken h last = last
ports_more n (said.Got port v ∷ talk) spoken h last = (h.0, ports_more n talk spoken h.1 last)
ports_more n (said.Put port v ∷ talk) spoken h last = ports_more n talk spoken h last

own : (p : ℕ) (said : Said) → cond (eqb p p) (said ∷ []) [] ≡ said ∷ []
own p said = ap (λ b. cond b (said ∷ []) []) (eq-eqb p p refl)

StandsAfter-got : (t : Tables) (B : List Event) (p c : ℕ) (v : ℤ) (f g : Frame) → PassesRead t p c v f g
    → StandsAfter t B p f → StandsAfter t (B ++ Get p c v ∷ []) p g
StandsAfter-got t B p c v f g passes h =
    record {
      said = h.said ++ said.Got passes.port v ∷ [];
      ports = ports_more _ h.said (said.Got passes.port v) h.ports (passes.channel.0, tt);
      talk =
          said_at t B (Get p c v) p h.said (said.Got passes.port v) (said.Got c v) h.talk
          (ap (λ d. said.Got d v) (passes.channel.1)) (own p (said.Got c v));
      after =
          IsAfter-got (program_of t p) (instance_at t p).pars h.said f g passes.port v h.after passes.stood
          passes.passes;
    }

StandsAfter-put : (t : Tables) (B : List Event) (p c : ℕ) (v : ℤ) (f g : Frame) → PassesWrite t p c v f g
    → StandsAfter t B p f → StandsAfter t (B ++ Put p c v ∷ []) p g
StandsAfter-put t B p c v f g passes h =
    record {
      said = h.said ++ said.Put passes.port v ∷ [];
      ports = ports_more _ h.said (said.Put passes.port v) h.ports tt;
      talk =
          said_at t B (Put p c v) p h.said (said.Put passes.port v) (said.Put c v) h.talk
          (ap (λ d. said.Put d v) (passes.channel.1)) (own p (said.Put c v));
      after =
          rw (passes.passes)
          (IsAfter-put (program_of t p) (instance_at t p).pars h.said f passes.port v h.after passes.stood);
    }

StandsAfter-next : (t : Tables) (B : List Event) (e : Event) (p : ℕ) (f g : Frame) → IsFrameAfter t e p f g
    → StandsAfter t B p f → StandsAfter t (B ++ e ∷ []) p g
StandsAfter-next t B (Get q c v) p f g a h =
    elim (cases_eq q p) [
      | inl same ↦
          subst (λ x. StandsAfter t (B ++ Get x c v ∷ []) p g) (sym same) (StandsAfter-got t B p c v f g (a.0 same) h)
      | inr differ ↦
          StandsAfter-kept t B (Get q c v) p f g (talk_of-other B (Get q c v) p (ne_eqb q p differ)) (a.1 differ) h
    ]
StandsAfter-next t B (Put q c v) p f g a h =
    elim (cases_eq q p) [
      | inl same ↦
          subst (λ x. StandsAfter t (B ++ Put x c v ∷ []) p g) (sym same) (StandsAfter-put t B p c v f g (a.0 same) h)
      | inr differ ↦
          StandsAfter-kept t B (Put q c v) p f g (talk_of-other B (Put q c v) p (ne_eqb q p differ)) (a.1 differ) h
    ]
StandsAfter-next t B event p f g a h = StandsAfter-kept t B event p f g (flat_map-same (said_in p) B event refl) a h

-- ---- all parts

pub LeadsToMachine-next : (t : Tables) → IsNetwork t → (B : List Event) (e : Event) (before after : Machine)
    → Legal t (B ++ e ∷ []) → LeadsToMachine t B before → Changes t e before after
    → LeadsToMachine t (B ++ e ∷ []) after
LeadsToMachine-next t network B e before after legal h a =
    record {
      channels = λ c below. HoldsChannel-next t B e c _ _ (h.channels c below) (a.channels c below);
      closed =
          λ c below. a.closed c below ∙ ap (λ b. b || is_close_of c e) (h.closed c below)
          ∙ sym (is_closed-next B e c);
      waits =
          λ p below. a.waits p below ∙ ap (wait_then t e p) (h.waits p below)
          ∙ sym (wait_of-then t network B e legal p);
      ends = λ p below. rw (a.ends p below) (IsEndOf-next B e p _ (h.ends p below));
      frames = λ p below. StandsAfter-next t B e p _ _ (a.frames p below) (h.frames p below);
    }
