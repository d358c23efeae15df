-- Only what is due may follow: the stop at a frame decides what the process says next and how it ends.
use Rattle.kpn_machine.proofs.Common.{◌≡◌, ◌≢◌, ℕ, ◌<◌, ◌≤◌, Bool, true, false, not, ℤ, cond, eqb, List, [], ◌∷◌, ◌++◌, length, map, Option, Some, None, is_some, slice_get, slice_index, refl, sym, ap, ◌∙◌, subst, inl, inr, ◌⊎◌, arith, append-nil, length-append, length-map, map-append, Said, Ending, IsPrefix, Lists, alone, IsPrefix-refl, rest_of_prefix, prefix_after, length_of_prefix, same_from_prefix, IsPrefix-after, Instance, Process, Tables, channel_at, is_sink, reader_of, instance_at, program_of, IsNetwork, Family, ran_on, talk_on, ProcessCanSay, ProcessComesTo, at_channel, ends_at_channel, reader_of-sink, Stop, SaysNext, EndsThere, Frame, talk_said, next_said, end_reached, unread, next_item, How, Event, is_of, is_of_process, talk_of, has_ended, read_in, read_on, is_left, lives, CanGo, ending_of, Legal, IsOldest, OwesNothing, read_on-push, ended_exactly, can_go, Legal-exactly, IsLast, IsLast-ending_of, Machine, channel_in, end_in, frame_in, IsFree, IsEndOf, StandsAfter, IsRun, Stands, ReadsFrom, WritesTo, stop_for, stop_of, IsDueNow}
use Rattle.std.proofs.lemmas.Bool.{false≢true, both_ways, eqb-true}
use Rattle.kpn_lang.specs.declared.talk.Said.TheVariants as said
use Rattle.kpn_lang.specs.declared.talk.Ending.TheVariants as ending
use Rattle.kpn_lang.proofs.Processes.{CanSay-both}
use Rattle.kpn_lang.proofs.Sequential.{IsSequential-alone}
use Rattle.kpn_step.specs.declared.stop.Stop.TheVariants as stop
use Rattle.kpn_step.specs.Stops.{StandsAt}
use Rattle.kpn_history.specs.declared.event.Event.TheVariants.{Get, Put, WaitEmpty, WaitFull, Ended, Feed, Close, Take, Leave, Grow}
use Rattle.kpn_machine.proofs.Due.{unread_same, full_same}
use Rattle.kpn_machine.proofs.Ports.{reads_below, reads_own, in_port, out_port}
use Rattle.kpn_machine.proofs.Talking.{IsRestAfter-more}

-- ---- what is said on channels was said at ports

-- a talk of the process that begins with what it said, and then says this on its channel
said_next : (i : Instance) (talk ran : List Said) (heard : Said) → IsPrefix talk ran ⊎ IsPrefix ran talk
    → IsPrefix (map (at_channel i) talk ++ heard ∷ []) (map (at_channel i) ran)
    → (spoken : Said) × (at_channel i spoken ≡ heard) × IsPrefix (talk ++ spoken ∷ []) ran
said_next i talk ran heard (inl begins) h =
    let rest = rest_of_prefix talk ran begins in
    by_rest rest.0 rest.1 (prefix_after (map (at_channel i) talk) (heard ∷ []) (map (at_channel i) rest.0)
    (subst (λ xs. IsPrefix (map (at_channel i) talk ++ heard ∷ []) xs)
    (sym (ap (map (at_channel i)) rest.1) ∙ map-append (at_channel i) talk rest.0) h))
  where
    by_rest : (rest : List Said) → talk ++ rest ≡ ran → IsPrefix (heard ∷ []) (map (at_channel i) rest)
        → (spoken : Said) × (at_channel i spoken ≡ heard) × IsPrefix (talk ++ spoken ∷ []) ran
    by_rest [] e p = absurd p
    by_rest (spoken ∷ rest) e p = (
      spoken,
      sym p.0,
      subst (λ xs. IsPrefix (talk ++ spoken ∷ []) xs) e
          (IsPrefix-after talk (spoken ∷ []) (spoken ∷ rest) (refl, tt)),
    )
said_next i talk ran heard (inr shorter) h =
    let less : length ran ≤ length talk = length_of_prefix ran talk shorter in
    let more = length_of_prefix (map (at_channel i) talk ++ heard ∷ []) (map (at_channel i) ran) h in
    let a = length-map talk (at_channel i) in
    let b = length-map ran (at_channel i) in
    let c = length-append (map (at_channel i) talk) (heard ∷ []) in
    absurd (omega arith)

said_same : (i : Instance) (talk ran : List Said) → IsPrefix talk ran ⊎ IsPrefix ran talk
    → map (at_channel i) ran ≡ map (at_channel i) talk → ran ≡ talk
said_same i talk ran both e =
    let a = length-map talk (at_channel i) in
    let b = length-map ran (at_channel i) in
    let same : length ran ≡ length talk = sym b ∙ ap length e ∙ a in
    elim both [
      | inl begins ↦ sym (same_from_prefix talk ran begins (omega arith))
      | inr begins ↦ same_from_prefix ran talk begins (omega arith)
    ]

module _ (t : Tables) (network : IsNetwork t) (H : List Event) (legal : Legal t H) (p : ℕ)
    (there : p < length t.instances) (f : Frame) (stand : StandsAfter t H p f)
    (at : Stop) (stands : StandsAt (program_of t p).blocks f at) (no_pause : at ≢ stop.Paused) (X more : Family)
    (is : (c : ℕ) → X c ≡ read_on H c ++ more c) where
  comparable : (n : ℕ) → IsPrefix stand.said (ran_on t p n X).talk ⊎ IsPrefix (ran_on t p n X).talk stand.said
  comparable n =
      CanSay-both (alone (program_of t p) (instance_at t p).pars)
      (IsSequential-alone (program_of t p) (instance_at t p).pars) (map X (instance_at t p).ins) stand.said
      (ran_on t p n X).talk
      (talk_said (program_of t p) (instance_at t p).pars stand.said f (map X (instance_at t p).ins)
      (map more (instance_at t p).ins) stand.after (IsRestAfter-more t network H legal p there f stand X more is))
      (record { turns = n; said = IsPrefix-refl (ran_on t p n X).talk })

  -- what it says next on a channel is what the stop says next at a port
  pub next_is_asked : (heard : Said) → ProcessCanSay t p X (talk_of H p ++ heard ∷ [])
      → (spoken : Said) × (at_channel (instance_at t p) spoken ≡ heard)
      × SaysNext at (map more (instance_at t p).ins) spoken
  next_is_asked heard can =
      let found = said_next (instance_at t p) stand.said (ran_on t p can.turns X).talk heard (comparable can.turns)
      (subst (λ talk. IsPrefix (talk ++ heard ∷ []) (talk_on t p can.turns X)) (sym stand.talk) can.said) in (
        found.0,
        found.1,
        (next_said (program_of t p) (instance_at t p).pars stand.said f at (map X (instance_at t p).ins)
            (map more (instance_at t p).ins) found.0 stand.after stands no_pause
            (IsRestAfter-more t network H legal p there f stand X more is)).0
            (record { turns = can.turns; said = found.2 }),
      )

  -- how it ends is as its stop says
  pub end_is_there : (end : Ending) → ProcessComesTo t p X end (talk_of H p)
      → (mine : Ending) × (ends_at_channel (instance_at t p) mine ≡ end)
      × EndsThere at (map more (instance_at t p).ins) mine
  end_is_there end comes =
      let same : (ran_on t p comes.turns X).talk ≡ stand.said =
      said_same (instance_at t p) stand.said (ran_on t p comes.turns X).talk (comparable comes.turns)
      (comes.said ∙ sym stand.talk) in (
        (ran_on t p comes.turns X).ending,
        comes.ended,
        (end_reached (program_of t p) (instance_at t p).pars stand.said f at (map X (instance_at t p).ins)
            (map more (instance_at t p).ins) (ran_on t p comes.turns X).ending stand.after stands no_pause
            (IsRestAfter-more t network H legal p there f stand X more is)).0
            (record {
              turns = comes.turns;
              ended = refl;
              said = same;
              whole = λ cut. comes.whole (sym comes.ended ∙ ap (ends_at_channel (instance_at t p)) cut);
            }),
      )

-- ---- events of a process

-- a process that can go is free
pub free_there : (t : Tables) (H : List Event) (s : Machine) → IsRun t H s → (p : ℕ) → p < length t.instances
    → CanGo t H p → IsFree s p
free_there t H s run p there go =
    record { lives = unended (end_in s p) (run.leads.ends p there); free = run.leads.waits p there ∙ go.free }
  where
    unended : (end : Option How) → IsEndOf H p end → end ≡ None
    unended None h = refl
    unended (Some how) h = absurd (both_ways _ go.lives ((ended_exactly H p).1 (how, h)))

module _ (t : Tables) (network : IsNetwork t) (H : List Event) (s : Machine) (run : IsRun t H s) where
  gives : (c : ℕ) (v : ℤ) → c < length t.channels → (channel_in s c).is_retired ≡ false → IsOldest H c v
      → next_item (channel_in s c) ≡ Some v
  gives c v below alive oldest =
      ap (λ b. cond b None (slice_get (unread (channel_in s c)) 0)) alive
      ∙ ap (λ xs. slice_get xs 0) (unread_same t H c (channel_in s c) (run.leads.channels c below) ∙ oldest.first)

  not_retired : (c : ℕ) → c < length t.channels → is_sink (channel_at t c) ≡ true → is_left H c ≡ false
      → (channel_in s c).is_retired ≡ false
  not_retired c below sink left =
      (run.leads.channels c below).retired ∙ ap not (ap (lives H c) (reader_of-sink t c sink) ∙ ap not left)

  pub must_be_free : (p : ℕ) → p < length t.instances → (e : Event) → is_of p e ≡ true → Legal t (H ++ e ∷ [])
      → IsFree s p
  must_be_free p there e own legal = free_there t H s run p there (can_go t H e legal p own)

  -- the reader of a channel that has not ended
  still_read : (p c : ℕ) → c < length t.channels → reader_of t c ≡ Process p → has_ended H p ≡ false
      → (channel_in s c).is_retired ≡ false
  still_read p c below own alive = (run.leads.channels c below).retired ∙ ap not (ap (lives H c) own ∙ ap not alive)

  pub reader_there : (p c : ℕ) → p < length t.instances → IsFree s p → ReadsFrom t s p c
      → (channel_in s c).is_retired ≡ false
  reader_there p c there free reads =
      still_read p c (reads_below t network s p there c reads) (reads_own t network s p there c reads)
      (subst (λ e. IsEndOf H p e) free.lives (run.leads.ends p there))

  pub gets_or_waits : (p c : ℕ) → p < length t.instances → IsFree s p → ReadsFrom t s p c
      → is_some (next_item (channel_in s c)) ≡ false → unread (channel_in s c) ≡ []
  gets_or_waits p c there free reads =
      by_items (channel_in s c).is_retired (reader_there p c there free reads) (unread (channel_in s c))
    where
      by_items : (b : Bool) → b ≡ false → (xs : List ℤ) → is_some (cond b None (slice_get xs 0)) ≡ false → xs ≡ []
      by_items b is [] none = refl
      by_items true is (x ∷ xs) none = absurd (cc)
      by_items false is (x ∷ xs) none = absurd (cc)

  module _ (p : ℕ) (there : p < length t.instances) where
    reads_at : (port i c : ℕ) → Stands t s p (stop.WantRead port) → slice_index (instance_at t p).ins i ≡ c → i ≡ port
        → ReadsFrom t s p c
    reads_at port i c stands own same =
        record {
          port = port;
          channel = (in_port t network s p there port stands, ap (λ x. slice_index (instance_at t p).ins x) (sym same) ∙ own);
          stands =
              stands;
        }

    got_from : (at : Stop) (spoken : Said) (rest : Lists) (c : ℕ) (v : ℤ)
        → Stands t s p at → at_channel (instance_at t p) spoken ≡ said.Got c v → SaysNext at rest spoken
        → ReadsFrom t s p c
    got_from (stop.WantRead port) (said.Got i w) rest c v stands own next = reads_at port i c stands (cc) next.0
    got_from at (said.Put o w) rest c v stands own next = absurd cc
    got_from at (said.Got i w) rest c v stands own next = absurd next

    put_to : (at : Stop) (spoken : Said) (rest : Lists) (c : ℕ) (v : ℤ)
        → Stands t s p at → at_channel (instance_at t p) spoken ≡ said.Put c v → SaysNext at rest spoken
        → WritesTo t s p c v
    put_to (stop.WantWrite port item) (said.Put o w) rest c v stands own next =
        let named : slice_index (instance_at t p).outs o ≡ c = cc in
        let value : w ≡ v = cc in
        let stood = subst (λ x. Stands t s p (stop.WantWrite port x)) (sym next.1 ∙ value) stands in
        record {
          port = port;
          channel =
              (out_port t network s p there port v stood, ap (λ x. slice_index (instance_at t p).outs x) (sym next.0) ∙ named);
          stands = stood;
        }
    put_to at (said.Got i w) rest c v stands own next = absurd cc
    put_to at (said.Put o w) rest c v stands own next = absurd next

    starved_at : (at : Stop) (mine : Ending) (rest : Lists) (c : ℕ)
        → Stands t s p at → ends_at_channel (instance_at t p) mine ≡ ending.Starved c → EndsThere at rest mine
        → ReadsFrom t s p c
    starved_at (stop.WantRead port) (ending.Starved i) rest c stands own ends = reads_at port i c stands (cc) ends.0
    starved_at at ending.Done rest c stands own ends = absurd cc
    starved_at at (ending.Faulted f) rest c stands own ends = absurd cc
    starved_at at ending.Cut rest c stands own ends = absurd cc
    starved_at at (ending.Starved i) rest c stands own ends = absurd ends

    ended_at : (at : Stop) (mine : Ending) (rest : Lists) (how : How)
        → Stands t s p at → ends_at_channel (instance_at t p) mine ≡ ending_of how → EndsThere at rest mine
        → Stands t s p (stop_of how)
    ended_at stop.Done ending.Done rest how stands own ends = subst (λ x. Stands t s p x) (ap stop_for own) stands
    ended_at (stop.Faulted f) (ending.Faulted other) rest how stands own ends =
        subst (λ x. Stands t s p x) (ap stop.Faulted (sym ends) ∙ ap stop_for own) stands
    ended_at at (ending.Starved i) rest how stands own ends = absurd (subst IsLast (sym own) (IsLast-ending_of how))
    ended_at at ending.Cut rest how stands own ends = absurd (subst IsLast (sym own) (IsLast-ending_of how))
    ended_at at mine rest how stands own ends = absurd ends

    module _ (at : Stop) (stands : Stands t s p at) (no_pause : at ≢ stop.Paused) where
      asked : (X more : Family) → ((c : ℕ) → X c ≡ read_on H c ++ more c) → (heard : Said)
          → ProcessCanSay t p X (talk_of H p ++ heard ∷ [])
          → (spoken : Said) × (at_channel (instance_at t p) spoken ≡ heard)
          × SaysNext at (map more (instance_at t p).ins) spoken
      asked X more is heard can =
          next_is_asked t network H run.legal p there (frame_in s p) (run.leads.frames p there) at stands no_pause X
          more is heard can

      reached : (end : Ending) → ProcessComesTo t p (read_on H) end (talk_of H p)
          → (mine : Ending) × (ends_at_channel (instance_at t p) mine ≡ end)
          × EndsThere at (map (λ d. []) (instance_at t p).ins) mine
      reached end comes =
          end_is_there t network H run.legal p there (frame_in s p) (run.leads.frames p there) at stands no_pause
          (read_on H) (λ d. []) (λ d. sym (append-nil (read_on H d))) end comes

      pub due_here : (e : Event) → is_of p e ≡ true → Legal t (H ++ e ∷ []) → IsDueNow t s e
      due_here (Get q c v) own legal =
          subst (λ x. IsDueNow t s (Get x c v)) (sym (eqb-true q p own))
          (got (subst (λ x. Legal t (H ++ Get x c v ∷ [])) (eqb-true q p own) legal))
        where
          got : Legal t (H ++ Get p c v ∷ []) → IsDueNow t s (Get p c v)
          got legal =
              let parts = (Legal-exactly t H (Get p c v)).0 legal in
              let next =
              asked (read_on (H ++ Get p c v ∷ [])) (λ d. read_in d (Get p c v)) (read_on-push H (Get p c v))
              (said.Got c v) parts.2.1 in
              let reads =
              got_from at next.0 (map (λ d. read_in d (Get p c v)) (instance_at t p).ins) c v stands next.1 next.2 in (
                free_there t H s run p there parts.1.due,
                reads,
                gives c v parts.1.numbers.1
                    (still_read p c parts.1.numbers.1 (reads_own t network s p there c reads) parts.1.due.lives)
                    parts.2.0,
              )
      due_here (Put q c v) own legal =
          subst (λ x. IsDueNow t s (Put x c v)) (sym (eqb-true q p own))
          (put (subst (λ x. Legal t (H ++ Put x c v ∷ [])) (eqb-true q p own) legal))
        where
          put : Legal t (H ++ Put p c v ∷ []) → IsDueNow t s (Put p c v)
          put legal =
              let parts = (Legal-exactly t H (Put p c v)).0 legal in
              let next =
              asked (read_on H) (λ d. []) (λ d. sym (append-nil (read_on H d))) (said.Put c v) parts.2.1 in (
                free_there t H s run p there parts.1.due,
                put_to at next.0 (map (λ d. []) (instance_at t p).ins) c v stands next.1 next.2,
                full_same t H c (channel_in s c) (run.leads.channels c parts.1.numbers.1) ∙ parts.2.0,
              )
      due_here (WaitEmpty q c) own legal =
          subst (λ x. IsDueNow t s (WaitEmpty x c)) (sym (eqb-true q p own))
          (waits (subst (λ x. Legal t (H ++ WaitEmpty x c ∷ [])) (eqb-true q p own) legal))
        where
          nothing : (xs : List ℤ) → eqb (length xs) 0 ≡ true → xs ≡ []
          nothing [] e = refl
          nothing (x ∷ xs) e = let zero : length (x ∷ xs) ≡ 0 = eqb-true (length (x ∷ xs)) 0 e in absurd (omega arith)

          waits : Legal t (H ++ WaitEmpty p c ∷ []) → IsDueNow t s (WaitEmpty p c)
          waits legal =
              let parts = (Legal-exactly t H (WaitEmpty p c)).0 legal in
              let end = reached (ending.Starved c) parts.1.due.1.starved in (
                free_there t H s run p there parts.1.due.0,
                starved_at at end.0 (map (λ d. []) (instance_at t p).ins) c stands end.1 end.2,
                unread_same t H c (channel_in s c) (run.leads.channels c parts.1.numbers.1)
                    ∙ nothing _ parts.1.due.1.empty,
              )
      due_here (WaitFull q c) own legal =
          subst (λ x. IsDueNow t s (WaitFull x c)) (sym (eqb-true q p own))
          (waits (subst (λ x. Legal t (H ++ WaitFull x c ∷ [])) (eqb-true q p own) legal))
        where
          waits : Legal t (H ++ WaitFull p c ∷ []) → IsDueNow t s (WaitFull p c)
          waits legal =
              let parts = (Legal-exactly t H (WaitFull p c)).0 legal in
              let v = parts.1.due.1.item in
              let next =
              asked (read_on H) (λ d. []) (λ d. sym (append-nil (read_on H d))) (said.Put c v) parts.1.due.1.next in (
                free_there t H s run p there parts.1.due.0,
                (v, put_to at next.0 (map (λ d. []) (instance_at t p).ins) c v stands next.1 next.2),
                full_same t H c (channel_in s c) (run.leads.channels c parts.1.numbers.1) ∙ parts.1.due.1.full,
              )
      due_here (Ended q how) own legal =
          subst (λ x. IsDueNow t s (Ended x how)) (sym (eqb-true q p own))
          (ends (subst (λ x. Legal t (H ++ Ended x how ∷ [])) (eqb-true q p own) legal))
        where
          ends : Legal t (H ++ Ended p how ∷ []) → IsDueNow t s (Ended p how)
          ends legal =
              let parts = (Legal-exactly t H (Ended p how)).0 legal in
              let end = reached (ending_of how) parts.1.due.1 in (
                free_there t H s run p there parts.1.due.0,
                ended_at at end.0 (map (λ d. []) (instance_at t p).ins) how stands end.1 end.2,
              )
      due_here event own legal = absurd (false≢true own)

  -- ---- events of the caller, and growths

  pub due_outside : OwesNothing t H → (e : Event) → is_of_process e ≡ false → Legal t (H ++ e ∷ []) → IsDueNow t s e
  due_outside owes (Feed c v) own legal =
      let parts = (Legal-exactly t H (Feed c v)).0 legal in
      (parts.1.due.source, run.leads.closed c parts.1.numbers ∙ parts.1.due.not_closed)
  due_outside owes (Close c) own legal =
      let parts = (Legal-exactly t H (Close c)).0 legal in
      (parts.1.due.source, run.leads.closed c parts.1.numbers ∙ parts.1.due.not_closed)
  due_outside owes (Take c v) own legal =
      let parts = (Legal-exactly t H (Take c v)).0 legal in (
        parts.1.due.sink,
        gives c v parts.1.numbers (not_retired c parts.1.numbers parts.1.due.sink parts.1.due.not_left) parts.2,
      )
  due_outside owes (Leave c) own legal =
      let parts = (Legal-exactly t H (Leave c)).0 legal in
      (parts.1.due.sink, not_retired c parts.1.numbers parts.1.due.sink parts.1.due.not_left)
  due_outside owes (Grow q d n) own legal = let parts =
      (Legal-exactly t H (Grow q d n)).0 legal in absurd (owes q d parts.1.due)
  due_outside owes event own legal = absurd (false≢true (sym own))
