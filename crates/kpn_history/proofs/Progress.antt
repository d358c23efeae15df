-- What the next event of a history asks of another one that has made the events before it. An event of a process is
-- made once the process has had its turn there. Any other event is made already: a growth that was owed is owed there
-- too, unless it has come.
use Rattle.kpn_history.proofs.Common.{Contains, unwrap_or, cases_Bool, cases_lt, both_ways, eqb-true, false≢true, false_from_ne_true, or_left, IsPrefix, got_at, put_at, End, Process, Source, Sink, Tables, channel_at, is_source, writer_of, reader_of, IsNetwork, Family, Event, Get, Put, WaitEmpty, WaitFull, Ended, is_of, is_of_process, said_in, talk_of, takes_end, PutsNoMore, written_in, read_in, written_on, unread_on, is_growth_of, is_close_of, is_closed, is_empty, is_full, capacity_or_zero, wait_of, OwesGrowth, Legal, OwesNothing, HasStopped, IsSettled, growths_of, IsRunFrom, HasMadeNoMore, IsHalt, HasHalted, HasMade, IsCaughtUp, HasHadTurn, IsPrefix-trans, IsPrefix-same, length_of_prefix, rest_of_prefix, same_from_prefix, got_at-prefix, put_at-prefix, Reads-below, writer_of-Writes, reader_of-Reads, Writes-writer_of, Reads-reader_of, source-writer_of, sink-reader_of, writer_is_no_sink, reader_is_no_source}
use Rattle.std.proofs.Common.{◌≡◌, ℕ, ◌+◌, ◌<◌, ◌≤◌, ◌⊎◌, true, false, cond, eq-eqb, List, [], ◌∷◌, ◌++◌, length, Some, append_assoc, refl, sym, ap, ◌∙◌, subst, inl, inr, arith, length-append, append-nil}
use Rattle.kpn_lang.specs.declared.talk.Said.TheVariants as said
use Rattle.kpn_history.proofs.Legality.{Legal-last, Legal-before, onward}
use Rattle.kpn_history.proofs.Events.{Some-event, last_event-own, last_event-other, talk_of-push, talk_of-grows, talk_of-other}
use Rattle.kpn_history.proofs.AfterEvent.{of_process, is_closed-next}
use Rattle.kpn_history.proofs.Journals.{written_on-put, read_on-got}
use Rattle.kpn_history.proofs.Above.{all_read}
use Rattle.kpn_history.proofs.OneMore.{unread_length}
use Rattle.kpn_history.proofs.Ownership.{Owns}
use Rattle.kpn_history.proofs.WaitsAfter.{IsOwnEvent, last_is_own, is_empty-same, is_full-same}
use Rattle.kpn_history.proofs.Growth.{nothing_can_grow}
use Rattle.kpn_history.proofs.OwedGrowth.{no_wait_left}
use Rattle.kpn_history.proofs.Stops.{is_filled}
use Rattle.kpn_history.proofs.Rests.{Rests, IsRest, rest_waits, rest_halts, ends_last, ended_if_last, rests_if_stopped, same_halt, says_within, talks_comparable}
use Rattle.kpn_history.proofs.Standing.{StandsAmong, Stand, AwaitsAmong, AreWithin, run_before, written_there, full_too, says_no_more_there}
use Rattle.kpn_history.proofs.OwedSets.{OwedTo, owed_stand, cycle_carried, same_capacity}
use Rattle.kpn_history.proofs.OneEnd.{WasOwed, growths_of-push, grown_with, limits_of, no_more_within}

-- ---- events of a process

-- it says one thing, or halts
own_kind : (p : ℕ) (e : Event) → is_of p e ≡ true → IsHalt e ⊎ (length (said_in p e) ≡ 1)
own_kind p (Get q c v) own = inr (ap (λ b. length (cond b (said.Got c v ∷ []) [])) own)
own_kind p (Put q c v) own = inr (ap (λ b. length (cond b (said.Put c v ∷ []) [])) own)
own_kind p (WaitEmpty q c) own = inl tt
own_kind p (WaitFull q c) own = inl tt
own_kind p (Ended q how) own = inl tt
own_kind p e own = absurd (false≢true own)

silent : (p : ℕ) (e : Event) → IsHalt e → said_in p e ≡ []
silent p (WaitEmpty q c) halts = refl
silent p (WaitFull q c) halts = refl
silent p (Ended q how) halts = refl
silent p e halts = absurd halts

halt_writes : (c : ℕ) (e : Event) → IsHalt e → written_in c e ≡ []
halt_writes c (WaitEmpty q d) halts = refl
halt_writes c (WaitFull q d) halts = refl
halt_writes c (Ended q how) halts = refl
halt_writes c e halts = absurd halts

halt_reads : (c : ℕ) (e : Event) → IsHalt e → read_in c e ≡ []
halt_reads c (WaitEmpty q d) halts = refl
halt_reads c (WaitFull q d) halts = refl
halt_reads c (Ended q how) halts = refl
halt_reads c e halts = absurd halts

pub one_process : (p q : ℕ) (e : Event) → is_of p e ≡ true → is_of q e ≡ true → p ≡ q
one_process p q (Get r c v) one other = sym (eqb-true r p one) ∙ eqb-true r q other
one_process p q (Put r c v) one other = sym (eqb-true r p one) ∙ eqb-true r q other
one_process p q (WaitEmpty r c) one other = sym (eqb-true r p one) ∙ eqb-true r q other
one_process p q (WaitFull r c) one other = sym (eqb-true r p one) ∙ eqb-true r q other
one_process p q (Ended r how) one other = sym (eqb-true r p one) ∙ eqb-true r q other
one_process p q e one other = absurd (false≢true one)

own_grows_nothing : (p c : ℕ) (e : Event) → is_of p e ≡ true → is_growth_of c e ≡ false
own_grows_nothing p c (Get r d v) own = refl
own_grows_nothing p c (Put r d v) own = refl
own_grows_nothing p c (WaitEmpty r d) own = refl
own_grows_nothing p c (WaitFull r d) own = refl
own_grows_nothing p c (Ended r how) own = refl
own_grows_nothing p c e own = absurd (false≢true own)

pub own_below : (t : Tables) (p : ℕ) (B : List Event) (e : Event) → Legal t (B ++ e ∷ []) → is_of p e ≡ true
    → p < length t.instances
own_below t p B (Get r d v) legal own =
    subst (λ x. x < length t.instances) (eqb-true r p own) (Legal-last t B (Get r d v) legal).numbers.0
own_below t p B (Put r d v) legal own =
    subst (λ x. x < length t.instances) (eqb-true r p own) (Legal-last t B (Put r d v) legal).numbers.0
own_below t p B (WaitEmpty r d) legal own =
    subst (λ x. x < length t.instances) (eqb-true r p own) (Legal-last t B (WaitEmpty r d) legal).numbers.0
own_below t p B (WaitFull r d) legal own =
    subst (λ x. x < length t.instances) (eqb-true r p own) (Legal-last t B (WaitFull r d) legal).numbers.0
own_below t p B (Ended r how) legal own =
    subst (λ x. x < length t.instances) (eqb-true r p own) (Legal-last t B (Ended r how) legal).numbers
own_below t p B e legal own = absurd (false≢true own)

-- after a wait or an end its process rests there
halt_rests : (t : Tables) (p : ℕ) (B : List Event) (e : Event) → Legal t (B ++ e ∷ []) → is_of p e ≡ true → IsHalt e
    → Rests t (B ++ e ∷ []) p e
halt_rests t p B e legal own halts = record { last = last_event-own B e p own; is = by_event e legal halts }
  where
    by_event : (f : Event) → Legal t (B ++ f ∷ []) → IsHalt f → IsRest t (B ++ f ∷ []) f
    by_event (WaitEmpty q c) legal' halts' =
        is_empty-same B (WaitEmpty q c) c refl refl ∙ (Legal-last t B (WaitEmpty q c) legal').due.1.empty
    by_event (WaitFull q c) legal' halts' =
        is_full-same t B (WaitFull q c) c refl refl refl (keeps (reader_of t c))
        ∙ (Legal-last t B (WaitFull q c) legal').due.1.full
      where
        keeps : (end : End) → takes_end c (WaitFull q c) end ≡ false
        keeps (Process r) = refl
        keeps Source = refl
        keeps Sink = refl
    by_event (Ended q how) legal' halts' = tt
    by_event f legal' halts' = absurd halts'

-- ---- a history that goes on

module _ (t : Tables) (network : IsNetwork t) where
  -- what it has made stays made
  stays_made : (B X : List Event) (f : Event) → Legal t (X ++ f ∷ []) → HasMade t B X → HasMade t B (X ++ f ∷ [])
  stays_made B X f legal h =
      record {
        said = λ p there.
            IsPrefix-trans (talk_of B p) (talk_of X p) (talk_of (X ++ f ∷ []) p) (h.said p there)
            (talk_of-grows X f p);
        halted = λ p e there last halts.
            let begins = length_of_prefix (talk_of B p) (talk_of X p) (h.said p there) in
            let grows = length_of_prefix (talk_of X p) (talk_of (X ++ f ∷ []) p) (talk_of-grows X f p) in
            elim (h.halted p e there last halts) [
              | inl longer ↦ inl (omega arith)
              | inr same ↦ elim (cases_Bool (is_of p f)) [
                | inr other ↦ inr (last_event-other X f p other ∙ same)
                | inl own ↦ elim (own_kind p f own) [
                  | inr one ↦
                      let more = ap length (talk_of-push X f p) ∙ length-append (talk_of X p) (said_in p f) in
                      inl (omega arith)
                  | inl stops ↦
                      let talk : talk_of X p ≡ talk_of (X ++ f ∷ []) p =
                      sym (talk_of-push X f p ∙ ap (λ xs. talk_of X p ++ xs) (silent p f stops)
                      ∙ append-nil (talk_of X p)) in
                      let one = same_halt t network X (X ++ f ∷ []) (Legal-before t X f legal) legal p there talk e f
                      same (last_event-own X f p own) halts stops in
                      inr (last_event-own X f p own ∙ ap Some (sym one))
                ]
              ]
            ];
        grown = λ c. let before = h.grown c in let next = growths_of-push X f c in omega arith;
      }

  pub made_onward : (B X rest : List Event) → Legal t (X ++ rest) → HasMade t B X → HasMade t B (X ++ rest)
  made_onward B X rest legal h =
      onward t (HasMade t B) (λ Y f legal' so_far. stays_made B Y f legal' so_far) rest X legal h

  module _ (given : Family) where
    shorter : (X rest : List Event) → IsRunFrom t given (X ++ rest) → IsRunFrom t given X
    shorter X [] run = subst (IsRunFrom t given) (append-nil X) run
    shorter X (e ∷ rest) run =
        run_before t network given X e
        (shorter (X ++ e ∷ []) rest (subst (IsRunFrom t given) (sym (append_assoc X (e ∷ []) rest)) run))

    -- the beginning of a run is one
    pub run_begun : (X Y : List Event) → IsPrefix X Y → IsRunFrom t given Y → IsRunFrom t given X
    run_begun X Y begins run =
        let rest = rest_of_prefix X Y begins in shorter X rest.0 (subst (IsRunFrom t given) (sym rest.1) run)

    pub made_later : (B X Y : List Event) → IsPrefix X Y → IsRunFrom t given Y → HasMade t B X → HasMade t B Y
    made_later B X Y begins run h =
        let rest = rest_of_prefix X Y begins in
        subst (HasMade t B) rest.1 (made_onward B X rest.0 (subst (Legal t) (sym rest.1) run.legal) h)

-- ---- at rest, when the outside has nothing to do

-- all processes
abbrev All : Tables → ℕ → Type 0
All t p = p < length t.instances

module _ (t : Tables) (network : IsNetwork t) (X : List Event) (legal : Legal t X) (served : IsCaughtUp t X) where
  puts_no_more : (c : ℕ) → c < length t.channels → (writer : End) → writer_of t c ≡ writer
      → PutsNoMore (All t) X c writer
  puts_no_more c there (Process q) w = (Writes-writer_of t q c w).process
  puts_no_more c there Source w = served.closed c (source-writer_of t c w)
  puts_no_more c there Sink w = absurd (writer_is_no_sink t network c there w)

  full_for_process : (c : ℕ) → is_full t X c ≡ true → (reader : End) → reader_of t c ≡ reader
      → (q : ℕ) × ((reader_of t c ≡ Process q) × All t q)
  full_for_process c full (Process q) r = (q, (r, (Reads-reader_of t q c r).process))
  full_for_process c full Source r =
      absurd (reader_is_no_source t network c (is_filled t network X legal c full).there r)
  full_for_process c full Sink r =
      let filled = is_filled t network X legal c full in
      let some = filled.some in
      let unread = filled.unread in
      let none : length (unread_on X c) ≡ 0 = eqb-true _ _ (served.taken c (sink-reader_of t c r)) in
      absurd (omega arith)

  pub stands_at_rest : (p : ℕ) → p < length t.instances → (f : Event) → Rests t X p f → StandsAmong t X (All t) p
  stands_at_rest p below f rests =
      record {
        there = below;
        event = f;
        rests = rests;
        awaits = by_event f rests.is (last_is_own t network p X legal f rests.last).owns;
      }
    where
      by_event : (e : Event) → IsRest t X e → Owns t e → AwaitsAmong t X (All t) e
      by_event (WaitEmpty q c) is owns = puts_no_more c (Reads-below t network q c owns) (writer_of t c) refl
      by_event (WaitFull q c) is owns = full_for_process c is (reader_of t c) refl
      by_event e is owns = tt

-- of what it has made there is no more
within_all : (t : Tables) → IsNetwork t → (given : Family) (B X : List Event) → IsRunFrom t given B
    → IsRunFrom t given X → HasMade t B X → AreWithin t B X (All t)
within_all t network given B X before run h =
    record {
      said = λ p there. h.said p there;
      ended = λ p there ended.
          let last = ends_last t p B before.legal ended in
          elim (h.halted p (Ended p last.0) there last.1 tt) [
            | inr same ↦ ended_if_last t p X run.legal p last.0 same
            | inl longer ↦
                let rests : Rests t B p (Ended p last.0) = record { last = last.1; is = tt } in
                let most = length_of_prefix (talk_of X p) (talk_of B p)
                (says_within t network given X B run.legal before.legal run.fed.begun before.fed.begun p there
                (Ended p last.0) rests tt) in
                absurd (omega arith)
          ];
      grown = λ p c there waits. h.grown c;
    }

pub no_more_if_made : (t : Tables) → IsNetwork t → (given : Family) (H G : List Event) → IsRunFrom t given H
    → IsRunFrom t given G → ((c : ℕ) → is_source (channel_at t c) ≡ true → is_closed G c ≡ true) → HasMade t H G
    → HasMadeNoMore t H G
no_more_if_made t network given H G run run-G closed h =
    no_more_within t network given H G run run-G closed (within_all t network given H G run run-G h) h.grown

-- ---- one more event of a process

module _ (t : Tables) (network : IsNetwork t) (given : Family) (B : List Event) (e : Event)
    (more : IsRunFrom t given (B ++ e ∷ [])) where
  before : IsRunFrom t given B
  before = run_before t network given B e more

  module _ (p : ℕ) (own : is_of p e ≡ true) where
    below : p < length t.instances
    below = own_below t p B e more.legal own

    -- the process has made the event
    record IsMadeIn (X : List Event) : Type 0 where
      said : IsPrefix (talk_of (B ++ e ∷ []) p) (talk_of X p)
      halted : IsHalt e → HasHalted (B ++ e ∷ []) X p e

    and_others : (X : List Event) → HasMade t B X → IsMadeIn X → HasMade t (B ++ e ∷ []) X
    and_others X h made =
        record {
          said = λ q there. elim (cases_Bool (is_of q e)) [
            | inl its ↦
                subst (λ r. IsPrefix (talk_of (B ++ e ∷ []) r) (talk_of X r)) (one_process p q e own its) made.said
            | inr other ↦
                subst (λ talk. IsPrefix talk (talk_of X q)) (sym (talk_of-other B e q other)) (h.said q there)
          ];
          halted = λ q f there last halts. elim (cases_Bool (is_of q e)) [
            | inl its ↦
                let same = Some-event e f (sym (last_event-own B e q its) ∙ last) in
                subst (λ g. HasHalted (B ++ e ∷ []) X q g) same
                (subst (λ r. HasHalted (B ++ e ∷ []) X r e) (one_process p q e own its)
                (made.halted (subst IsHalt (sym same) halts)))
            | inr other ↦
                let talk = ap length (talk_of-other B e q other) in
                elim (h.halted q f there (sym (last_event-other B e q other) ∙ last) halts) [
                  | inl longer ↦ inl (omega arith)
                  | inr same ↦ inr same
                ]
          ];
          grown = λ c.
              let next = growths_of-push B e c ∙ ap (λ b. growths_of B c + cond b 1 0) (own_grows_nothing p c e own) in
              let so_far = h.grown c in
              omega arith;
        }

    at_rest : (X : List Event) → IsRunFrom t given X → IsCaughtUp t X → HasMade t B X → (f : Event) → Rests t X p f
        → IsMadeIn X
    at_rest X run served h f rests =
        record {
          said = says;
          halted = λ halts. elim (cases_lt (length (talk_of (B ++ e ∷ []) p)) (length (talk_of X p))) [
            | inl longer ↦ inl longer
            | inr as_long ↦
                let same = same_from_prefix (talk_of (B ++ e ∷ []) p) (talk_of X p) says (omega arith) in
                let one = same_halt t network (B ++ e ∷ []) X more.legal run.legal p below same e f
                (last_event-own B e p own) rests.last halts (rest_halts t X f rests.is) in
                inr (rests.last ∙ ap Some (sym one))
          ];
        }
      where
        says : IsPrefix (talk_of (B ++ e ∷ []) p) (talk_of X p)
        says =
            says_no_more_there t network given X run (All t) B e more
            (within_all t network given B X before run h) p below
            (stands_at_rest t network X run.legal served p below f rests)

    -- if the process has said more
    ahead : (X : List Event) → IsRunFrom t given X → HasMade t B X → length (talk_of B p) < length (talk_of X p)
        → IsMadeIn X
    ahead X run h longer = by_kind (own_kind p e own)
      where
        next : length (talk_of (B ++ e ∷ []) p) ≡ length (talk_of B p) + length (said_in p e)
        next = ap length (talk_of-push B e p) ∙ length-append (talk_of B p) (said_in p e)

        said_so : length (said_in p e) ≤ 1 → IsPrefix (talk_of (B ++ e ∷ []) p) (talk_of X p)
        said_so few =
            elim (talks_comparable t network given (B ++ e ∷ []) X more.legal run.legal more.fed.begun run.fed.begun p
            below) [
              | inl is ↦ is
              | inr is ↦
                  IsPrefix-same _ _
                  (sym (same_from_prefix (talk_of X p) (talk_of (B ++ e ∷ []) p) is (omega (arith, longer, next, few))))
            ]

        by_kind : IsHalt e ⊎ (length (said_in p e) ≡ 1) → IsMadeIn X
        by_kind (inl halts) =
            let none = ap length (silent p e halts) in
            record { said = said_so (omega (arith, none)); halted = λ _. inl (omega (arith, longer, next, none)) }
        by_kind (inr says) =
            record {
              said = said_so (omega (arith, says));
              halted = λ halts. let none = ap length (silent p e halts) in absurd (omega (arith, says, none));
            }

    pub ahead_is_made : (X : List Event) → IsRunFrom t given X → HasMade t B X
        → length (talk_of B p) < length (talk_of X p) → HasMade t (B ++ e ∷ []) X
    ahead_is_made X run h longer = and_others X h (ahead X run h longer)

    has_gone : (C : List Event) (f : Event) → IsRunFrom t given (C ++ f ∷ []) → IsCaughtUp t C → HasMade t B C
        → is_of p f ≡ true → HasMade t (B ++ e ∷ []) (C ++ f ∷ [])
    has_gone C f run served h its =
        and_others (C ++ f ∷ []) (stays_made t network B C f run.legal h) (by_kind (own_kind p f its))
      where
        by_kind : IsHalt f ⊎ (length (said_in p f) ≡ 1) → IsMadeIn (C ++ f ∷ [])
        by_kind (inr one) =
            let begins = length_of_prefix (talk_of B p) (talk_of C p) (h.said p below) in
            let says = ap length (talk_of-push C f p) ∙ length-append (talk_of C p) (said_in p f) in
            ahead (C ++ f ∷ []) run (stays_made t network B C f run.legal h) (omega (arith, begins, says, one))
        by_kind (inl halts) =
            at_rest (C ++ f ∷ []) run
            (record {
              closed = λ c source.
                  is_closed-next C f c ∙ or_left (is_closed C c) (is_close_of c f) (served.closed c source);
              taken = λ c sink.
                  is_empty-same C f c (halt_writes c f halts) (halt_reads c f halts) ∙ served.taken c sink;
            })
            (stays_made t network B C f run.legal h) f (halt_rests t p C f run.legal its halts)

    pub next_is_made : (G now : List Event) → IsRunFrom t given now → HasMade t B G → HasHadTurn t G now p
        → HasMade t (B ++ e ∷ []) now
    next_is_made G now run h (inl gone) =
        let there = run_begun t network given (gone.before ++ gone.event ∷ []) now gone.within run in
        let earlier = run_before t network given gone.before gone.event there in
        made_later t network given (B ++ e ∷ []) (gone.before ++ gone.event ∷ []) now gone.within run
        (has_gone gone.before gone.event there gone.served
        (made_later t network given B G gone.before gone.later earlier h) gone.own)
    next_is_made G now run h (inr had) =
        let there = run_begun t network given had.then now had.within run in
        let made = made_later t network given B G had.then had.later there h in
        let rests = rests_if_stopped t had.then there.legal p had.stopped in
        made_later t network given (B ++ e ∷ []) had.then now had.within run
        (and_others had.then made (at_rest had.then there had.served made rests.0 rests.1))

-- ---- an event of no process

module _ (t : Tables) (network : IsNetwork t) (given : Family) (B G : List Event) (run-B : IsRunFrom t given B)
    (run-G : IsRunFrom t given G) (served : IsCaughtUp t G) (nothing_owed : OwesNothing t G) (h : HasMade t B G) where
  -- a process for which a growth is owed, and that has made no more, rests as it does there
  rests_alike : (Z : ℕ → Type 0) → Stand t B Z → AreWithin t G B Z → (p : ℕ) → Z p → (s : StandsAmong t B Z p)
      → Rests t G p s.event
  rests_alike Z stand back p of_p s =
      elim (h.halted p s.event s.there s.rests.last (rest_halts t B s.event s.rests.is)) [
        | inl longer ↦
            let most = length_of_prefix (talk_of G p) (talk_of B p) (back.said p of_p) in absurd (omega arith)
        | inr same ↦ record {
          last = same;
          is = by_event s.event s.rests s.awaits (last_is_own t network p B run-B.legal s.event s.rests.last);
        }
      ]
    where
      talk : length (talk_of B p) ≤ length (talk_of G p)
      talk = length_of_prefix (talk_of B p) (talk_of G p) (h.said p s.there)

      empty_too : (c q : ℕ) → reader_of t c ≡ Process p → is_empty B c ≡ true
          → IsPrefix (written_on G c) (written_on B c) → is_empty G c ≡ true
      empty_too c q reader empty writes =
          let most = length_of_prefix (written_on G c) (written_on B c) writes in
          let all = ap length (all_read t B run-B.legal c empty) in
          let reads =
          length_of_prefix (got_at (talk_of B p) c) (got_at (talk_of G p) c)
          (got_at-prefix (talk_of B p) (talk_of G p) c (h.said p s.there)) in
          let read_B = ap length (read_on-got t network c p reader B run-B.legal) in
          let read_G = ap length (read_on-got t network c p reader G run-G.legal) in
          let unread = unread_length G c in
          let none : length (unread_on G c) ≡ 0 = omega arith in
          eq-eqb (length (unread_on G c)) 0 none

      by_event : (f : Event) → Rests t B p f → AwaitsAmong t B Z f → IsOwnEvent t p f → IsRest t G f
      by_event (WaitEmpty q c) rests awaits own =
          empty_too c q (reader_of-Reads t network q c own.owns ∙ ap Process (eqb-true q p own.its)) rests.is
          (written_there t network given B run-B Z G run-G back c (writer_of t c) refl awaits)
      by_event (WaitFull q c) rests awaits own =
          let writer = writer_of-Writes t network q c own.owns ∙ ap Process (eqb-true q p own.its) in
          let as_many =
          length_of_prefix (put_at (talk_of B p) c) (put_at (talk_of G p) c)
          (put_at-prefix (talk_of B p) (talk_of G p) c (h.said p s.there)) in
          let in_B = ap length (written_on-put t network c p writer B run-B.legal) in
          let in_G = ap length (written_on-put t network c p writer G run-G.legal) in
          full_too t network given B run-B Z G run-G back p c awaits.0 of_p
          (rest_waits t B p (WaitFull q c) rests) rests.is awaits.1.0 awaits.1.1 (omega arith)
      by_event (Ended q how) rests awaits own = tt
      by_event f rests awaits own = absurd rests.is

  waits_as_there : (Z : ℕ → Type 0) → Stand t B Z → AreWithin t G B Z → (p : ℕ) → Z p → wait_of t G p ≡ wait_of t B p
  waits_as_there Z stand back p of_p =
      let s = stand p of_p in
      rest_waits t G p s.event (rests_alike Z stand back p of_p s) ∙ sym (rest_waits t B p s.event s.rests)

  settled_too : Stand t B (All t) → AreWithin t G B (All t) → IsSettled t G
  settled_too stand back =
      record {
        processes = λ p there.
            let s = stand p there in by_event p s.event (rests_alike (All t) stand back p there s);
        sources = λ c there source. served.closed c source;
        sinks = λ c there sink. inl (served.taken c sink);
      }
    where
      by_event : (p : ℕ) (f : Event) → Rests t G p f → HasStopped t G p
      by_event p (WaitEmpty q c) rests =
          inr (inl (record { channel = c; blocked = rest_waits t G p (WaitEmpty q c) rests }))
      by_event p (WaitFull q c) rests =
          inr (inr (record { channel = c; blocked = rest_waits t G p (WaitFull q c) rests }))
      by_event p (Ended q how) rests = inl (ended_if_last t p G run-G.legal q how rests.last)
      by_event p f rests = absurd rests.is

  -- a growth that was owed has come
  has_come : (c : ℕ) → WasOwed t B c → growths_of B c ≡ growths_of G c → ⊥
  has_come c was same =
      elim (limits_of t network given B G run-B run-G was.process c was.owed) [
        | inl fewer ↦ omega arith
        | inr back ↦ by_owed was.process was.owed back
      ]
    where
      by_owed : (q : ℕ) (owed : OwesGrowth t B q c) → AreWithin t G B (OwedTo t B q c owed) → ⊥
      by_owed q (inl owed) back =
          nothing_can_grow t network G run-G.legal nothing_owed
          (cycle_carried t network given G B run-G run-B q owed.others owed.cycle
          (waits_as_there (Contains (q ∷ owed.others)) (owed_stand t network B run-B.legal q c (inl owed)) back)
          c owed.smallest.among (sym same) owed.below_limit)
      by_owed q (inr owed) back =
          let stand = owed_stand t network B run-B.legal q c (inr owed) in
          let limit =
          no_wait_left t network G run-G.legal nothing_owed owed.policy (settled_too stand back) q c owed.there
          (waits_as_there (All t) stand back q owed.there ∙ owed.waits) in
          let here : capacity_or_zero t B c ≡ t.limit =
          ap (λ o. unwrap_or o 0) (same_capacity t B G c same ∙ limit) in
          let below = owed.below_limit in
          omega arith

  pub others_are_made : (e : Event) → Legal t (B ++ e ∷ []) → is_of_process e ≡ false → HasMade t (B ++ e ∷ []) G
  others_are_made e legal no_process =
      record {
        said = λ p there.
            subst (λ talk. IsPrefix talk (talk_of G p)) (sym (talk_of-other B e p (not_its p))) (h.said p there);
        halted = λ p f there last halts.
            let talk = ap length (talk_of-other B e p (not_its p)) in
            elim (h.halted p f there (sym (last_event-other B e p (not_its p)) ∙ last) halts) [
              | inl longer ↦ inl (omega arith)
              | inr same ↦ inr same
            ];
        grown = λ c. grown_with t B G e legal c (h.grown c) (λ was is same. has_come c was same);
      }
    where
      not_its : (p : ℕ) → is_of p e ≡ false
      not_its p =
          false_from_ne_true (is_of p e) (λ its. both_ways (is_of_process e) no_process ((of_process e).1 (p, its)))
