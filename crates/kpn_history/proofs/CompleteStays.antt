-- No legal longer history puts anything more on a complete channel, and the channel stays complete: its writer has ended
-- or waits, and what it waits for does not come.
use Rattle.std.proofs.Common.{◌≡◌, ℕ, true, false, cond, eqb, eq-eqb, List, [], ◌∷◌, ◌++◌, ℤ, refl, sym, ap, ◌∙◌, subst, inl, inr}
use Rattle.kpn_history.proofs.Common.{Contains, both_ways, false_from_ne_true, eqb-true, or_left, Nobody, Empty, End, Process, Source, Sink, Tables, writer_of, IsNetwork, Event, Put, Feed, is_of, is_end_of, has_ended, written_in, written_on, is_close_of, is_closed, wait_of, wait_made, wakes_reader, wait_then, Legal, PutsNoMore, AreFinished, IsFinished, IsComplete, writer_of-source, writer_of-Writes}
use Rattle.kpn_history.proofs.Events.{written_on-same}
use Rattle.kpn_history.proofs.Legality.{can_go, Legal-last, onward}
use Rattle.kpn_history.proofs.Ownership.{Owns-last}
use Rattle.kpn_history.proofs.AfterEvent.{has_ended-next, is_closed-next}
use Rattle.kpn_history.proofs.Waking.{wait_of-then}
use Rattle.kpn_history.proofs.Finished.{PutsNoMore-if, complete_among, finished_cases, complete-process}

-- an event that wakes no reader of a channel writes nothing there
unwritten : (c : ℕ) (e : Event) → wakes_reader c e ≡ false → written_in c e ≡ []
unwritten c (Put q d v) none = ap (λ b. cond b (v ∷ []) []) none
unwritten c (Feed d v) none = ap (λ b. cond b (v ∷ []) []) none
unwritten c event none = refl

module _ (t : Tables) (network : IsNetwork t) (B : List Event) (e : Event) (legal : Legal t (B ++ e ∷ [])) where
  -- a finished process makes no event
  finished_is_still : (p : ℕ) → IsFinished t B p → is_of p e ≡ false
  finished_is_still p finished =
      false_from_ne_true (is_of p e)
      (λ own.
      let go = can_go t B e legal p own in
      elim (finished_cases t B p finished) [
        | inl ended ↦ both_ways (has_ended B p) go.lives ended
        | inr w ↦ let clash : Nobody ≡ Empty w.channel = sym go.free ∙ w.waits in absurd cc
      ])

  -- no item comes to a channel whose writer rests, or whose source is closed
  pub no_item_comes : (c : ℕ) → ((q : ℕ) → writer_of t c ≡ Process q → is_of q e ≡ false)
      → (writer_of t c ≡ Source → is_closed B c ≡ true) → wakes_reader c e ≡ false
  no_item_comes c rests shut = by_event e refl
    where
      by_event : (f : Event) → e ≡ f → wakes_reader c f ≡ false
      by_event (Put q d v) is =
          false_from_ne_true (eqb d c)
          (λ here.
          let legal' : Legal t (B ++ Put q d v ∷ []) = subst (λ x. Legal t (B ++ x ∷ [])) is legal in
          let writer : writer_of t c ≡ Process q =
          subst (λ x. writer_of t x ≡ Process q) (eqb-true d c here)
          (writer_of-Writes t network q d (Owns-last t network B (Put q d v) legal')) in
          both_ways (is_of q e) (rests q writer) (ap (is_of q) is ∙ eq-eqb q q refl))
      by_event (Feed d v) is =
          false_from_ne_true (eqb d c)
          (λ here.
          let may = (Legal-last t B (Feed d v) (subst (λ x. Legal t (B ++ x ∷ [])) is legal)).due in
          let source : writer_of t c ≡ Source =
          subst (λ x. writer_of t x ≡ Source) (eqb-true d c here) (writer_of-source t d may.source) in
          both_ways (is_closed B d) may.not_closed
          (subst (λ x. is_closed B x ≡ true) (sym (eqb-true d c here)) (shut source)))
      by_event event is = refl

  -- nothing is put on a complete channel
  wakes_no_reader : (c : ℕ) → IsComplete t B c → wakes_reader c e ≡ false
  wakes_no_reader c complete =
      no_item_comes c (λ q writes. finished_is_still q (complete-process t B c q writes complete))
      (λ source. subst (PutsNoMore (IsFinished t B) B c) source complete)

  written_no_more : (c : ℕ) → IsComplete t B c → written_on (B ++ e ∷ []) c ≡ written_on B c
  written_no_more c complete = written_on-same B e c (unwritten c e (wakes_no_reader c complete))

  closed_stays : (c : ℕ) → is_closed B c ≡ true → is_closed (B ++ e ∷ []) c ≡ true
  closed_stays c closed = is_closed-next B e c ∙ or_left (is_closed B c) (is_close_of c e) closed

  no_more_stays : (P : ℕ → Type 0) (c : ℕ) (writer : End) → PutsNoMore P B c writer
      → PutsNoMore P (B ++ e ∷ []) c writer
  no_more_stays P c (Process p) h = h
  no_more_stays P c Source h = closed_stays c h
  no_more_stays P c Sink h = h

  -- a finished process waits as before
  waits_on : (p : ℕ) → IsFinished t B p → (c : ℕ) → wait_of t B p ≡ Empty c → IsComplete t B c
      → wait_of t (B ++ e ∷ []) p ≡ Empty c
  waits_on p finished c waits complete =
      wait_of-then t network B e legal p
      ∙ ap (λ w. wait_then t e p w) waits
      ∙ ap (λ b. cond b (wait_made e) (cond (wakes_reader c e) Nobody (Empty c))) (finished_is_still p finished)
      ∙ ap (λ b. cond b Nobody (Empty c)) (wakes_no_reader c complete)

  all_stay : (among : List ℕ) → AreFinished t B among → AreFinished t (B ++ e ∷ []) among
  all_stay among all =
      record {
        each = λ p member. elim (all.each p member) [
          | inl ended ↦ inl (has_ended-next B e p ∙ or_left (has_ended B p) (is_end_of p e) ended)
          | inr s ↦ inr (record {
            channel = s.channel;
            waits =
                waits_on p (record { among = among; member = member; all = all }) s.channel s.waits
                (complete_among t B among all s.channel s.no_more);
            no_more = no_more_stays (Contains among) s.channel (writer_of t s.channel) s.no_more;
          })
        ];
      }

  finished_stays : (p : ℕ) → IsFinished t B p → IsFinished t (B ++ e ∷ []) p
  finished_stays p h = record { among = h.among; member = h.member; all = all_stay h.among h.all }

  one_event : (c : ℕ) → IsComplete t B c → IsComplete t (B ++ e ∷ []) c
  one_event c complete =
      PutsNoMore-if (IsFinished t B) (IsFinished t (B ++ e ∷ [])) (B ++ e ∷ []) c finished_stays (writer_of t c)
      (no_more_stays (IsFinished t B) c (writer_of t c) complete)

-- ---- all events

-- a channel is complete with this journal
pub record IsCompleteWith (t : Tables) (c : ℕ) (journal : List ℤ) (H : List Event) : Type 0 where
  pub complete : IsComplete t H c
  pub written : written_on H c ≡ journal

pub complete_stays : (t : Tables) → IsNetwork t → (H more : List Event) → Legal t (H ++ more) → (c : ℕ)
    → IsComplete t H c → IsCompleteWith t c (written_on H c) (H ++ more)
complete_stays t network H more legal c complete =
    onward t (IsCompleteWith t c (written_on H c))
    (λ B e legal' h. record {
      complete = one_event t network B e legal' c h.complete;
      written = written_no_more t network B e legal' c h.complete ∙ h.written;
    })
    more H legal (record { complete = complete; written = refl })
