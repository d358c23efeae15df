-- What two runs that end alike have in common: their verdict and their complete channels.
use Rattle.kpn_history.proofs.Common.{Contains, ◌≡◌, ℕ, ◌<◌, true, List, ◌∷◌, length, Some, refl, sym, ap, ◌∙◌, subst, inl, inr, End, Process, Source, Sink, Tables, writer_of, IsNetwork, Family, wait_at, IsCycle, full_channels, Event, Verdict, has_ended, wait_of, HasFullCycle, IsSettled, HasFullWait, IsVerdict, PutsNoMore, IsFinished, IsComplete, IsFinalRun, EndAlike, Reads-reader_of, source-writer_of, source_there}
use Rattle.kpn_history.specs.declared.state.Verdict.TheVariants as verdict
use Rattle.kpn_history.proofs.EarlierWaits.{wait_at-waits_of}
use Rattle.kpn_history.proofs.OwnWaits.{wait_on_empty}
use Rattle.kpn_history.proofs.EndsOnce.{ended_by, end_among}

pub EndAlike-sym : (t : Tables) (H G : List Event) → EndAlike t H G → EndAlike t G H
EndAlike-sym t H G alike =
    record {
      said = λ p there. sym (alike.said p there);
      ended = λ p how. ((alike.ended p how).1, (alike.ended p how).0);
      waits = sym alike.waits;
      written = λ c. sym (alike.written c);
      read = λ c stays remains. sym (alike.read c remains stays);
      grown = λ c. sym (alike.grown c);
    }

module _ (t : Tables) (H G : List Event) (alike : EndAlike t H G) where
  pub same_waits : (p : ℕ) → p < length t.instances → wait_of t H p ≡ wait_of t G p
  same_waits p there =
      sym (wait_at-waits_of t H p there) ∙ ap (λ waits. wait_at waits p) alike.waits ∙ wait_at-waits_of t G p there

  pub same_ended : (p : ℕ) → has_ended H p ≡ true → has_ended G p ≡ true
  same_ended p ended = let end = end_among H p ended in ended_by G p end.0 ((alike.ended p end.0).0 end.1)

  -- ---- the verdict

  full_cycle : HasFullCycle t H → HasFullCycle t G
  full_cycle h =
      record {
        process = h.process;
        others = h.others;
        cycle = subst (λ waits. IsCycle t waits h.process h.others) alike.waits h.cycle;
        channel = h.channel;
        full = subst (λ waits. Contains (full_channels waits (h.process ∷ h.others)) h.channel) alike.waits h.full;
      }

  full_wait : HasFullWait t H → HasFullWait t G
  full_wait h =
      record {
        process = h.process;
        there = h.there;
        waits = record {
          channel = h.waits.channel;
          blocked = sym (same_waits h.process h.there) ∙ h.waits.blocked;
        };
      }

pub same_verdict : (t : Tables) (H G : List Event) → EndAlike t H G → IsSettled t G → (v : Verdict)
    → IsVerdict t H (Some v) → IsVerdict t G (Some v)
same_verdict t H G alike settled verdict.Jammed v = (settled, full_cycle t H G alike v.1)
same_verdict t H G alike settled verdict.Clogged v =
    let back = EndAlike-sym t H G alike in
    (settled, λ cycle. v.1 (full_cycle t G H back cycle), full_wait t H G alike v.2)
same_verdict t H G alike settled verdict.Ended v =
    let back = EndAlike-sym t H G alike in
    (settled, λ cycle. v.1 (full_cycle t G H back cycle), λ waits. v.2 (full_wait t G H back waits))

-- ---- complete channels

module _ (t : Tables) (network : IsNetwork t) (given : Family) (H G : List Event) (over-H : IsFinalRun t given H)
    (over-G : IsFinalRun t given G) (alike : EndAlike t H G) where
  puts_no_more : (P Q : ℕ → Type 0) → ((p : ℕ) → P p → Q p) → (c : ℕ) (writer : End) → writer_of t c ≡ writer
      → PutsNoMore P H c writer → PutsNoMore Q G c writer
  puts_no_more P Q to c (Process p) w h = to p h
  puts_no_more P Q to c Source w h =
      let source = source-writer_of t c w in over-G.settled.sources c (source_there t c source) source
  puts_no_more P Q to c Sink w h = h

  same_finished : (p : ℕ) → IsFinished t H p → IsFinished t G p
  same_finished p f =
      record {
        among = f.among;
        member = f.member;
        all = record {
          each = λ q member. elim (f.all.each q member) [
            | inl ended ↦ inl (same_ended t H G alike q ended)
            | inr s ↦
                let own = wait_on_empty t network H over-H.run.legal q s.channel s.waits in
                let there : q < length t.instances = (Reads-reader_of t q s.channel own.reads).process in
                inr (record {
                  channel = s.channel;
                  waits = sym (same_waits t H G alike q there) ∙ s.waits;
                  no_more =
                      puts_no_more (Contains f.among) (Contains f.among) (λ x h. h) s.channel
                      (writer_of t s.channel) refl s.no_more;
                })
          ];
        };
      }

  pub same_complete : (c : ℕ) → IsComplete t H c → IsComplete t G c
  same_complete c complete =
      puts_no_more (IsFinished t H) (IsFinished t G) same_finished c (writer_of t c) refl complete
