-- A ring is final. No member has an event, since it is blocked. No event of another puts an item on the channel that a
-- member waits on, since the next member writes it.
use Rattle.kpn_deadlock.proofs.Common.{Contains, ◌≡◌, ◌⊎◌, ℕ, false, cond, List, [], ◌∷◌, ◌++◌, Some, refl, sym, ap, ◌∙◌, subst, inl, inr, append_assoc, false_from_ne_true, Wait, Nobody, Empty, Tables, writer_of, IsNetwork, wait_at, process_at, awaited, WaitsFor, WaitInTurn, Contains-first, Contains-later, Contains-cases, Contains-none, cycle_below, Event, wait_of, waits_of, Legal, IsRing}
use Rattle.kpn_lang.proofs.Prefixes.{IsPrefix-append}
use Rattle.kpn_net.specs.declared.tables.End.TheVariants.{Process, Source}
use Rattle.kpn_history.specs.Talks.{is_of}
use Rattle.kpn_history.specs.WaitsAfter.{wait_made}
use Rattle.kpn_history.specs.Waking.{wakes_reader, wait_then}
use Rattle.kpn_history.specs.Complete.{PutsNoMore, IsFinished}
use Rattle.kpn_history.proofs.Legality.{can_go, Legal-prefix, onward}
use Rattle.kpn_history.proofs.CompleteStays.{no_item_comes}
use Rattle.kpn_history.proofs.OwedSets.{process_of_end}
use Rattle.kpn_history.proofs.EarlierWaits.{wait_at-waits_of}
use Rattle.kpn_history.proofs.Waking.{wait_of-then}

-- ---- the next member

-- of processes that wait in turn, each waits for one of them, or for the one that the last waits for
record HasNext (t : Tables) (waits : List Wait) (members : List ℕ) (z q : ℕ) : Type 0 where
  pub next : ℕ
  pub waits_for : WaitsFor t waits q next
  pub among : Contains members next ⊎ (z ≡ next)

module _ (t : Tables) (waits : List Wait) where
  has_next : (p : ℕ) (others : List ℕ) (z : ℕ) → WaitInTurn t waits p others z → (q : ℕ) → Contains (p ∷ others) q
      → HasNext t waits others z q
  has_next p [] z turn q h =
      elim (Contains-cases p [] q h) [
        | inl same ↦ record { next = z; waits_for = subst (λ x. WaitsFor t waits x z) same turn; among = inr refl }
        | inr none ↦ absurd (Contains-none q none)
      ]
  has_next p (r ∷ others) z turn q h =
      elim (Contains-cases p (r ∷ others) q h) [
        | inl same ↦ record {
          next = r;
          waits_for = subst (λ x. WaitsFor t waits x r) same turn.0;
          among = inl (Contains-first r others);
        }
        | inr later ↦
            let n = has_next r others z turn.1 q later in
            record {
              next = n.next;
              waits_for = n.waits_for;
              among = elim n.among [
                | inl there ↦ inl (Contains-later r others n.next there)
                | inr last ↦ inr last
              ];
            }
      ]

-- the same waits of these processes
turn_same : (t : Tables) (before after : List Wait) (p : ℕ) (others : List ℕ) (z : ℕ)
    → ((q : ℕ) → Contains (p ∷ others) q → wait_at after q ≡ wait_at before q) → WaitInTurn t before p others z
    → WaitInTurn t after p others z
turn_same t before after p [] z same turn =
    record { awaited = ap (awaited t) (same p (Contains-first p [])) ∙ turn.awaited }
turn_same t before after p (r ∷ others) z same turn = (
  record { awaited = ap (awaited t) (same p (Contains-first p (r ∷ others))) ∙ turn.0.awaited },
  turn_same t before after r others z (λ q h. same q (Contains-later p (r ∷ others) q h)) turn.1,
)

-- a member of a ring waits on an empty channel, which another member writes
record HasWriter (t : Tables) (H : List Event) (members : List ℕ) (q : ℕ) : Type 0 where
  pub channel : ℕ
  pub waits : wait_of t H q ≡ Empty channel
  pub writer : ℕ
  pub writes : writer_of t channel ≡ Process writer
  pub among : Contains members writer

has_writer : (t : Tables) (H : List Event) (p : ℕ) (others : List ℕ) → IsRing t (waits_of t H) p others → (q : ℕ)
    → Contains (p ∷ others) q → HasWriter t H (p ∷ others) q
has_writer t H p others ring q h =
    let n = has_next t (waits_of t H) p others p ring.cycle.in_turn q h in
    let e = ring.empty q h in
    let below = cycle_below t (waits_of t H) p others ring.cycle q h in
    let awaited_there : process_at (writer_of t e.channel) ≡ Some n.next =
    sym (ap (awaited t) e.is) ∙ n.waits_for.awaited in
    record {
      channel = e.channel;
      waits = sym (wait_at-waits_of t H q below) ∙ e.is;
      writer = n.next;
      writes = process_of_end (writer_of t e.channel) n.next awaited_there;
      among = elim n.among [
        | inl there ↦ Contains-later p others n.next there
        | inr last ↦ subst (Contains (p ∷ others)) last (Contains-first p others)
      ];
    }

-- ---- one event

module _ (t : Tables) (network : IsNetwork t) (p : ℕ) (others : List ℕ) where
  module _ (B : List Event) (e : Event) (legal : Legal t (B ++ e ∷ [])) (ring : IsRing t (waits_of t B) p others) where
    -- no member has an event
    still : (q : ℕ) → Contains (p ∷ others) q → is_of q e ≡ false
    still q h =
        false_from_ne_true (is_of q e)
        (λ own.
        let w = has_writer t B p others ring q h in
        let go = can_go t B e legal q own in
        let clash : Nobody ≡ Empty w.channel = sym go.free ∙ w.waits in
        absurd cc)

    -- no item comes to a channel that a member writes
    no_item : (c r : ℕ) → writer_of t c ≡ Process r → Contains (p ∷ others) r → wakes_reader c e ≡ false
    no_item c r writes among =
        no_item_comes t network B e legal c
        (λ q writer.
        let both : Process r ≡ Process q = sym writes ∙ writer in
        let same : r ≡ q = cc in
        subst (λ x. is_of x e ≡ false) same (still r among))
        (λ source. let clash : Process r ≡ Source = sym writes ∙ source in absurd cc)

    waits_on : (q : ℕ) → Contains (p ∷ others) q → wait_of t (B ++ e ∷ []) q ≡ wait_of t B q
    waits_on q h =
        let w = has_writer t B p others ring q h in
        wait_of-then t network B e legal q
        ∙ ap (λ x. wait_then t e q x) w.waits
        ∙ ap (λ b. cond b (wait_made e) (cond (wakes_reader w.channel e) Nobody (Empty w.channel))) (still q h)
        ∙ ap (λ b. cond b Nobody (Empty w.channel)) (no_item w.channel w.writer w.writes w.among)
        ∙ sym w.waits

    same_wait : (q : ℕ) → Contains (p ∷ others) q
        → wait_at (waits_of t (B ++ e ∷ [])) q ≡ wait_at (waits_of t B) q
    same_wait q h =
        let below = cycle_below t (waits_of t B) p others ring.cycle q h in
        wait_at-waits_of t (B ++ e ∷ []) q below ∙ waits_on q h ∙ sym (wait_at-waits_of t B q below)

    ring_stays : IsRing t (waits_of t (B ++ e ∷ [])) p others
    ring_stays =
        record {
          cycle = record {
            distinct = ring.cycle.distinct;
            in_turn =
                turn_same t (waits_of t B) (waits_of t (B ++ e ∷ [])) p others p same_wait ring.cycle.in_turn;
          };
          empty = λ q h. let w = ring.empty q h in record { channel = w.channel; is = same_wait q h ∙ w.is };
        }

  -- ---- all events

  pub stays : (H more : List Event) → Legal t (H ++ more) → IsRing t (waits_of t H) p others
      → IsRing t (waits_of t (H ++ more)) p others
  stays H more legal ring = onward t (λ B. IsRing t (waits_of t B) p others) ring_stays more H legal ring

  pub silent : (more H : List Event) → Legal t (H ++ more) → IsRing t (waits_of t H) p others → (q : ℕ)
      → Contains (p ∷ others) q → (event : Event) → Contains more event → is_of q event ≡ false
  silent [] H legal ring q h event there = absurd (Contains-none event there)
  silent (e ∷ rest) H legal ring q h event there =
      let legal' : Legal t ((H ++ e ∷ []) ++ rest) = subst (Legal t) (sym (append_assoc H (e ∷ []) rest)) legal in
      let first = Legal-prefix t (H ++ e ∷ []) ((H ++ e ∷ []) ++ rest) (IsPrefix-append (H ++ e ∷ []) rest) legal' in
      elim (Contains-cases e rest event there) [
        | inl same ↦ subst (λ x. is_of q x ≡ false) same (still H e first ring q h)
        | inr later ↦ silent rest (H ++ e ∷ []) legal' (ring_stays H e first ring) q h event later
      ]

  pub finished : (H : List Event) → IsRing t (waits_of t H) p others → (q : ℕ) → Contains (p ∷ others) q
      → IsFinished t H q
  finished H ring q h =
      record {
        among = p ∷ others;
        member = h;
        all = record {
          each = λ r there.
              let w = has_writer t H p others ring r there in
              inr (record {
                channel = w.channel;
                waits = w.waits;
                no_more = subst (PutsNoMore (Contains (p ∷ others)) H w.channel) (sym w.writes) w.among;
              });
        };
      }
