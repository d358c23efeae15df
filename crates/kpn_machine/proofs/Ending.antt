-- The end of a process: it retires each channel that the process reads, in order of port, and wakes the writer of each.
use Rattle.std.proofs.Common.{◌≡◌, ◌≢◌, ℕ, ◌<◌, Bool, true, false, ◌||◌, cond, eqb, eq-eqb, IsTrue, List, [], ◌∷◌, ◌++◌, length, get_or, take, length-take, Option, Some, None, refl, sym, ap, ◌∙◌, subst, inl, inr, arith, append-nil, add-zero, length-set, slice_set}
use Rattle.std.specs.List.{Contains, list_any, filter_map, cons_option}
use Rattle.kpn_machine.proofs.Common.{option_to_list, get_or-set_same, get_or-set_other, get_or_default, get_or-take, Contains-append_left, Contains-push, Contains-push_cases, filter_map-append, Wait, End, Process, Source, Sink, Tables, reader_of, writer_of, instance_at, IsNetwork, wait_at, AreWaits, AreDistinct, reads_its_ins, one_port, ChannelState, opened, retired, How, takes_end, takes_reader, is_process, wakes, Machine, channel_in, closed_in, end_in, frame_in, IsMachine, IsFree, with_end, IsChannelAfter, Changes, is_wait, is_wait_on_full, waiting_at, waiting_writer, woken_at, AreWoken, is_wait_on_full_among, IsRetiredAs, EndSoFar, Contains-none}
use Rattle.std.proofs.lemmas.Bool.{cases_Bool, cases_eq, ne_eqb, eqb-true, both_ways, false≢true}
use Rattle.std.proofs.lemmas.List.Folds.{list_any-append}
use Rattle.std.proofs.lemmas.Map.Views.{Contains-from_any, list_any-from_Contains}
use Rattle.std.specs.Cmp.{nat_eq_equiv}
use Rattle.kpn_net.specs.declared.wait.Wait.TheVariants.{Nobody, Empty, Full}
use Rattle.kpn_history.specs.declared.event.Event.TheVariants.{Ended}
use Rattle.kpn_machine.proofs.Parts.{or-false, untouched, waits_of_kind}
use Rattle.kpn_machine.proofs.Calls.{Made, Made-from}
use Rattle.kpn_machine.proofs.Woken.{stay, process_woken}

-- ---- one port more

among : (d : ℕ) (ports : List ℕ) → list_any (eqb d) ports ≡ true → Contains ports d
among d ports is = Contains-from_any {eq = eqb} eqb-true d ports is

not_among : (d : ℕ) (ports : List ℕ) → (Contains ports d → ⊥) → list_any (eqb d) ports ≡ false
not_among d ports none =
    elim (cases_Bool (list_any (eqb d) ports)) [ inl is ↦ absurd (none (among d ports is)) | inr is ↦ is ]

among_more : (d c : ℕ) (ports : List ℕ) → list_any (eqb d) (ports ++ c ∷ []) ≡ (list_any (eqb d) ports || eqb d c)
among_more d c ports =
    list_any-append (eqb d) ports (c ∷ []) ∙ ap (λ b. list_any (eqb d) ports || b) (or-false (eqb d c))

-- a wait for room on one channel is no wait on others
still_for_room : (c : ℕ) (ports : List ℕ) (w : Wait) → (Contains ports c → ⊥)
    → is_wait_on_full c (cond (is_wait_on_full_among ports w) Nobody w) ≡ is_wait_on_full c w
still_for_room c ports Nobody none = refl
still_for_room c ports (Empty d) none = refl
still_for_room c ports (Full d) none =
    elim (cases_eq c d) [
      | inl same ↦ ap (λ b. is_wait_on_full c (cond b Nobody (Full d)))
          (not_among d ports (λ h. none (subst (λ x. Contains ports x) (sym same) h)))
      | inr differ ↦ by_test (list_any (eqb d) ports) differ
    ]
  where
    by_test : (b : Bool) → (c ≡ d → ⊥) → is_wait_on_full c (cond b Nobody (Full d)) ≡ eqb c d
    by_test true differ = sym (ne_eqb c d differ)
    by_test false differ = refl

woken_more : (c : ℕ) (ports : List ℕ) (w : Wait)
    → cond (is_wait_on_full c (cond (is_wait_on_full_among ports w) Nobody w)) Nobody
    (cond (is_wait_on_full_among ports w) Nobody w) ≡ cond (is_wait_on_full_among (ports ++ c ∷ []) w) Nobody w
woken_more c ports Nobody = refl
woken_more c ports (Empty d) = refl
woken_more c ports (Full d) =
    by_test (list_any (eqb d) ports) ∙ ap (λ b. cond b Nobody (Full d)) (sym (among_more d c ports))
  where
    same_test : (c d : ℕ) → eqb c d ≡ eqb d c
    same_test c d =
        elim (cases_eq c d) [
          | inl same ↦ eq-eqb c d same ∙ sym (eq-eqb d c (sym same))
          | inr differ ↦ ne_eqb c d differ ∙ sym (ne_eqb d c (λ e. differ (sym e)))
        ]

    by_test : (a : Bool)
        → cond (is_wait_on_full c (cond a Nobody (Full d))) Nobody (cond a Nobody (Full d))
        ≡ cond (a || eqb d c) Nobody (Full d)
    by_test true = refl
    by_test false = ap (λ b. cond b Nobody (Full d)) (same_test c d)

pub writer_still_waits : (t : Tables) (before now : List Wait) (c : ℕ) (ports : List ℕ)
    → AreWoken (is_wait_on_full_among ports) before now → (Contains ports c → ⊥)
    → waiting_writer t now c ≡ waiting_writer t before c
writer_still_waits t before now c ports woken none = by_end (writer_of t c)
  where
    by_end : (end : End) → waiting_at (is_wait_on_full c) now end ≡ waiting_at (is_wait_on_full c) before end
    by_end (Process q) =
        ap (λ b. cond b (Some q) None)
        (ap (is_wait_on_full c) (woken.each q) ∙ still_for_room c ports (wait_at before q) none)
    by_end Source = refl
    by_end Sink = refl

-- at no ports nothing was done
pub EndSoFar-none : (t : Tables) (s now : Machine) → now ≡ s → AreWaits t s.waits → (woken : List ℕ) → woken ≡ []
    → EndSoFar t s now [] woken
EndSoFar-none t s now is own woken none =
    record {
      channels = ap (λ x. length x.channels) is;
      closed = ap (λ x. x.closed) is;
      ends = ap (λ x. x.ends) is;
      frames = ap (λ x. x.frames) is;
      own = subst (λ x. AreWaits t x.waits) (sym is) own;
      retires = λ d among. absurd (Contains-none d among);
      keeps = λ d among. ap (λ x. channel_in x d) is;
      waits = record { each = λ q. ap (λ x. wait_at x.waits q) is ∙ not_woken (wait_at s.waits q) };
      woken = none;
    }
  where
    not_woken : (w : Wait) → w ≡ cond (is_wait_on_full_among [] w) Nobody w
    not_woken Nobody = refl
    not_woken (Empty d) = refl
    not_woken (Full d) = refl

module _ (t : Tables) (before now s2 : Machine) (ports woken : List ℕ) (h : EndSoFar t before now ports woken)
    (c : ℕ) (fresh : Contains ports c → ⊥) (there : c < length now.channels) (ch : ChannelState)
    (left : ch ≡ retired ch.is_reserved (channel_in now c))
    (keep : IsTrue (channel_in now c).is_reserved → IsTrue ch.is_reserved) (waits : List Wait)
    (woke : waits ≡ woken_at (is_wait (Full c)) now.waits (writer_of t c))
    (whole : s2 ≡ record now { channels = slice_set now.channels c ch; waits = waits }) where
  here : channel_in s2 c ≡ ch
  here = ap (λ x. channel_in x c) whole ∙ get_or-set_same now.channels c ch (opened None false) there

  other : (d : ℕ) → d ≢ c → channel_in s2 d ≡ channel_in now d
  other d differ = ap (λ x. channel_in x d) whole ∙ get_or-set_other now.channels c d ch (opened None false) differ

  waits_now : s2.waits ≡ woken_at (is_wait (Full c)) now.waits (writer_of t c)
  waits_now = ap (λ x. x.waits) whole ∙ woke

  retires_more : (d : ℕ) → Contains (ports ++ c ∷ []) d → IsRetiredAs (channel_in before d) (channel_in s2 d)
  retires_more d among =
      elim (cases_eq d c) [
        | inl same ↦
            subst (λ x. IsRetiredAs (channel_in before x) (channel_in s2 x)) (sym same)
            (record {
              is =
                  here ∙ left ∙ ap (λ x. retired ch.is_reserved x) (h.keeps c fresh)
                  ∙ ap (λ b. retired b (channel_in before c)) (sym (ap (λ x. x.is_reserved) here));
              keeps =
                  λ r.
                  subst (λ x. IsTrue x.is_reserved) (sym here)
                  (keep (subst (λ x. IsTrue x.is_reserved) (sym (h.keeps c fresh)) r));
            })
        | inr differ ↦
            subst (λ x. IsRetiredAs (channel_in before d) x) (sym (other d differ))
            (h.retires d
            (elim (Contains-push_cases ports c d among)
            [ inl was ↦ was | inr last ↦ absurd (differ (sym last)) ]))
      ]

  pub EndSoFar-more : (more : List ℕ) → more ≡ woken ++ filter_map (waiting_writer t before.waits) (c ∷ [])
      → EndSoFar t before s2 (ports ++ c ∷ []) more
  EndSoFar-more more is =
      record {
        channels = ap (λ x. length x.channels) whole ∙ length-set now.channels c _ ∙ h.channels;
        closed = ap (λ x. x.closed) whole ∙ h.closed;
        ends = ap (λ x. x.ends) whole ∙ h.ends;
        frames = ap (λ x. x.frames) whole ∙ h.frames;
        own = subst (λ ws. AreWaits t ws) (sym waits_now) (stay t now.waits h.own (Full c) (writer_of t c));
        retires = retires_more;
        keeps =
            λ d none.
            other d (λ same. none (subst (λ x. Contains (ports ++ c ∷ []) x) (sym same) (Contains-push ports c)))
            ∙ h.keeps d (λ among. none (Contains-append_left ports (c ∷ []) d among));
        waits = record {
          each = λ q. ap (λ ws. wait_at ws q) waits_now
              ∙ (process_woken t now.waits h.own (Full c) (λ e. absurd cc)).each q
              ∙ ap (λ w. cond (is_wait_on_full c w) Nobody w) (h.waits.each q)
              ∙ woken_more c ports (wait_at before.waits q);
        };
        woken =
            is ∙ ap (λ xs. xs ++ filter_map (waiting_writer t before.waits) (c ∷ [])) h.woken
            ∙ sym (filter_map-append (waiting_writer t before.waits) ports (c ∷ []));
      }

-- ---- after all ports

module _ (t : Tables) (network : IsNetwork t) (p : ℕ) (how : How) where
  reader_is : (end : End) → takes_end 0 (Ended p how) end ≡ true → end ≡ Process p
  reader_is (Process r) is = ap Process (sym (eqb-true p r is))
  reader_is Source is = absurd (false≢true is)
  reader_is Sink is = absurd (false≢true is)

  -- the event takes the reader of the channels at the process's in ports, and of no others
  reader_at : (d : ℕ) → Contains (instance_at t p).ins d → takes_reader t d (Ended p how) ≡ true
  reader_at d at = ap (takes_end d (Ended p how)) ((reads_its_ins t network p d).1 at) ∙ eq-eqb p p refl

  reader_elsewhere : (d : ℕ) → (Contains (instance_at t p).ins d → ⊥) → takes_reader t d (Ended p how) ≡ false
  reader_elsewhere d none =
      elim (cases_Bool (takes_reader t d (Ended p how))) [
        | inl is ↦ absurd
            (none ((reads_its_ins t network p d).0 (reader_is (reader_of t d) (same_end (reader_of t d) is))))
        | inr is ↦ is
      ]
    where
      same_end : (end : End) → takes_end d (Ended p how) end ≡ true → takes_end 0 (Ended p how) end ≡ true
      same_end (Process r) is = is
      same_end Source is = is
      same_end Sink is = is

  wakes_at : (w : Wait) → wakes t (Ended p how) w ≡ is_wait_on_full_among (instance_at t p).ins w
  wakes_at Nobody = refl
  wakes_at (Empty d) = refl
  wakes_at (Full d) = by_reader (list_any (eqb d) (instance_at t p).ins) refl
    where
      by_end : (end : End) → is_process p end ≡ takes_end d (Ended p how) end
      by_end (Process r) = refl
      by_end Source = refl
      by_end Sink = refl

      by_reader : (b : Bool) → list_any (eqb d) (instance_at t p).ins ≡ b
          → is_process p (reader_of t d) ≡ list_any (eqb d) (instance_at t p).ins
      by_reader true is = by_end (reader_of t d) ∙ reader_at d (among d (instance_at t p).ins is) ∙ sym is
      by_reader false is =
          by_end (reader_of t d)
          ∙ reader_elsewhere d
          (λ at. both_ways _ is (list_any-from_Contains nat_eq_equiv d (instance_at t p).ins at)) ∙ sym is

  module _ (s s1 s2 : Machine) (woken : List ℕ) (shape : IsMachine t s) (there : p < length t.instances)
      (free : IsFree s p) (ended : s1 ≡ with_end p how s) (h : EndSoFar t s1 s2 (instance_at t p).ins woken) where
    channel_then : (d : ℕ) → IsChannelAfter t (Ended p how) d (channel_in s1 d) (channel_in s2 d)
    channel_then d = by_test (list_any (eqb d) (instance_at t p).ins) refl
      where
        or-true : (b : Bool) → (b || true) ≡ true
        or-true true = refl
        or-true false = refl

        by_test : (b : Bool) → list_any (eqb d) (instance_at t p).ins ≡ b
            → IsChannelAfter t (Ended p how) d (channel_in s1 d) (channel_in s2 d)
        by_test true is =
            let at = among d (instance_at t p).ins is in
            let r = h.retires d at in
            record {
              journal = ap (λ x. x.journal) r.is ∙ sym (append-nil (channel_in s1 d).journal);
              read = ap (λ x. x.read) r.is ∙ sym (add-zero (channel_in s1 d).read);
              capacity = ap (λ x. x.capacity) r.is;
              retired =
                  ap (λ x. x.is_retired) r.is
                  ∙ sym
                  (ap (λ b. (channel_in s1 d).is_retired || b) (reader_at d at)
                  ∙ or-true (channel_in s1 d).is_retired);
              reserved = λ none was. r.keeps was;
              most = ap (λ x. x.most) r.is;
              kept = ap (λ x. x.is_kept) r.is;
            }
        by_test false is =
            let none =
            λ (at : Contains (instance_at t p).ins d). both_ways _ is
            (list_any-from_Contains nat_eq_equiv d (instance_at t p).ins at) in
            subst (λ x. IsChannelAfter t (Ended p how) d (channel_in s1 d) x) (sym (h.keeps d none))
            (untouched t (Ended p how) d (channel_in s1 d)
            (record { written = refl; read = refl; capacity = λ cap. refl; reader = reader_elsewhere d none }))

    waits_same : s1.waits ≡ s.waits
    waits_same = ap (λ x. x.waits) ended

    ended_then : (q : ℕ) → end_in s2 q ≡ cond (eqb p q) (Some how) (end_in s q)
    ended_then q =
        ap (λ ends. get_or ends q None) h.ends
        ∙ ap (λ x. end_in x q) ended
        ∙ elim (cases_eq q p) [
          | inl same ↦
              subst (λ x. end_in (with_end p how s) x ≡ cond (eqb p x) (Some how) (end_in s x)) (sym same)
              (get_or-set_same s.ends p (Some how) None (omega (arith, shape.ends))
              ∙ sym (ap (λ b. cond b (Some how) (end_in s p)) (eq-eqb p p refl)))
          | inr differ ↦
              get_or-set_other s.ends p q (Some how) None differ
              ∙ sym (ap (λ b. cond b (Some how) (end_in s q)) (ne_eqb p q (λ e. differ (sym e))))
        ]

    pub Changes-ended : Changes t (Ended p how) s s2
    Changes-ended =
        record {
          channels =
              λ d is.
              subst (λ x. IsChannelAfter t (Ended p how) d (channel_in x d) (channel_in s2 d)) ended
              (channel_then d);
          closed =
              λ d is. ap (λ closed. get_or closed d false) h.closed ∙ ap (λ x. closed_in x d) ended
              ∙ sym (or-false (closed_in s d));
          waits =
              λ q is.
              waits_of_kind t (Ended p how) (is_wait_on_full_among (instance_at t p).ins) s.waits s2.waits
              (subst (λ ws. AreWoken (is_wait_on_full_among (instance_at t p).ins) ws s2.waits) waits_same
              h.waits) wakes_at refl
              (λ q is. subst (λ x. wait_at s.waits x ≡ Nobody) (eqb-true p q is) free.free) refl q;
          ends = λ q is. ended_then q;
          frames =
              λ q is. ap (λ frames. frame_in (record s2 { frames = frames }) q) h.frames
              ∙ ap (λ x. frame_in x q) ended;
        }

    pub Made-ended : Made t (Ended p how) s s2
    Made-ended =
        Made-from t (Ended p how) s s2 shape tt Changes-ended
        (record {
          channels = h.channels ∙ ap (λ x. length x.channels) ended;
          closed = ap length h.closed ∙ ap (λ x. length x.closed) ended;
          ends = ap length h.ends ∙ ap (λ x. length x.ends) ended ∙ length-set s.ends p (Some how);
          frames = ap length h.frames ∙ ap (λ x. length x.frames) ended;
        })
        h.own

pub list_of_one : {X Y : Type 0} (h : X → Option Y) (x : X) → option_to_list (h x) ≡ filter_map h (x ∷ [])
list_of_one h x = by_value (h x)
  where
    by_value : {Y : Type 0} (o : Option Y) → option_to_list o ≡ cons_option o []
    by_value None = refl
    by_value (Some y) = refl

-- no port before it has the same channel
pub not_before : (ports : List ℕ) → AreDistinct ports → (k : ℕ) → k < length ports
    → Contains (take k ports) (get_or ports k 0) → ⊥
not_before ports distinct k below h =
    let short : h.0 < k = let len = length-take k ports in let within = h.1 in omega arith in
    let there : h.0 < length ports = omega arith in
    let same : get_or ports h.0 0 ≡ get_or ports k 0 =
    get_or_default ports h.0 0 (get_or ports k 0) there ∙ sym (get_or-take k ports h.0 (get_or ports k 0) short)
    ∙ h.2 in
    let equal : h.0 ≡ k = one_port ports distinct h.0 k there below same in
    absurd (omega arith)
