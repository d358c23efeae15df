-- The marks on channels as the table of waits changes.
use Rattle.kpn_machine.proofs.Common.{◌≡◌, ◌≢◌, ℕ, ◌<◌, Bool, true, false, cond, List, [], ◌∷◌, length, replicate, set, Some, None, refl, sym, ap, ◌∙◌, subst, inl, inr, arith, both_ways, cases_eq, cases_lt, Contains-get_or, Wait, End, Process, Source, Sink, Tables, instance_at, writer_of, reader_of, wait_at, awaited, process_at, AreWaits, WaitsFor, WaitInTurn, IsCycle, is_marked, AreMarked, is_wait, waiting_at, woken_at}
use Rattle.std.specs.List.{Contains}
use Rattle.std.proofs.lemmas.List.{length-replicate, length-set, get_or-replicate, get_or-set_same, get_or-set_other, get_or_past}
use Rattle.kpn_net.specs.declared.wait.Wait.TheVariants.{Nobody, Empty, Full}
use Rattle.kpn_net.proofs.Networks.{StandsAt, Writes-writer_of, Reads-reader_of}
use Rattle.kpn_machine.proofs.Woken.{is_that, is_itself, process_woken}

-- ---- at the start

nobody : (n q : ℕ) → wait_at (replicate n Nobody) q ≡ Nobody
nobody n q =
    elim (cases_lt q n) [
      | inl there ↦ get_or-replicate n q Nobody Nobody there
      | inr past ↦
          get_or_past (replicate n Nobody) q Nobody (let long = length-replicate n Nobody in omega arith)
    ]

pub marked_at_start : (n : ℕ) (full empty : List Bool) → AreMarked (replicate n Nobody) full empty
marked_at_start n full empty = record {
  as_full = λ q c is. let clash : ◌≡◌ {A = Wait} Nobody (Full c) = sym (nobody n q) ∙ is in absurd cc;
  as_empty = λ q c is. let clash : ◌≡◌ {A = Wait} Nobody (Empty c) = sym (nobody n q) ∙ is in absurd cc;
}

-- ---- one more mark

marked_here : (marks : List Bool) (c : ℕ) → is_marked (set marks c true) c ≡ true
marked_here marks c =
    elim (cases_lt c (length marks)) [
      | inl there ↦ get_or-set_same marks c true true there
      | inr past ↦ get_or_past (set marks c true) c true (let long = length-set marks c true in omega arith)
    ]

still_marked : (marks : List Bool) (c d : ℕ) → is_marked marks d ≡ true → is_marked (set marks c true) d ≡ true
still_marked marks c d was =
    elim (cases_eq d c) [
      | inl same ↦ subst (λ z. is_marked (set marks c true) z ≡ true) (sym same) (marked_here marks c)
      | inr other ↦ get_or-set_other marks c d true true other ∙ was
    ]

module _ (waits : List Wait) (full empty : List Bool) (are : AreMarked waits full empty) where
  module _ (p : ℕ) (there : p < length waits) (wait : Wait) where
    -- a wait in the table with this one
    wait_there : (q : ℕ) (w : Wait) → wait_at (set waits p wait) q ≡ w → w ≢ wait → wait_at waits q ≡ w
    wait_there q w is differs =
        elim (cases_eq q p) [
          | inl same ↦
              absurd (differs (sym is ∙ ap (λ z. wait_at (set waits p wait) z) same
              ∙ get_or-set_same waits p wait Nobody there))
          | inr other ↦ sym (get_or-set_other waits p q wait Nobody other) ∙ is
        ]

  -- a process comes to wait
  pub marked_full : (p : ℕ) → p < length waits → (c : ℕ) → AreMarked (set waits p (Full c)) (set full c true) empty
  marked_full p there c = record {
    as_full = λ q d is.
        elim (cases_eq d c) [
          | inl same ↦ subst (λ z. is_marked (set full c true) z ≡ true) (sym same) (marked_here full c)
          | inr other ↦
              still_marked full c d
              (are.as_full q d (wait_there p there (Full c) q (Full d) is (λ e. other (cc))))
        ];
    as_empty = λ q d is. are.as_empty q d (wait_there p there (Full c) q (Empty d) is (λ e. absurd cc));
  }

  pub marked_empty : (p : ℕ) → p < length waits → (c : ℕ) → AreMarked (set waits p (Empty c)) full (set empty c true)
  marked_empty p there c = record {
    as_full = λ q d is. are.as_full q d (wait_there p there (Empty c) q (Full d) is (λ e. absurd cc));
    as_empty = λ q d is.
        elim (cases_eq d c) [
          | inl same ↦ subst (λ z. is_marked (set empty c true) z ≡ true) (sym same) (marked_here empty c)
          | inr other ↦
              still_marked empty c d
              (are.as_empty q d (wait_there p there (Empty c) q (Empty d) is (λ e. other (cc))))
        ];
  }

  -- ---- nobody waits on a channel without a mark

  pub none_waits : (wait : Wait) → ((q : ℕ) → wait_at waits q ≡ wait → ⊥) → (end : End)
      → waiting_at (is_wait wait) waits end ≡ None
  none_waits wait none (Process q) = by (is_wait wait (wait_at waits q)) refl
    where
      by : (b : Bool) → is_wait wait (wait_at waits q) ≡ b → cond b (Some q) None ≡ None
      by true e = absurd (none q (is_that wait (wait_at waits q) e))
      by false e = refl
  none_waits wait none Source = refl
  none_waits wait none Sink = refl

  pub no_writer : (c : ℕ) → is_marked full c ≡ false → (end : End) → waiting_at (is_wait (Full c)) waits end ≡ None
  no_writer c free end = none_waits (Full c) (λ q is. both_ways (is_marked full c) free (are.as_full q c is)) end

  pub no_reader : (c : ℕ) → is_marked empty c ≡ false → (end : End)
      → waiting_at (is_wait (Empty c)) waits end ≡ None
  no_reader c free end = none_waits (Empty c) (λ q is. both_ways (is_marked empty c) free (are.as_empty q c is)) end

  -- ---- those that waited on a channel are woken

  module _ (t : Tables) (own : AreWaits t waits) (c : ℕ) where
    pub unmarked_full : AreMarked (woken_at (is_wait (Full c)) waits (writer_of t c)) (set full c false) empty
    unmarked_full =
        let woken = process_woken t waits own (Full c) (λ e. absurd cc) in
        record {
          as_full = λ q d is. by_full q d (is_wait (Full c) (wait_at waits q)) refl (sym (woken.each q) ∙ is);
          as_empty = λ q d is. by_empty q d (is_wait (Full c) (wait_at waits q)) (sym (woken.each q) ∙ is);
        }
      where
        by_full : (q d : ℕ) (b : Bool) → is_wait (Full c) (wait_at waits q) ≡ b
            → cond b Nobody (wait_at waits q) ≡ Full d → is_marked (set full c false) d ≡ true
        by_full q d true e is = absurd cc
        by_full q d false e is =
            elim (cases_eq d c) [
              | inl same ↦
                  absurd (both_ways (is_wait (Full c) (wait_at waits q)) e
                  (ap (is_wait (Full c)) (is ∙ ap Full same) ∙ is_itself (Full c)))
              | inr other ↦ get_or-set_other full c d false true other ∙ are.as_full q d is
            ]

        by_empty : (q d : ℕ) (b : Bool) → cond b Nobody (wait_at waits q) ≡ Empty d → is_marked empty d ≡ true
        by_empty q d true is = absurd cc
        by_empty q d false is = are.as_empty q d is

    pub unmarked_empty : AreMarked (woken_at (is_wait (Empty c)) waits (reader_of t c)) full (set empty c false)
    unmarked_empty =
        let woken = process_woken t waits own (Empty c) (λ e. absurd cc) in
        record {
          as_full = λ q d is. by_full q d (is_wait (Empty c) (wait_at waits q)) (sym (woken.each q) ∙ is);
          as_empty = λ q d is. by_empty q d (is_wait (Empty c) (wait_at waits q)) refl (sym (woken.each q) ∙ is);
        }
      where
        by_full : (q d : ℕ) (b : Bool) → cond b Nobody (wait_at waits q) ≡ Full d → is_marked full d ≡ true
        by_full q d true is = absurd cc
        by_full q d false is = are.as_full q d is

        by_empty : (q d : ℕ) (b : Bool) → is_wait (Empty c) (wait_at waits q) ≡ b
            → cond b Nobody (wait_at waits q) ≡ Empty d → is_marked (set empty c false) d ≡ true
        by_empty q d true e is = absurd cc
        by_empty q d false e is =
            elim (cases_eq d c) [
              | inl same ↦
                  absurd (both_ways (is_wait (Empty c) (wait_at waits q)) e
                  (ap (is_wait (Empty c)) (is ∙ ap Empty same) ∙ is_itself (Empty c)))
              | inr other ↦ get_or-set_other empty c d false true other ∙ are.as_empty q d is
            ]

  -- ---- who waits for a process

  stands_among : (ports : List ℕ) (c : ℕ) → StandsAt ports c → Contains ports c
  stands_among ports c stands =
      subst (λ x. Contains ports x) stands.is (Contains-get_or ports stands.port 0 stands.there)

  -- nobody waits for a process if its channels have no mark
  pub no_waiter : (t : Tables) (p : ℕ)
      → ((c : ℕ) → Contains (instance_at t p).outs c → is_marked empty c ≡ false)
      → ((c : ℕ) → Contains (instance_at t p).ins c → is_marked full c ≡ false)
      → (q : ℕ) → WaitsFor t waits q p → ⊥
  no_waiter t p outs ins q waiter = by (wait_at waits q) refl waiter.awaited
    where
      at_process : (end : End) → process_at end ≡ Some p → end ≡ Process p
      at_process (Process r) e = let same : r ≡ p = cc in ap Process same
      at_process Source e = absurd cc
      at_process Sink e = absurd cc

      by : (wait : Wait) → wait_at waits q ≡ wait → awaited t wait ≡ Some p → ⊥
      by Nobody is e = absurd cc
      by (Empty c) is e =
          let writes = Writes-writer_of t p c (at_process (writer_of t c) e) in
          both_ways (is_marked empty c) (outs c (stands_among (instance_at t p).outs c writes.place))
          (are.as_empty q c is)
      by (Full c) is e =
          let reads = Reads-reader_of t p c (at_process (reader_of t c) e) in
          both_ways (is_marked full c) (ins c (stands_among (instance_at t p).ins c reads.place))
          (are.as_full q c is)

-- ---- no cycle goes through a process for which nobody waits

last_waits : (t : Tables) (waits : List Wait) (r : ℕ) (others : List ℕ) (p : ℕ) → WaitInTurn t waits r others p
    → (q : ℕ) × WaitsFor t waits q p
last_waits t waits r [] p turn = (r, turn)
last_waits t waits r (x ∷ rest) p turn = last_waits t waits x rest p turn.1

pub no_cycle : (t : Tables) (waits : List Wait) (p : ℕ) → ((q : ℕ) → WaitsFor t waits q p → ⊥) → (others : List ℕ)
    → IsCycle t waits p others → ⊥
no_cycle t waits p none others cycle =
    let last = last_waits t waits p others p cycle.in_turn in none last.0 last.1
