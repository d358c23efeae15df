-- Which process waits for something at an end of a channel, and the table of waits after it is woken.
use Rattle.std.proofs.Common.{◌≡◌, ◌≢◌, ◌↔◌, ℕ, ◌<◌, Bool, true, false, cond, eq-eqb, List, length, Option, Some, None, refl, sym, ap, ◌∙◌, subst, inl, inr, arith}
use Rattle.std.proofs.lemmas.Bool.{cases_Bool, cases_eq, cases_lt, eqb-true, false≢true}
use Rattle.kpn_machine.proofs.Common.{get_or-set_same, get_or-set_other, get_or_past, Wait, End, Process, Source, Sink, Tables, writer_of, reader_of, wait_at, IsOwnWait, AreWaits, Writes-writer_of, Reads-reader_of, waits-set, is_wait, waiting_at, free_now, woken_at, AreWoken}
use Rattle.kpn_net.specs.declared.wait.Wait.TheVariants.{Nobody, Empty, Full}

-- ---- one wait

pub is_that : (wait w : Wait) → is_wait wait w ≡ true → w ≡ wait
is_that Nobody Nobody is = refl
is_that (Empty c) (Empty d) is = ap Empty (sym (eqb-true c d is))
is_that (Full c) (Full d) is = ap Full (sym (eqb-true c d is))
is_that wait w is = absurd (false≢true is)

pub is_itself : (wait : Wait) → is_wait wait wait ≡ true
is_itself Nobody = refl
is_itself (Empty c) = eq-eqb c c refl
is_itself (Full c) = eq-eqb c c refl

-- the end of its channel at which a process with this wait is
abbrev pub end_of : Tables → Wait → End
end_of t Nobody = Source
end_of t (Empty c) = reader_of t c
end_of t (Full c) = writer_of t c

own_end : (t : Tables) (q : ℕ) (wait : Wait) → IsOwnWait t q wait → wait ≢ Nobody → end_of t wait ≡ Process q
own_end t q Nobody own some = absurd (some refl)
own_end t q (Empty c) own some = own
own_end t q (Full c) own some = own

end_there : (t : Tables) (q : ℕ) (wait : Wait) → end_of t wait ≡ Process q → q < length t.instances
end_there t q Nobody e = absurd cc
end_there t q (Empty c) e = (Reads-reader_of t q c e).process
end_there t q (Full c) e = (Writes-writer_of t q c e).process

-- the process at an end of a channel, if its wait is of a kind
at_end : (kind : Wait → Bool) (waits : List Wait) (end : End) (q : ℕ) → waiting_at kind waits end ≡ Some q
    → (end ≡ Process q) × (kind (wait_at waits q) ≡ true)
at_end kind waits (Process r) q is = by_kind (kind (wait_at waits r)) refl is
  where
    by_kind : (b : Bool) → kind (wait_at waits r) ≡ b → cond b (Some r) None ≡ Some q
        → (Process r ≡ Process q) × (kind (wait_at waits q) ≡ true)
    by_kind true test e = let same : r ≡ q =
        cc in (ap Process same, subst (λ x. kind (wait_at waits x) ≡ true) same test)
    by_kind false test e = absurd (cc)
at_end kind waits Source q is = absurd (cc)
at_end kind waits Sink q is = absurd (cc)

-- ---- a table of waits

module _ (t : Tables) (waits : List Wait) (are : AreWaits t waits) (wait : Wait) where
  -- the process at the end has a wait in the table
  pub below : (end : End) → end ≡ end_of t wait → (q : ℕ) → end ≡ Process q → q < length waits
  below end is q e = let there = end_there t q wait (sym is ∙ e) in omega (arith, are.one_each)

  pub stay : (end : End) → AreWaits t (woken_at (is_wait wait) waits end)
  stay end = by_one (waiting_at (is_wait wait) waits end)
    where
      by_one : (who : Option ℕ) → AreWaits t (free_now who waits)
      by_one None = are
      by_one (Some q) = waits-set t waits q Nobody are tt

  module _ (some : wait ≢ Nobody) where
    pub who_waits : (q : ℕ)
        → (waiting_at (is_wait wait) waits (end_of t wait) ≡ Some q)
        ↔ ((q < length t.instances) × (wait_at waits q ≡ wait))
    who_waits q = (
      λ is.
          let h = at_end (is_wait wait) waits (end_of t wait) q is in
          (end_there t q wait h.0, is_that wait (wait_at waits q) h.1),
      λ h.
          ap (waiting_at (is_wait wait) waits)
          (own_end t q wait (subst (λ w. IsOwnWait t q w) h.1 (are.own q h.0)) some)
          ∙ ap (λ w. cond (is_wait wait w) (Some q) None) h.1
          ∙ ap (λ b. cond b (Some q) None) (is_itself wait),
    )

    waits_there : (q : ℕ) → wait_at waits q ≡ wait → q < length t.instances
    waits_there q is =
        elim (cases_lt q (length waits)) [
          | inl there ↦ omega (arith, are.one_each)
          | inr past ↦ absurd (some (sym is ∙ get_or_past waits q Nobody past))
        ]

    -- a process that is not returned waits for something else
    waits_not : (q : ℕ) → (waiting_at (is_wait wait) waits (end_of t wait) ≡ Some q → ⊥)
        → is_wait wait (wait_at waits q) ≡ false
    waits_not q none =
        elim (cases_Bool (is_wait wait (wait_at waits q))) [
          | inl is ↦
              let that = is_that wait (wait_at waits q) is in
              absurd (none ((who_waits q).1 (waits_there q that, that)))
          | inr is ↦ is
        ]

    pub process_woken : AreWoken (is_wait wait) waits (woken_at (is_wait wait) waits (end_of t wait))
    process_woken = record { each = by_who (waiting_at (is_wait wait) waits (end_of t wait)) refl }
      where
        by_who : (who : Option ℕ) → waiting_at (is_wait wait) waits (end_of t wait) ≡ who → (q : ℕ)
            → wait_at (free_now who waits) q ≡ cond (is_wait wait (wait_at waits q)) Nobody (wait_at waits q)
        by_who None e q =
            sym
            (ap (λ b. cond b Nobody (wait_at waits q))
            (waits_not q (λ is. let clash : ◌≡◌ {A = Option ℕ} None (Some q) = sym e ∙ is in absurd (cc))))
        by_who (Some r) e q =
            elim (cases_eq q r) [
              | inl same ↦
                  subst
                  (λ x.
                  wait_at (free_now (Some r) waits) x ≡ cond (is_wait wait (wait_at waits x)) Nobody (wait_at waits x))
                  (sym same)
                  (get_or-set_same waits r Nobody Nobody
                  (let there = ((who_waits r).0 e).0 in omega (arith, are.one_each))
                  ∙ sym
                  (ap (λ w. cond (is_wait wait w) Nobody w) ((who_waits r).0 e).1
                  ∙ ap (λ b. cond b Nobody wait) (is_itself wait)))
              | inr differ ↦
                  get_or-set_other waits r q Nobody Nobody differ
                  ∙ sym
                  (ap (λ b. cond b Nobody (wait_at waits q))
                  (waits_not q (λ is. differ (let e2 : ◌≡◌ {A = Option ℕ} (Some q) (Some r) = sym is ∙ e in cc))))
            ]

-- ---- the table through a view

pub woken_same : (kind : Wait → Bool) (end over : End) (xs ys waits : List Wait) → waits ≡ woken_at kind xs end
    → end ≡ over → xs ≡ ys → waits ≡ woken_at kind ys over
woken_same kind end over xs ys waits e at same =
    e ∙ ap (λ x. woken_at kind xs x) at ∙ ap (λ ws. woken_at kind ws over) same

pub told_same : (kind : Wait → Bool) (end over : End) (xs ys : List Wait) (who : Option ℕ)
    → who ≡ waiting_at kind xs end → end ≡ over → xs ≡ ys → who ≡ waiting_at kind ys over
told_same kind end over xs ys who e at same =
    e ∙ ap (λ x. waiting_at kind xs x) at ∙ ap (λ ws. waiting_at kind ws over) same
