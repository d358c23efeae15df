-- An event makes nobody blocked but the process whose wait it is. After any other event, a blocked process was blocked
-- on the same channel before. So a blocked cycle without that process was there before.
use Rattle.kpn_history.proofs.Common.{Contains, ◌≡◌, ◌≢◌, ℕ, ◌<◌, Bool, true, false, cond, zero-add, List, [], ◌∷◌, ◌++◌, length, Some, None, refl, sym, ap, ◌∙◌, subst, inl, inr, cons_option, cases_Bool, eqb-true, get_or-map-range_with_len, Wait, Nobody, Empty, Full, Tables, IsNetwork, wait_at, awaited, full_channel, full_channels, WaitInTurn, Event, WaitEmpty, WaitFull, is_of, is_empty, is_full, wait_of, waits_of, IsBlockedCycle, full_in_cycle, wait_made, wait_kept, waiter, Legal, Contains-first, Contains-later, cycle_below}
use Rattle.kpn_history.proofs.WaitsAfter.{wait_of-more}

-- ---- a blocked process was blocked before

-- an event of a process that makes it wait is its wait
its_wait : (p : ℕ) (e : Event) → is_of p e ≡ true → wait_made e ≢ Nobody → waiter e ≡ Some p
its_wait p (WaitEmpty q c) own some = ap Some (eqb-true q p own)
its_wait p (WaitFull q c) own some = ap Some (eqb-true q p own)
its_wait p event own some = absurd (some refl)

left_of : (still : Bool) (v w : Wait) → cond still v Nobody ≡ w → w ≢ Nobody → v ≡ w
left_of true v w is some = is
left_of false v w is some = absurd (some (sym is))

-- what is left of a wait is the wait, or nothing
left_is : (t : Tables) (H : List Event) (v w : Wait) → wait_kept t H v ≡ w → w ≢ Nobody → v ≡ w
left_is t H Nobody w is some = is
left_is t H (Empty c) w is some = left_of (is_empty H c) (Empty c) w is some
left_is t H (Full c) w is some = left_of (is_full t H c) (Full c) w is some

-- what a process is blocked on is what it was blocked on before, unless the event is its wait
wait_stays : (t : Tables) → IsNetwork t → (B : List Event) (e : Event) → Legal t (B ++ e ∷ []) → (p : ℕ) (w : Wait)
    → (waiter e ≡ Some p → ⊥) → wait_of t (B ++ e ∷ []) p ≡ w → w ≢ Nobody → wait_of t B p ≡ w
wait_stays t network B e legal p w other waits some =
    let after : cond (is_of p e) (wait_made e) (wait_kept t (B ++ e ∷ []) (wait_of t B p)) ≡ w =
    sym (wait_of-more t network B e legal p) ∙ waits in
    elim (cases_Bool (is_of p e)) [
      | inl own ↦
          let made : wait_made e ≡ w =
          subst (λ b. cond b (wait_made e) (wait_kept t (B ++ e ∷ []) (wait_of t B p)) ≡ w) own after in
          absurd (other (its_wait p e own (λ none. some (sym made ∙ none))))
      | inr others ↦
          let left : wait_kept t (B ++ e ∷ []) (wait_of t B p) ≡ w =
          subst (λ b. cond b (wait_made e) (wait_kept t (B ++ e ∷ []) (wait_of t B p)) ≡ w) others after in
          left_is t (B ++ e ∷ []) (wait_of t B p) w left some
    ]

-- ---- cycles

-- the same waits of these processes
module _ (t : Tables) (waits before : List Wait) where
  abbrev pub KeepsWaits : List ℕ → Type 0
  KeepsWaits members =
      (q r : ℕ) → Contains members q → awaited t (wait_at waits q) ≡ Some r → wait_at before q ≡ wait_at waits q

  pub turn_kept : (p : ℕ) (others : List ℕ) (z : ℕ) → KeepsWaits (p ∷ others) → WaitInTurn t waits p others z
      → WaitInTurn t before p others z
  turn_kept p [] z keeps turn =
      record { awaited = ap (awaited t) (keeps p z (Contains-first p []) turn.awaited) ∙ turn.awaited }
  turn_kept p (r ∷ others) z keeps turn = (
    record { awaited = ap (awaited t) (keeps p r (Contains-first p (r ∷ others)) turn.0.awaited) ∙ turn.0.awaited },
    turn_kept r others z (λ q s h. keeps q s (Contains-later p (r ∷ others) q h)) turn.1,
  )

  pub full_kept : (p : ℕ) (others : List ℕ) (z : ℕ) → KeepsWaits (p ∷ others) → WaitInTurn t waits p others z
      → full_channels before (p ∷ others) ≡ full_channels waits (p ∷ others)
  full_kept p [] z keeps turn =
      ap (λ w. cons_option (full_channel w) []) (keeps p z (Contains-first p []) turn.awaited)
  full_kept p (r ∷ others) z keeps turn =
      let first = keeps p r (Contains-first p (r ∷ others)) turn.0.awaited in
      let rest = full_kept r others z (λ q s h. keeps q s (Contains-later p (r ∷ others) q h)) turn.1 in
      λ i. cons_option (full_channel (first i)) (rest i)

-- the wait table by number
pub wait_at-waits_of : (t : Tables) (H : List Event) (p : ℕ) → p < length t.instances
    → wait_at (waits_of t H) p ≡ wait_of t H p
wait_at-waits_of t H p below =
    get_or-map-range_with_len (wait_of t H) 0 (length t.instances) p p Nobody below (zero-add p)

waits_for_some : (t : Tables) (w : Wait) (r : ℕ) → awaited t w ≡ Some r → w ≢ Nobody
waits_for_some t w r is none = let nobody : awaited t w ≡ None = ap (awaited t) none in cc

-- a blocked cycle that stood before, with the same waits
pub record HadCycle (t : Tables) (B H : List Event) (p : ℕ) (others : List ℕ) : Type 0 where
  pub cycle : IsBlockedCycle t B p others
  pub full : full_in_cycle t B p others ≡ full_in_cycle t H p others
  pub waits : (q r : ℕ) → Contains (p ∷ others) q → awaited t (wait_at (waits_of t H) q) ≡ Some r
      → wait_at (waits_of t B) q ≡ wait_at (waits_of t H) q

pub had_cycle : (t : Tables) → IsNetwork t → (B : List Event) (e : Event) → Legal t (B ++ e ∷ [])
    → (p : ℕ) (others : List ℕ) → ((q : ℕ) → Contains (p ∷ others) q → waiter e ≡ Some q → ⊥)
    → IsBlockedCycle t (B ++ e ∷ []) p others → HadCycle t B (B ++ e ∷ []) p others
had_cycle t network B e legal p others none cycle =
    record {
      cycle =
          record {
            distinct = cycle.distinct;
            in_turn = turn_kept t (waits_of t (B ++ e ∷ [])) (waits_of t B) p others p keeps cycle.in_turn;
          };
      full = full_kept t (waits_of t (B ++ e ∷ [])) (waits_of t B) p others p keeps cycle.in_turn;
      waits = keeps;
    }
  where
    keeps : (q r : ℕ) → Contains (p ∷ others) q → awaited t (wait_at (waits_of t (B ++ e ∷ [])) q) ≡ Some r
        → wait_at (waits_of t B) q ≡ wait_at (waits_of t (B ++ e ∷ [])) q
    keeps q r h is =
        let below = cycle_below t (waits_of t (B ++ e ∷ [])) p others cycle q h in
        let now = wait_at-waits_of t (B ++ e ∷ []) q below in
        let some = waits_for_some t (wait_of t (B ++ e ∷ []) q) r (subst (λ w. awaited t w ≡ Some r) now is) in
        wait_at-waits_of t B q below
        ∙ wait_stays t network B e legal q (wait_of t (B ++ e ∷ []) q) (none q h) refl some ∙ sym now
