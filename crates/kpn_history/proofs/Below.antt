-- All journals of a list of events are below one iterate of Kahn's iteration for what was fed, if each process can say
-- what it says in it, as in a legal history.
use Rattle.kpn_history.proofs.Common.{◌≡◌, ℕ, zero, suc, ◌≤◌, max, true, false, ℤ, cond, List, [], ◌∷◌, ◌++◌, refl, sym, ap, ◌∙◌, subst, inl, inr, arith, cases_Bool, cases_eq, both_ways, IsPrefix, put_at, Process, Tables, channel_at, is_source, writer_of, IsNetwork, Family, IsFamilyPrefix, ProcessCanSay, talk_on, out_of, written_by, round, iterate, IsPrefixOnSources, Event, Put, Feed, talk_of, written_in, written_on, read_on, fed, Legal, IsPrefix-trans, IsPrefix-same, put_at-prefix, out_of-grows, round-grows, iterate-grows, IsPrefixOnSources-refl, Writes, writer_of-Writes, source_if_not_written}
use Rattle.kpn_history.proofs.Events.{written_on-grows, written_on-same, read_on-same}
use Rattle.kpn_history.proofs.Legality.{Legal-before, by_events}
use Rattle.kpn_history.proofs.Ownership.{Owns, Owns-last}
use Rattle.kpn_history.proofs.Journals.{none_elsewhere, put_by_owner, IsSpoken, IsSpoken-legal}

-- ---- rounds on sources and elsewhere

pub round-source : (t : Tables) (given : Family) (n k c : ℕ) → is_source (channel_at t c) ≡ true
    → round t given n k c ≡ given c
round-source t given n zero c e = ap (λ b. cond b (given c) []) e
round-source t given n (suc k) c e =
    ap (λ b. cond b (given c) (written_by t n (round t given n k) c (writer_of t c))) e

pub round-process : (t : Tables) (given : Family) (n k c p : ℕ) → is_source (channel_at t c) ≡ false
    → writer_of t c ≡ Process p → round t given n (suc k) c ≡ out_of t p n (round t given n k) c
round-process t given n k c p e w =
    ap (λ b. cond b (given c) (written_by t n (round t given n k) c (writer_of t c))) e
    ∙ ap (written_by t n (round t given n k) c) w

-- ---- one event more

-- all journals are below this iterate
pub record IsBelowIterate (t : Tables) (given : Family) (H : List Event) : Type 0 where
  pub turns : ℕ
  pub below : IsFamilyPrefix (written_on H) (iterate t given turns)

module _ (t : Tables) (network : IsNetwork t) (given : Family) where
  -- an event that writes only on sources
  keeps : (B : List Event) (e : Event) → IsPrefixOnSources t (written_on (B ++ e ∷ [])) given
      → ((c : ℕ) → is_source (channel_at t c) ≡ false → written_in c e ≡ []) → IsBelowIterate t given B
      → IsBelowIterate t given (B ++ e ∷ [])
  keeps B e fed none before =
      record {
        turns = before.turns;
        below = λ c. elim (cases_Bool (is_source (channel_at t c))) [
          | inl source ↦
              IsPrefix-trans (written_on (B ++ e ∷ []) c) (given c) (iterate t given before.turns c)
              (fed.each c source)
              (IsPrefix-same _ _ (sym (round-source t given before.turns before.turns c source)))
          | inr other ↦
              IsPrefix-trans (written_on (B ++ e ∷ []) c) (written_on B c) (iterate t given before.turns c)
              (IsPrefix-same _ _ (written_on-same B e c (none c other)))
              (before.below c)
        ];
      }

  -- what a process put is what it puts on lists below an iterate, so it is below a later one
  put_below : (B : List Event) (p c : ℕ) (v : ℤ) → IsSpoken t B → IsSpoken t (B ++ Put p c v ∷ []) → Writes t p c
      → (before : IsBelowIterate t given B)
      (k : ProcessCanSay t p (read_on (B ++ Put p c v ∷ [])) (talk_of (B ++ Put p c v ∷ []) p)) (m : ℕ) → k.turns ≤ m
      → before.turns ≤ m → IsPrefix (written_on (B ++ Put p c v ∷ []) c) (iterate t given (suc m) c)
  put_below B p c v spoken now writes before k m more later =
      let after = B ++ Put p c v ∷ [] in
      let writer = writer_of-Writes t network p c writes in
      let reads : IsFamilyPrefix (read_on after) (round t given (suc m) m) =
      λ d. IsPrefix-trans (read_on after d) (read_on B d) (round t given (suc m) m d)
      (IsPrefix-same _ _ (read_on-same B (Put p c v) d refl))
      (IsPrefix-trans (read_on B d) (written_on B d) (round t given (suc m) m d) (spoken.in_order d)
      (IsPrefix-trans (written_on B d) (iterate t given before.turns d) (round t given (suc m) m d) (before.below d)
      (round-grows t given given (IsPrefixOnSources-refl t given) before.turns (suc m) (omega arith) before.turns m
      later d)))
      in
      IsPrefix-trans (written_on after c) (put_at (talk_of after p) c) (iterate t given (suc m) c)
      (IsPrefix-same _ _ (put_by_owner t network c p writer after now.own))
      (IsPrefix-trans (put_at (talk_of after p) c) (out_of t p k.turns (read_on after) c) (iterate t given (suc m) c)
      (put_at-prefix (talk_of after p) (talk_on t p k.turns (read_on after)) c k.said)
      (IsPrefix-trans (out_of t p k.turns (read_on after) c) (out_of t p (suc m) (round t given (suc m) m) c)
      (iterate t given (suc m) c)
      (out_of-grows t p k.turns (suc m) (omega arith) (read_on after) (round t given (suc m) m) reads c)
      (IsPrefix-same _ _
      (sym (round-process t given (suc m) m c p (source_if_not_written t network p c writes) writer)))))

  puts : (B : List Event) (p c : ℕ) (v : ℤ) → IsSpoken t B → IsSpoken t (B ++ Put p c v ∷ []) → Writes t p c
      → IsBelowIterate t given B → IsBelowIterate t given (B ++ Put p c v ∷ [])
  puts B p c v spoken now writes before =
      let after = B ++ Put p c v ∷ [] in
      let k = now.said p writes.process in
      let m = max k.turns before.turns in
      record {
        turns = suc m;
        below = λ d. elim (cases_eq c d) [
          | inl same ↦
              subst (λ x. IsPrefix (written_on after x) (iterate t given (suc m) x)) same
              (put_below B p c v spoken now writes before k m (omega arith) (omega arith))
          | inr differ ↦
              IsPrefix-trans (written_on after d) (written_on B d) (iterate t given (suc m) d)
              (IsPrefix-same _ _ (written_on-same B (Put p c v) d (none_elsewhere c d v differ)))
              (IsPrefix-trans (written_on B d) (iterate t given before.turns d) (iterate t given (suc m) d)
              (before.below d)
              (iterate-grows t given before.turns (suc m) (omega arith) d))
        ];
      }

  -- one event more
  pub one_more : (B : List Event) (e : Event) → IsSpoken t B → IsSpoken t (B ++ e ∷ []) → Owns t e
      → IsPrefixOnSources t (written_on (B ++ e ∷ [])) given → IsBelowIterate t given B
      → IsBelowIterate t given (B ++ e ∷ [])
  one_more B (Put p c v) spoken now own fed before = puts B p c v spoken now own before
  one_more B (Feed c v) spoken now own fed before =
      keeps B (Feed c v) fed
      (λ d other. none_elsewhere c d v
      (λ e. both_ways (is_source (channel_at t d)) other (subst (λ x. is_source (channel_at t x) ≡ true) e own)))
      before
  one_more B event spoken now own fed before = keeps B event fed (λ d other. refl) before

  -- ---- all events

  pub journals_below : (H : List Event) → Legal t H → IsPrefixOnSources t (written_on H) given
      → IsBelowIterate t given H
  journals_below =
      by_events t (λ H. IsPrefixOnSources t (written_on H) given → IsBelowIterate t given H)
      (λ fed. record { turns = 0; below = λ c. tt })
      (λ B e legal h fed.
      one_more B e (IsSpoken-legal t network B (Legal-before t B e legal)) (IsSpoken-legal t network (B ++ e ∷ []) legal)
      (Owns-last t network B e legal) fed
      (h (record {
        each = λ c source.
            IsPrefix-trans (written_on B c) (written_on (B ++ e ∷ []) c) (given c) (written_on-grows B e c)
            (fed.each c source);
      })))

-- what was fed is what was written on the sources
pub fed-source : (t : Tables) (H : List Event) (c : ℕ) → is_source (channel_at t c) ≡ true
    → fed t H c ≡ written_on H c
fed-source t H c source = ap (λ b. cond b (written_on H c) []) source

pub fed_on_sources : (t : Tables) (H : List Event) (given : Family) → IsPrefixOnSources t (fed t H) given
    → IsPrefixOnSources t (written_on H) given
fed_on_sources t H given s =
    record { each = λ c source. subst (λ xs. IsPrefix xs (given c)) (fed-source t H c source) (s.each c source) }
