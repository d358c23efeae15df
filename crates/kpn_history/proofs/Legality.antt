-- Beginnings of legal histories are legal, and a history is legal if it is made event by event.
use Rattle.kpn_history.proofs.Common.{◌≡◌, ℕ, true, List, [], ◌∷◌, ◌++◌, sym, subst, inl, inr, append_assoc, arith, false≢true, eqb-true, IsPrefix, Tables, Event, Get, Put, WaitEmpty, WaitFull, Ended, is_of, CanGo, IsConsistent, MayFollow, Legal, IsPrefix-refl, IsPrefix-trans, IsPrefix-append, nil_from_prefix, prefix_of_push}
use Rattle.std.proofs.lemmas.List.{append-nil, same_from_push}

-- a list that ends with one more event is no beginning of the empty list
push_is_no_prefix_of_nil : (B : List Event) (e : Event) → IsPrefix (B ++ e ∷ []) [] → ⊥
push_is_no_prefix_of_nil [] e p = p
push_is_no_prefix_of_nil (x ∷ B) e p = p

pub IsConsistent-nil : (t : Tables) → IsConsistent t []
IsConsistent-nil t =
    record {
      said = λ p below. record { turns = 0; said = tt };
      in_order = λ c below. tt;
      within = λ c below lives cap e. omega arith;
    }

pub Legal-nil : (t : Tables) → Legal t []
Legal-nil t =
    record {
      consistent = λ B p. subst (IsConsistent t) (sym (nil_from_prefix B p)) (IsConsistent-nil t);
      follows = λ B e p. absurd (push_is_no_prefix_of_nil B e p);
    }

pub Legal-prefix : (t : Tables) (B H : List Event) → IsPrefix B H → Legal t H → Legal t B
Legal-prefix t B H q legal =
    record {
      consistent = λ C p. legal.consistent C (IsPrefix-trans C B H p q);
      follows = λ C e p. legal.follows C e (IsPrefix-trans (C ++ e ∷ []) B H p q);
    }

-- one more event
pub Legal-push : (t : Tables) (B : List Event) (e : Event) → Legal t B → MayFollow t B e
    → IsConsistent t (B ++ e ∷ []) → Legal t (B ++ e ∷ [])
Legal-push t B e legal follows consistent =
    record {
      consistent = λ C p. elim (prefix_of_push C B e p) [
        | inl h ↦ legal.consistent C h
        | inr same ↦ subst (IsConsistent t) (sym same) consistent
      ];
      follows = λ C f p. elim (prefix_of_push (C ++ f ∷ []) B e p) [
        | inl h ↦ legal.follows C f h
        | inr same ↦
            let both = same_from_push C B f e same in
            subst (λ D. MayFollow t D f) (sym both.0) (subst (MayFollow t B) (sym both.1) follows)
      ];
    }

pub Legal-consistent : (t : Tables) (H : List Event) → Legal t H → IsConsistent t H
Legal-consistent t H legal = legal.consistent H (IsPrefix-refl H)

-- the last event of a legal history, and the history before it
pub Legal-before : (t : Tables) (B : List Event) (e : Event) → Legal t (B ++ e ∷ []) → Legal t B
Legal-before t B e legal = Legal-prefix t B (B ++ e ∷ []) (IsPrefix-append B (e ∷ [])) legal

pub Legal-last : (t : Tables) (B : List Event) (e : Event) → Legal t (B ++ e ∷ []) → MayFollow t B e
Legal-last t B e legal = legal.follows B e (IsPrefix-refl (B ++ e ∷ []))

-- a process that makes an event can go on before it
pub can_go : (t : Tables) (B : List Event) (e : Event) → Legal t (B ++ e ∷ []) → (p : ℕ) → is_of p e ≡ true
    → CanGo t B p
can_go t B (Get q c v) legal p is = subst (CanGo t B) (eqb-true q p is) (Legal-last t B (Get q c v) legal).due
can_go t B (Put q c v) legal p is = subst (CanGo t B) (eqb-true q p is) (Legal-last t B (Put q c v) legal).due
can_go t B (WaitEmpty q c) legal p is =
    subst (CanGo t B) (eqb-true q p is) (Legal-last t B (WaitEmpty q c) legal).due.0
can_go t B (WaitFull q c) legal p is =
    subst (CanGo t B) (eqb-true q p is) (Legal-last t B (WaitFull q c) legal).due.0
can_go t B (Ended q how) legal p is =
    subst (CanGo t B) (eqb-true q p is) (Legal-last t B (Ended q how) legal).due.0
can_go t B event legal p is = absurd (false≢true is)

-- what holds of a history, and of each legal history with one more event if of that before it, holds of each legal
-- history that goes on from there
module _ (t : Tables) (P : List Event → Type 0)
    (step : (B : List Event) (e : Event) → Legal t (B ++ e ∷ []) → P B → P (B ++ e ∷ [])) where
  pub onward : (rest B : List Event) → Legal t (B ++ rest) → P B → P (B ++ rest)
  onward [] B legal h = subst P (sym (append-nil B)) h
  onward (e ∷ rest) B legal h =
      let same : (B ++ e ∷ []) ++ rest ≡ B ++ (e ∷ rest) = append_assoc B (e ∷ []) rest in
      let legal' : Legal t ((B ++ e ∷ []) ++ rest) = subst (Legal t) (sym same) legal in
      let before = Legal-prefix t (B ++ e ∷ []) ((B ++ e ∷ []) ++ rest) (IsPrefix-append (B ++ e ∷ []) rest) legal' in
      subst P same (onward rest (B ++ e ∷ []) legal' (step B e before h))

-- what holds of the empty history, and of each legal history with one more event if of that before it, holds of each
-- legal history
pub by_events : (t : Tables) (P : List Event → Type 0) → P []
    → ((B : List Event) (e : Event) → Legal t (B ++ e ∷ []) → P B → P (B ++ e ∷ [])) → (H : List Event) → Legal t H
    → P H
by_events t P start step H legal = onward t P step H [] legal start
