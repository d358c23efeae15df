-- What is left of the ends of a channel after one more event, and how many events are of processes.
use Rattle.std.proofs.Common.{◌≡◌, ◌↔◌, ℕ, ◌+◌, Bool, true, false, not, ◌&&◌, ◌||◌, cond, eq-eqb, List, [], ◌∷◌, ◌++◌, refl, ap, ◌∙◌}
use Rattle.kpn_history.proofs.Common.{false≢true, list_any-append, sum_by_push, list_any, End, Process, Source, Sink, Tables, reader_of, Event, Get, Put, WaitEmpty, WaitFull, Ended, is_of, is_of_process, process_events, is_end_of, has_ended, is_close_of, is_leave_of, is_closed, is_left, lives, reader_lives, takes_end, takes_reader}

-- ---- marks

or-end : (a b : Bool) → (a || (b || false)) ≡ (a || b)
or-end true b = refl
or-end false true = refl
or-end false false = refl

not-or : (a b : Bool) → not (a || b) ≡ (not a && not b)
not-or true b = refl
not-or false b = refl

any-push : {X : Type 0} (f : X → Bool) (xs : List X) (x : X) → list_any f (xs ++ x ∷ []) ≡ (list_any f xs || f x)
any-push f xs x = list_any-append f xs (x ∷ []) ∙ or-end (list_any f xs) (f x)

pub has_ended-next : (B : List Event) (e : Event) (p : ℕ)
    → has_ended (B ++ e ∷ []) p ≡ (has_ended B p || is_end_of p e)
has_ended-next B e p = any-push (is_end_of p) B e

pub is_closed-next : (B : List Event) (e : Event) (c : ℕ)
    → is_closed (B ++ e ∷ []) c ≡ (is_closed B c || is_close_of c e)
is_closed-next B e c = any-push (is_close_of c) B e

pub is_left-next : (B : List Event) (e : Event) (c : ℕ) → is_left (B ++ e ∷ []) c ≡ (is_left B c || is_leave_of c e)
is_left-next B e c = any-push (is_leave_of c) B e

lives-next : (B : List Event) (e : Event) (c : ℕ) (end : End)
    → lives (B ++ e ∷ []) c end ≡ (lives B c end && not (takes_end c e end))
lives-next B e c (Process p) = ap not (has_ended-next B e p) ∙ not-or (has_ended B p) (is_end_of p e)
lives-next B e c Source = refl
lives-next B e c Sink = ap not (is_left-next B e c) ∙ not-or (is_left B c) (is_leave_of c e)

pub reader_lives-next : (t : Tables) (B : List Event) (e : Event) (c : ℕ)
    → reader_lives t (B ++ e ∷ []) c ≡ (reader_lives t B c && not (takes_reader t c e))
reader_lives-next t B e c = lives-next B e c (reader_of t c)

-- an event that ends nobody and is no leave of the channel takes no reader away
pub keeps_reader : (t : Tables) (c : ℕ) (e : Event) → ((p : ℕ) → is_end_of p e ≡ false) → is_leave_of c e ≡ false
    → takes_reader t c e ≡ false
keeps_reader t c e ends leaves = by_end (reader_of t c)
  where
    by_end : (end : End) → takes_end c e end ≡ false
    by_end (Process p) = ends p
    by_end Source = refl
    by_end Sink = leaves

and-not : (b gone : Bool) → gone ≡ false → (b && not gone) ≡ b
and-not true gone none = ap not none
and-not false gone none = refl

pub reader_lives-kept : (t : Tables) (B : List Event) (e : Event) (c : ℕ) → takes_reader t c e ≡ false
    → reader_lives t (B ++ e ∷ []) c ≡ reader_lives t B c
reader_lives-kept t B e c stays =
    reader_lives-next t B e c ∙ and-not (reader_lives t B c) (takes_reader t c e) stays

-- ---- events of processes

pub process_events-next : (B : List Event) (e : Event)
    → process_events (B ++ e ∷ []) ≡ process_events B + cond (is_of_process e) 1 0
process_events-next B e = sum_by_push (λ x. cond (is_of_process x) 1 0) B e

its_process : (q : ℕ) (b : Bool) (e : Event) → is_of q e ≡ true → (b ≡ true)
    → (b ≡ true) ↔ ((p : ℕ) × (is_of p e ≡ true))
its_process q b e own is = (λ _. (q, own), λ _. is)

pub of_process : (e : Event) → (is_of_process e ≡ true) ↔ ((p : ℕ) × (is_of p e ≡ true))
of_process (Get q c v) = its_process q true (Get q c v) (eq-eqb q q refl) refl
of_process (Put q c v) = its_process q true (Put q c v) (eq-eqb q q refl) refl
of_process (WaitEmpty q c) = its_process q true (WaitEmpty q c) (eq-eqb q q refl) refl
of_process (WaitFull q c) = its_process q true (WaitFull q c) (eq-eqb q q refl) refl
of_process (Ended q how) = its_process q true (Ended q how) (eq-eqb q q refl) refl
of_process event = (λ is. absurd (false≢true is), λ own. absurd (false≢true own.1))
