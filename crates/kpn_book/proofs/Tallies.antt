-- The counts of a list of states, if one of them is replaced by another.
use Rattle.kpn_book.proofs.Common.{◌≡◌, ◌↔◌, ℕ, ◌+◌, ◌<◌, ◌≤◌, Bool, true, false, not, cond, nat_eq, List, [], ◌∷◌, length, replicate, set, get_or, count_by, refl, sym, ap, ◌∙◌, arith, get_or_default, sum_by-cons, sum_by-set, sum_by-le, get_or-le-sum_by, sum_by-replicate, State, Ready, Held, AreCounts, is_ready, is_held, waits_empty, waits_full, is_ended, AreAllStopped}
use Rattle.std.proofs.lemmas.Bool.{not-false, eqb-true, eq-eqb}
use Rattle.kpn_book.specs.Counting.{goes, IsTally}

-- ---- one count

pub count_set : (f : State → Bool) (xs : List State) (i : ℕ) (y : State) → i < length xs
    → count_by f (set xs i y) + cond (f (get_or xs i Ready)) 1 0 ≡ count_by f xs + cond (f y) 1 0
count_set f xs i y there = sum_by-set (λ x. cond (f x) 1 0) xs i y Ready there

pub count_some : (f : State → Bool) (xs : List State) (i : ℕ) → i < length xs
    → cond (f (get_or xs i Ready)) 1 0 ≤ count_by f xs
count_some f xs i there = get_or-le-sum_by (λ x. cond (f x) 1 0) xs i Ready there

-- ---- all counts

pub AreCounts-ready : (n : ℕ)
    → AreCounts (replicate n Ready) (record { ready = n; held = 0; empty = 0; full = 0; ended = 0 })
AreCounts-ready n = record {
  ready = sym (sum_by-replicate (λ x. cond (is_ready x) 1 0) n Ready ∙ omega arith);
  held = sym (sum_by-replicate (λ x. cond (is_held x) 1 0) n Ready ∙ omega arith);
  empty = sym (sum_by-replicate (λ x. cond (waits_empty x) 1 0) n Ready ∙ omega arith);
  full = sym (sum_by-replicate (λ x. cond (waits_full x) 1 0) n Ready ∙ omega arith);
  ended = sym (sum_by-replicate (λ x. cond (is_ended x) 1 0) n Ready ∙ omega arith);
}

one_goes : (s : State) → cond {A = ℕ} (goes s) 1 0 ≡ cond (is_ready s) 1 0 + cond (is_held s) 1 0
one_goes Ready = refl
one_goes Held = refl
one_goes state = refl

-- those that go are the ready and the held
pub going_apart : (xs : List State) → count_by goes xs ≡ count_by is_ready xs + count_by is_held xs
going_apart [] = refl
going_apart (x ∷ xs) =
    let first : (f : State → Bool) → count_by f (x ∷ xs) ≡ cond (f x) 1 0 + count_by f xs =
    λ f. sum_by-cons (λ x. cond (f x) 1 0) x xs in
    omega (arith, one_goes x, going_apart xs, first goes, first is_ready, first is_held)

pub IsTally-ready : (n : ℕ) → IsTally (replicate n Ready) (record { going = n; empty = 0; full = 0; ended = 0 })
IsTally-ready n =
    let are = AreCounts-ready n in
    let going = going_apart (replicate n Ready) in
    record { going = omega (arith, are.ready, are.held); empty = are.empty; full = are.full; ended = are.ended }

-- ---- all have stopped if no process is ready or held

none_of : (f : State → Bool) (xs : List State) → ((i : ℕ) → i < length xs → f (get_or xs i Ready) ≡ false)
    → count_by f xs ≡ 0
none_of f xs none =
    let most =
    sum_by-le (λ x. cond (f x) 1 0) 0 xs
    (λ k d below.
    let same : cond {A = ℕ} (f (get_or xs k d)) 1 0 ≡ 0 =
    ap (λ x. cond (f x) 1 0) (get_or_default xs k d Ready below) ∙ ap (λ b. cond b 1 0) (none k below) in
    omega arith) in
    omega arith

pub not_counted : (f : State → Bool) (xs : List State) → count_by f xs ≡ 0 → (i : ℕ) → i < length xs
    → f (get_or xs i Ready) ≡ false
not_counted f xs none i there = by (f (get_or xs i Ready)) refl
  where
    by : (b : Bool) → f (get_or xs i Ready) ≡ b → b ≡ false
    by true e =
        let some = count_some f xs i there in
        let one : cond {A = ℕ} (f (get_or xs i Ready)) 1 0 ≡ 1 = ap (λ b. cond b 1 0) e in
        absurd (omega arith)
    by false e = refl

-- the test of the code
pub idle_is : (xs : List State) (going : ℕ) → going ≡ count_by goes xs → (nat_eq going 0 ≡ true) ↔ AreAllStopped xs
idle_is xs going counted = (
  λ is i there. not-false _ (not_counted goes xs (sym counted ∙ eqb-true going 0 is) i there),
  λ stopped. eq-eqb going 0 (counted ∙ none_of goes xs (λ i there. ap not (stopped i there))),
)
