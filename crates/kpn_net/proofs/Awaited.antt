-- The channels on which processes of a wait table wait as full. Each such process has its channel among them, and a
-- process waits on each of them.
use Rattle.kpn_net.proofs.Common.{Contains, cons_option, filter_map, range_with_len, ◌≡◌, ℕ, suc, zero, ◌+◌, ◌<◌, ◌≤◌, List, length, Option, Some, None, sym, subst, inl, inr, arith, cases_lt, Wait, Tables, wait_at, full_channel, awaited_as_full}
use Rattle.kpn_net.proofs.Cycles.{Contains-first, Contains-later, Contains-cases, Contains-none, full_at}

-- a number from a on, n numbers in all
pub in_range : (a n p : ℕ) → Contains (range_with_len a n) p → (a ≤ p) × (p < a + n)
in_range a zero p h = absurd (Contains-none p h)
in_range a (suc n) p h =
    elim (Contains-cases a (range_with_len (a + 1) n) p h) [
      | inl same ↦ (omega arith, omega arith)
      | inr later ↦ let b = in_range (a + 1) n p later in let low = b.0 in let high = b.1 in (omega arith, omega arith)
    ]

-- what comes of a number is among what comes of all
given_among : (f : ℕ → Option ℕ) (a n p c : ℕ) → a ≤ p → p < a + n → f p ≡ Some c
    → Contains (filter_map f (range_with_len a n)) c
given_among f a zero p c low high is = absurd (omega arith)
given_among f a (suc n) p c low high is =
    elim (cases_lt a p) [
      | inl less ↦ behind (f a) (given_among f (a + 1) n p c (omega arith) (omega arith) is)
      | inr here ↦
          let same : p ≡ a = omega arith in
          subst (λ o. Contains (cons_option o (filter_map f (range_with_len (a + 1) n))) c)
          (sym (subst (λ q. f q ≡ Some c) same is)) (Contains-first c (filter_map f (range_with_len (a + 1) n)))
    ]
  where
    behind : (o : Option ℕ) → Contains (filter_map f (range_with_len (a + 1) n)) c
        → Contains (cons_option o (filter_map f (range_with_len (a + 1) n))) c
    behind None h = h
    behind (Some d) h = Contains-later d (filter_map f (range_with_len (a + 1) n)) c h

pub awaited_among : (t : Tables) (waits : List Wait) (p c : ℕ) → p < length t.instances
    → full_channel (wait_at waits p) ≡ Some c → Contains (awaited_as_full t waits) c
awaited_among t waits p c below is =
    given_among (λ q. full_channel (wait_at waits q)) 0 (length t.instances) p c (omega arith) (omega arith) is

-- a process that waits on a channel as full
pub record IsAwaitedBy (t : Tables) (waits : List Wait) (c : ℕ) : Type 0 where
  pub process : ℕ
  pub there : process < length t.instances
  pub full : full_channel (wait_at waits process) ≡ Some c

pub awaited_by : (t : Tables) (waits : List Wait) (c : ℕ) → Contains (awaited_as_full t waits) c
    → IsAwaitedBy t waits c
awaited_by t waits c h =
    let at = full_at waits (range_with_len 0 (length t.instances)) c h in
    let bounds = in_range 0 (length t.instances) at.member at.among in
    let high = bounds.1 in
    record { process = at.member; there = omega arith; full = at.full }
