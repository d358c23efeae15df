-- The history that a stored trace gives, one event after another.
use Rattle.kpn_audit.proofs.Common.{◌≡◌, ℕ, zero, suc, ◌+◌, ◌^◌, ◌<◌, Bool, true, false, List, [], ◌∷◌, ◌++◌, length, take, get_or, Some, refl, sym, ap, ap₂, subst, ◌∙◌, append-nil, append_assoc, arith, nat_lt, if◌then◌else◌, ltb-true, Tables, IsNetwork, Event, Version, One, Two, capacity_after, Machine, channel_in, IsRun, AuditFault, IsFault, IsRefusal, Differs, audited_under, told, told_behind, history_of, tables_for, history_in, told_in, told_capacity, one_larger}
use Rattle.kpn_net.specs.declared.tables.Policy.{Policy}
use Rattle.kpn_net.specs.declared.tables.Policy.TheVariants.{Cycles}
use Rattle.kpn_net.specs.declared.tables.Growth.{Growth}
use Rattle.kpn_net.specs.declared.tables.Growth.TheVariants as growth
use Rattle.kpn_net.proofs.Networks.{limit_in_range}
use Rattle.kpn_history.specs.declared.stored.Trace.{Trace}
use Rattle.kpn_history.proofs.Capacities.{in_limit}
use Rattle.kpn_audit.specs.declared.findings.AuditFault.TheVariants.{Illegal, NoMemory, Budget, PolicyDiffers}

-- ---- as many events as stand there

told_behind-length : (t : Tables) (B events : List Event) → length (told_behind t B events) ≡ length events
told_behind-length t B [] = refl
told_behind-length t B (e ∷ events) = ap suc (told_behind-length t (B ++ told t B e ∷ []) events)

pub history_of-length : (v : Version) (t : Tables) (events : List Event)
    → length (history_of v t events) ≡ length events
history_of-length One t events = told_behind-length t [] events
history_of-length Two t events = refl

-- ---- the event at a place

told_behind-at : (t : Tables) (B events : List Event) (k : ℕ) (d : Event) → k < length events
    → get_or (told_behind t B events) k d ≡ told t (B ++ take k (told_behind t B events)) (get_or events k d)
told_behind-at t B [] k d below = absurd (omega arith)
told_behind-at t B (e ∷ events) zero d below = ap (λ H. told t H e) (sym (append-nil B))
told_behind-at t B (e ∷ events) (suc k) d below =
    told_behind-at t (B ++ told t B e ∷ []) events k d (omega arith)
    ∙ ap (λ H. told t H (get_or events k d))
    (append_assoc B (told t B e ∷ []) (take k (told_behind t (B ++ told t B e ∷ []) events)))

told_at : (v : Version) (t : Tables) (events : List Event) (k : ℕ) (d : Event) → k < length events
    → get_or (history_of v t events) k d ≡ told_in v t (take k (history_of v t events)) (get_or events k d)
told_at One t events k d below = told_behind-at t [] events k d below
told_at Two t events k d below = refl

-- what the event at a place gives is the event of the history there
pub told_there : (v : Version) (t : Tables) (events : List Event) (k : ℕ) (d e : Event) → k < length events
    → e ≡ told_in v t (take k (history_of v t events)) (get_or events k d) → e ≡ get_or (history_of v t events) k d
told_there v t events k d e below is = is ∙ sym (told_at v t events k d below)

pub is_there : (v : Version) (t : Tables) (events : List Event) (k : ℕ) → k < length events
    → k < length (history_of v t events)
is_there v t events k below = let same = history_of-length v t events in omega (arith, below, same)

-- ---- the capacity that a growth names

-- one more than a capacity is a number of the machine
pub has_room : (t : Tables) → IsNetwork t → (H : List Event) (s : Machine) → IsRun t H s → (c cap : ℕ)
    → c < length t.channels → (channel_in s c).capacity ≡ Some cap → cap + 1 < 2 ^ 32
has_room t network H s run c cap there is =
    let within = ((in_limit t network H run.legal).each c cap there
    (sym (run.leads.channels c there).capacity ∙ is)).1 in
    let most = (limit_in_range t network).1 in
    omega (arith, within, most)

-- the machine shows the capacity of the history
pub same_capacity : (t : Tables) (H : List Event) (s : Machine) → IsRun t H s → (c n : ℕ)
    → told_capacity t (channel_in s c).capacity c n ≡ told_capacity t (capacity_after t H c) c n
same_capacity t H s run c n = by_test (nat_lt c (length t.channels)) refl
  where
    by_test : (b : Bool) → nat_lt c (length t.channels) ≡ b
        → (if b then one_larger (channel_in s c).capacity n else n)
        ≡ (if b then one_larger (capacity_after t H c) n else n)
    by_test true is = ap (λ o. one_larger o n) (run.leads.channels c (ltb-true c (length t.channels) is)).capacity
    by_test false is = refl

-- ---- a trace and its events

-- what holds of the events under these tables holds of the trace
pub of_trace : {A : Type 0} (t : Tables) (trace : Trace A) (v : Version) → trace.version ≡ v → (n : Tables)
    → n ≡ audited_under v t → (events : List Event) → events ≡ trace.events → (P : Tables → List Event → Type 0)
    → P n (history_of v n events) → P (tables_for t trace) (history_in t trace)
of_trace t trace v is n of events are P holds =
    subst (λ w. P (audited_under w t) (history_of w (audited_under w t) trace.events)) (sym is)
    (subst (λ m. P m (history_of v m trace.events)) of (subst (λ es. P n (history_of v n es)) are holds))

-- a trace of version 1 differs from no network
pub one_agrees : {A : Type 0} (t : Tables) (trace : Trace A) → trace.version ≡ One → Differs t trace → ⊥
one_agrees t trace is differs = let clash : ◌≡◌ {A = Version} One Two = sym is ∙ differs.version in absurd cc

-- a network of the old rules is audited as it is
pub plain_tables : (t : Tables) → Cycles ≡ t.policy → growth.One ≡ t.growth → t ≡ audited_under One t
plain_tables t policy growth =
    ap₂ (λ (p : Policy) (g : Growth). record t { policy = p; growth = g }) (sym policy) (sym growth)

-- a fault of the events refuses a trace that does not differ
pub refuses_trace : {A : Type 0} (t : Tables) (trace : Trace A) (quota : ℕ) → ¬ Differs t trace → (fault : AuditFault)
    → IsFault (tables_for t trace) (history_in t trace) quota fault → IsRefusal t trace quota fault
refuses_trace t trace quota agrees (Illegal k) at = (agrees, at)
refuses_trace t trace quota agrees NoMemory at = (agrees, at)
refuses_trace t trace quota agrees (Budget k) at = (agrees, at)
refuses_trace t trace quota agrees PolicyDiffers at = absurd at
