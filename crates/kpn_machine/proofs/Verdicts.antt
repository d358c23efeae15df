-- The code's tests of each process and each channel decide whether a moment is quiet or settled, and the verdict.
use Rattle.std.proofs.Common.{◌≡◌, ◌↔◌, ℕ, ◌+◌, ◌<◌, Bool, true, false, not, ◌||◌, ◌&&◌, cond, IsTrue, ℤ, List, [], ◌∷◌, length, slice_get, Option, Some, None, is_some, refl, sym, ap, ◌∙◌, subst, inl, inr, ◌⊎◌, arith}
use Rattle.kpn_machine.proofs.Common.{cases_lt, both_ways, Wait, Found, ChannelSpec, Tables, channel_at, is_source, is_sink, full_channels, Finds, IsSmallestOfCycle, Contains-first, cycle_below, smallest_among, finding_unique, unread, next_item, cap_in, How, Verdict, Machine, channel_in, closed_in, wait_in, end_in, capacities, is_empty_wait, IsQuietNow, IsOutsideDone, HasFullCycleNow, IsVerdictNow, is_quiet_at, awaits_outside}
use Rattle.kpn_net.specs.declared.wait.Wait.TheVariants.{Nobody, Empty, Full}
use Rattle.kpn_net.specs.declared.found.Found.TheVariants as found
use Rattle.kpn_net.specs.declared.tables.ChannelSpec.TheVariants as channel
use Rattle.kpn_history.specs.declared.state.Verdict.TheVariants.{Ended, Clogged, Jammed}

-- ---- answers of tests

pub holds : {P : Type 0} → P → IsTrue true ↔ P
holds p = (λ t. p, λ q. refl)

pub fails : {P : Type 0} → (P → ⊥) → IsTrue false ↔ P
fails none = (λ f. absurd cc, λ p. absurd (none p))

-- one number more
pub below_more : (P : ℕ → Type 0) (n : ℕ) → ((m : ℕ) → m < n → P m) → P n → (m : ℕ) → m < n + 1 → P m
below_more P n before here m below =
    elim (cases_lt m n) [
      | inl less ↦ before m less
      | inr more ↦ let same : n ≡ m = omega arith in subst P same here
    ]

-- ---- one process

quiet_if : (end : Option How) (wait : Wait) → (is_some end || is_empty_wait wait) ≡ true
    → ((how : How) × (end ≡ Some how)) ⊎ ((c : ℕ) × (wait ≡ Empty c))
quiet_if (Some how) wait h = inl (how, refl)
quiet_if None Nobody h = absurd cc
quiet_if None (Empty c) h = inr (c, refl)
quiet_if None (Full c) h = absurd cc

not_quiet : (end : Option How) (wait : Wait) → (is_some end || is_empty_wait wait) ≡ false
    → ((how : How) × (end ≡ Some how)) ⊎ ((c : ℕ) × (wait ≡ Empty c)) → ⊥
not_quiet (Some how) wait h either = absurd cc
not_quiet None (Empty c) h either = absurd cc
not_quiet None Nobody h either = elim either [ inl e ↦ let is = e.1 in absurd cc | inr w ↦ let is = w.1 in absurd cc ]
not_quiet None (Full c) h either = elim either [ inl e ↦ let is = e.1 in absurd cc | inr w ↦ let is = w.1 in absurd cc ]

-- ---- one channel

no_item : (gone : Bool) (items : List ℤ) → is_some (cond gone None (slice_get items 0)) ≡ false
    → (items ≡ []) ⊎ (gone ≡ true)
no_item true items h = inr refl
no_item false [] h = inl refl
no_item false (x ∷ xs) h = absurd cc

item_there : (gone : Bool) (items : List ℤ) → is_some (cond gone None (slice_get items 0)) ≡ true
    → (items ≡ []) ⊎ (gone ≡ true) → ⊥
item_there true items h either = absurd cc
item_there false [] h either = absurd cc
item_there false (x ∷ xs) h either = elim either [ inl e ↦ absurd cc | inr e ↦ absurd cc ]

closed_if : (source closed rest : Bool) → cond source (not closed) rest ≡ false → source ≡ true → closed ≡ true
closed_if true true rest h e = refl
closed_if true false rest h e = absurd cc
closed_if false closed rest h e = absurd cc

sink_no_source : (ch : ChannelSpec) → is_sink ch ≡ true → is_source ch ≡ false
sink_no_source (channel.Inner cap) h = absurd cc
sink_no_source channel.Source h = absurd cc
sink_no_source (channel.Sink cap) h = refl

both_true : (a b : Bool) → (a && b) ≡ true → (a ≡ true) × (b ≡ true)
both_true true true h = (refl, refl)
both_true true false h = absurd cc
both_true false b h = absurd cc

module _ (t : Tables) (s : Machine) where
  sink_done : (c : ℕ) → awaits_outside t s c ≡ false → is_sink (channel_at t c) ≡ true
      → (unread (channel_in s c) ≡ []) ⊎ ((channel_in s c).is_retired ≡ true)
  sink_done c h sink =
      let item : is_some (next_item (channel_in s c)) ≡ false =
      sym
      (ap (λ b. cond b (not (closed_in s c)) (is_sink (channel_at t c) && is_some (next_item (channel_in s c))))
      (sink_no_source (channel_at t c) sink)
      ∙ ap (λ b. b && is_some (next_item (channel_in s c))) sink) ∙ h in
      no_item (channel_in s c).is_retired (unread (channel_in s c)) item

  still_awaited : (c : ℕ) → c < length t.channels → awaits_outside t s c ≡ true → IsOutsideDone t s → ⊥
  still_awaited c below h done = by_kind (is_source (channel_at t c)) refl
    where
      by_kind : (b : Bool) → is_source (channel_at t c) ≡ b → ⊥
      by_kind true is =
          let unshut : not (closed_in s c) ≡ true =
          sym (ap
          (λ b. cond b (not (closed_in s c)) (is_sink (channel_at t c) && is_some (next_item (channel_in s c)))) is)
          ∙ h in
          let shut : not (closed_in s c) ≡ false = ap not (done.sources c below is) in
          both_ways _ shut unshut
      by_kind false is =
          let two =
          both_true (is_sink (channel_at t c)) (is_some (next_item (channel_in s c)))
          (sym (ap
          (λ b. cond b (not (closed_in s c)) (is_sink (channel_at t c) && is_some (next_item (channel_in s c)))) is)
          ∙ h) in
          item_there (channel_in s c).is_retired (unread (channel_in s c)) two.1
          (done.sinks c below two.0)

  -- ---- the answers of the loops

  pub quiet_yes : ((p : ℕ) → p < length t.instances → is_quiet_at s p ≡ true) → IsTrue true ↔ IsQuietNow t s
  quiet_yes all = holds (record { each = λ p there. quiet_if (end_in s p) (wait_in s p) (all p there) })

  pub quiet_no : (p : ℕ) → p < length t.instances → is_quiet_at s p ≡ false → IsTrue false ↔ IsQuietNow t s
  quiet_no p there h = fails (λ quiet. not_quiet (end_in s p) (wait_in s p) h (quiet.each p there))

  pub outside_yes : ((c : ℕ) → c < length t.channels → awaits_outside t s c ≡ false)
      → IsTrue true ↔ IsOutsideDone t s
  outside_yes all =
      holds
      (record {
        sources = λ c below source. closed_if (is_source (channel_at t c)) (closed_in s c) _ (all c below) source;
        sinks = λ c below sink. sink_done c (all c below) sink;
      })

  pub outside_no : (c : ℕ) → c < length t.channels → awaits_outside t s c ≡ true → IsTrue false ↔ IsOutsideDone t s
  outside_no c below h = fails (still_awaited c below h)

  pub no_full_more : (p : ℕ) (f : Found)
      → ((q d : ℕ) → q < p → ¬ IsSmallestOfCycle t s.waits (cap_in (capacities s)) q d)
      → Finds t s.waits (cap_in (capacities s)) p f → ((d : ℕ) → f ≡ found.Full d → ⊥) → (q d : ℕ) → q < p + 1
      → ¬ IsSmallestOfCycle t s.waits (cap_in (capacities s)) q d
  no_full_more p f before finds none q d below =
      below_more (λ x. ¬ IsSmallestOfCycle t s.waits (cap_in (capacities s)) x d) p (λ x less. before x d less)
      (λ h. none d (finding_unique t s.waits (cap_in (capacities s)) p f (found.Full d) finds h)) q below

  pub full_cycle_no : ((p d : ℕ) → p < length t.instances
      → ¬ IsSmallestOfCycle t s.waits (cap_in (capacities s)) p d) → IsTrue false ↔ HasFullCycleNow t s
  full_cycle_no none =
      fails
      (λ h.
      let least =
      smallest_among (cap_in (capacities s)) (full_channels s.waits (h.process ∷ h.others)) h.channel h.full in
      none h.process least.channel
      (cycle_below t s.waits h.process h.others h.cycle h.process (Contains-first h.process h.others))
      (record { others = h.others; cycle = h.cycle; smallest = least.is }))

  -- there is one verdict
  pub one_verdict : (v w : Option Verdict) → IsVerdictNow t s v → IsVerdictNow t s w → v ≡ w
  one_verdict None None h k = refl
  one_verdict None (Some Jammed) h k = absurd (h k.0)
  one_verdict None (Some Clogged) h k = absurd (h k.0)
  one_verdict None (Some Ended) h k = absurd (h k.0)
  one_verdict (Some Jammed) None h k = absurd (k h.0)
  one_verdict (Some Jammed) (Some Jammed) h k = refl
  one_verdict (Some Jammed) (Some Clogged) h k = absurd (k.1 h.1)
  one_verdict (Some Jammed) (Some Ended) h k = absurd (k.1 h.1)
  one_verdict (Some Clogged) None h k = absurd (k h.0)
  one_verdict (Some Clogged) (Some Jammed) h k = absurd (h.1 k.1)
  one_verdict (Some Clogged) (Some Clogged) h k = refl
  one_verdict (Some Clogged) (Some Ended) h k = absurd (k.2 h.2)
  one_verdict (Some Ended) None h k = absurd (k h.0)
  one_verdict (Some Ended) (Some Jammed) h k = absurd (h.1 k.1)
  one_verdict (Some Ended) (Some Clogged) h k = absurd (h.2 k.2)
  one_verdict (Some Ended) (Some Ended) h k = refl

  pub verdict_exactly : (v : Option Verdict) → IsVerdictNow t s v → (w : Option Verdict)
      → (v ≡ w) ↔ IsVerdictNow t s w
  verdict_exactly v h w = (λ e. subst (IsVerdictNow t s) e h, λ k. one_verdict v w h k)
