-- A walk from a channel along the waits, from writer to writer, says whether the channel is complete. It makes at most
-- one step for each process: if it comes to a process for the second time, the processes that it passed wait for each
-- other on empty channels. Walks on machines and on views cite this.
use Rattle.kpn_history.proofs.Common.{◌≡◌, ◌↔◌, ◌⊎◌, ℕ, ◌+◌, ◌<◌, ◌≤◌, true, false, eqb, List, [], ◌∷◌, length, refl, sym, ap, ◌∙◌, subst, inl, inr, arith, Contains, cases_Bool, both_ways, eqb-true, ne_eqb, length-le_from_distinct_below, Contains-from_any, list_any-from_Contains, Process, Source, Empty, Tables, writer_of, Event, has_ended, is_closed, wait_of, PutsNoMore, StarvesAmong, AreFinished, IsFinished, IsComplete, Writes-writer_of, Contains-first, Contains-later, Contains-cases, Contains-none}
use Rattle.std.specs.List.{list_any, AllByRecursion, IsDistinct}
use Rattle.std.specs.Cmp.{nat_eq_equiv}
use Rattle.kpn_history.proofs.Finished.{StarvesAmong-later, finished_cases, finished_if_ended, finished_if_starved, complete-process, process-complete}

-- the processes that a walk has passed before it came to a channel: distinct ones, as many as its steps. Each waits as
-- empty on that channel, or on one that another of them writes or that is a closed source
pub record Passed (t : Tables) (H : List Event) (steps at : ℕ) : Type 0 where
  pub among : List ℕ
  pub count : length among ≡ steps
  pub distinct : IsDistinct eqb among
  pub there : (p : ℕ) → Contains among p → p < length t.instances
  pub each : (p : ℕ) → Contains among p → (wait_of t H p ≡ Empty at) ⊎ StarvesAmong t H among p

-- a walk has come from one channel to another in this many steps: the one is complete if and only if the other is
pub record Walked (t : Tables) (H : List Event) (from steps at : ℕ) : Type 0 where
  pub same : IsComplete t H from ↔ IsComplete t H at
  pub passed : IsComplete t H at ⊎ Passed t H steps at

-- a number is among these or not
among_or_not : (p : ℕ) (among : List ℕ) → Contains among p ⊎ (Contains among p → ⊥)
among_or_not p among =
    elim (cases_Bool (list_any (eqb p) among)) [
      | inl is ↦ inl (Contains-from_any {eq = eqb} eqb-true p among is)
      | inr none ↦ inr (λ h. both_ways _ none (list_any-from_Contains nat_eq_equiv p among h))
    ]

-- one number more
others_differ : (p : ℕ) (among : List ℕ) → (Contains among p → ⊥) → AllByRecursion (λ q. eqb p q ≡ false) among
others_differ p [] fresh = tt
others_differ p (q ∷ among) fresh = (
  ne_eqb p q (λ e. fresh (subst (λ r. Contains (q ∷ among) r) (sym e) (Contains-first q among))),
  others_differ p among (λ h. fresh (Contains-later q among p h)),
)

none_distinct : IsDistinct eqb []
unfolding IsDistinct
none_distinct = tt

distinct_more : (p : ℕ) (among : List ℕ) → (Contains among p → ⊥) → IsDistinct eqb among → IsDistinct eqb (p ∷ among)
unfolding IsDistinct
distinct_more p among fresh distinct = (others_differ p among fresh, distinct)

module _ (t : Tables) (H : List Event) where
  pub walk_starts : (c : ℕ) → Walked t H c 0 c
  walk_starts c =
      record {
        same = (λ h. h, λ h. h);
        passed = inr (record {
          among = [];
          count = refl;
          distinct = none_distinct;
          there = λ p m. absurd (Contains-none p m);
          each = λ p m. absurd (Contains-none p m);
        });
      }

  -- ---- where a walk ends

  pub complete_source : (c : ℕ) → writer_of t c ≡ Source → IsComplete t H c ↔ (is_closed H c ≡ true)
  complete_source c w = (
    λ h. subst (PutsNoMore (IsFinished t H) H c) w h,
    λ h. subst (PutsNoMore (IsFinished t H) H c) (sym w) h,
  )

  pub complete_if_ended : (c p : ℕ) → writer_of t c ≡ Process p → has_ended H p ≡ true → IsComplete t H c
  complete_if_ended c p w ended = process-complete t H c p w (finished_if_ended t H p ended)

  -- the writer of a complete channel has ended or waits on an empty one
  pub incomplete_if_neither : (c p : ℕ) → writer_of t c ≡ Process p → has_ended H p ≡ false
      → ((d : ℕ) → wait_of t H p ≡ Empty d → ⊥) → IsComplete t H c → ⊥
  incomplete_if_neither c p w lives other h =
      elim (finished_cases t H p (complete-process t H c p w h)) [
        | inl ended ↦ both_ways (has_ended H p) lives ended
        | inr s ↦ other s.channel s.waits
      ]

  -- ---- one step

  -- the writer was passed before: all that were passed are finished
  again : (at p : ℕ) → writer_of t at ≡ Process p → (steps : ℕ) (h : Passed t H steps at) → Contains h.among p
      → IsComplete t H at
  again at p writer steps h member =
      process-complete t H at p writer
      (record {
        among = h.among;
        member = member;
        all = record {
          each = λ q m. elim (h.each q m) [
            | inl here ↦ inr (record {
              channel = at;
              waits = here;
              no_more = subst (PutsNoMore (Contains h.among) H at) (sym writer) member;
            })
            | inr s ↦ inr s
          ];
        };
      })

  module _ (at p next : ℕ) (writer : writer_of t at ≡ Process p) (lives : has_ended H p ≡ false)
      (waits : wait_of t H p ≡ Empty next) where
    onward : IsComplete t H at ↔ IsComplete t H next
    onward = (
      λ h. elim (finished_cases t H p (complete-process t H at p writer h)) [
        | inl ended ↦ absurd (both_ways (has_ended H p) lives ended)
        | inr s ↦
            let e : Empty s.channel ≡ Empty next = sym s.waits ∙ waits in
            let same : s.channel ≡ next = cc in
            subst (IsComplete t H) same s.complete
      ],
      λ h. process-complete t H at p writer (finished_if_starved t H p next waits h),
    )

    -- the writer is a new one
    one_more : (steps : ℕ) (h : Passed t H steps at) → (Contains h.among p → ⊥) → Passed t H (steps + 1) next
    one_more steps h fresh =
        record {
          among = p ∷ h.among;
          count = let e = h.count in omega arith;
          distinct = distinct_more p h.among fresh h.distinct;
          there = λ q m. elim (Contains-cases p h.among q m) [
            | inl same ↦
                let writes = Writes-writer_of t p at writer in
                subst (λ r. r < length t.instances) same writes.process
            | inr later ↦ h.there q later
          ];
          each = λ q m. elim (Contains-cases p h.among q m) [
            | inl same ↦ inl (subst (λ r. wait_of t H r ≡ Empty next) same waits)
            | inr later ↦ inr (elim (h.each q later) [
              | inl here ↦ record {
                channel = at;
                waits = here;
                no_more = subst (PutsNoMore (Contains (p ∷ h.among)) H at) (sym writer) (Contains-first p h.among);
              }
              | inr s ↦ StarvesAmong-later t H p q h.among s
            ])
          ];
        }

    pub walk_more : (from steps : ℕ) → Walked t H from steps at → Walked t H from (steps + 1) next
    walk_more from steps walk =
        record {
          same = (λ h. onward.0 (walk.same.0 h), λ h. walk.same.1 (onward.1 h));
          passed = elim walk.passed [
            | inl complete ↦ inl (onward.0 complete)
            | inr h ↦ elim (among_or_not p h.among) [
              | inl member ↦ inl (onward.0 (again at p writer steps h member))
              | inr fresh ↦ inr (one_more steps h fresh)
            ]
          ];
        }

  -- a walk that has passed as many processes as there are has come to one that it passed before
  pub walk_long : (from steps at p : ℕ) → Walked t H from steps at → writer_of t at ≡ Process p
      → length t.instances ≤ steps → IsComplete t H at
  walk_long from steps at p walk writer long =
      elim walk.passed [
        | inl complete ↦ complete
        | inr h ↦ elim (among_or_not p h.among) [
          | inl member ↦ again at p writer steps h member
          | inr fresh ↦ absurd (too_many h fresh)
        ]
      ]
    where
      too_many : (h : Passed t H steps at) → (Contains h.among p → ⊥) → ⊥
      too_many h fresh =
          let writes = Writes-writer_of t p at writer in
          let there : (q : ℕ) → list_any (eqb q) (p ∷ h.among) ≡ true → q < length t.instances =
          λ q is. elim (Contains-cases p h.among q (Contains-from_any {eq = eqb} eqb-true q (p ∷ h.among) is)) [
            | inl same ↦ subst (λ r. r < length t.instances) same writes.process
            | inr later ↦ h.there q later
          ] in
          let short : length (p ∷ h.among) ≤ length t.instances =
          length-le_from_distinct_below (p ∷ h.among) (length t.instances)
          (distinct_more p h.among fresh h.distinct) there in
          let count = h.count in
          omega arith
