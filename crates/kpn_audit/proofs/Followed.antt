-- What holds once an event was made, and once a process was stepped.
use Rattle.kpn_audit.proofs.Common.{◌≡◌, ◌≢◌, ℕ, ◌+◌, ◌<◌, true, false, eqb, List, [], ◌∷◌, ◌++◌, length, Option, Some, None, refl, sym, ap, ◌∙◌, subst, inl, inr, IfSome, Tables, program_of, IsNetwork, Stop, Frame, Steps, Steps-append, Event, Get, Put, WaitEmpty, WaitFull, Ended, is_of, waiter, OwesStopGrowth, Legal, OwesNothing, OwesNoCycleGrowth, OwesNoStopGrowth, lets_go_on, no_cycle_owed_after, IsFrameAfter, Machine, end_in, wait_in, frame_in, with_frame, IsFree, IsRun, OwedGrowth, Judged, IsStopped, AllGoBy, Owes, IsMade, IsMoved, IsJudged}
use Rattle.std.proofs.lemmas.Bool.{eqb-true, eq-eqb, both_ways, false≢true}
use Rattle.kpn_history.proofs.OwedGrowth.{no_stop_owed_after}
use Rattle.kpn_machine.specs.Owed.{IsOwedAtStop, IsAwaitedBelowLimit}
use Rattle.kpn_audit.specs.declared.judged.Judged.TheVariants.{Follows, Illegal, Budget}

-- ---- frames

-- an event of another leaves a frame as it was
kept : (t : Tables) (e : Event) (q : ℕ) (f g : Frame) → is_of q e ≡ false → IsFrameAfter t e q f g → g ≡ f
kept t (Get r c v) q f g differs after = after.1 (λ same. both_ways (eqb r q) differs (eq-eqb r q same))
kept t (Put r c v) q f g differs after = after.1 (λ same. both_ways (eqb r q) differs (eq-eqb r q same))
kept t e q f g differs after = after

-- an event is of one process
one_process : (e : Event) (q p : ℕ) → is_of q e ≡ true → is_of p e ≡ true → q ≡ p
one_process (Get r c v) q p a b = sym (eqb-true r q a) ∙ eqb-true r p b
one_process (Put r c v) q p a b = sym (eqb-true r q a) ∙ eqb-true r p b
one_process (WaitEmpty r c) q p a b = sym (eqb-true r q a) ∙ eqb-true r p b
one_process (WaitFull r c) q p a b = sym (eqb-true r q a) ∙ eqb-true r p b
one_process (Ended r how) q p a b = sym (eqb-true r q a) ∙ eqb-true r p b
one_process e q p a b = absurd (false≢true a)

-- an event, made where its process has come to a stop
pub goes_by : (t : Tables) (before after : Machine) (e : Event) (stop : Stop)
    → ((p : ℕ) → is_of p e ≡ true → IsStopped t before p stop)
    → ((q : ℕ) → q < length t.instances → IsFrameAfter t e q (frame_in before q) (frame_in after q))
    → AllGoBy t e before after
goes_by t before after e stop stopped frames q below =
    record {
      own = λ same.
          let at = stopped q same in
          record {
            steps = 0;
            there = frame_in before q;
            comes = record {
              reached = refl;
              stop = stop;
              stands = at.stands.stands;
              is_no_pause = at.stands.is_no_pause;
              ends = at.ends;
            };
            passes = frames q below;
          };
      other = λ differs. kept t e q (frame_in before q) (frame_in after q) differs (frames q below);
    }

-- ---- events

-- what is owed for neither a cycle nor a stop is not owed
pub nothing_owed : (t : Tables) (H : List Event) → OwesNoCycleGrowth t H → OwesNoStopGrowth t H → OwesNothing t H
nothing_owed t H cycle stop p d (inl owed) = cycle p d owed
nothing_owed t H cycle stop p d (inr owed) = stop p d owed

-- an event that is no wait makes no process wait
pub no_waiter : (e : Event) → ((p c : ℕ) → e ≢ WaitEmpty p c) → ((p c : ℕ) → e ≢ WaitFull p c) → waiter e ≡ None
no_waiter (WaitEmpty p c) empty full = absurd (empty p c refl)
no_waiter (WaitFull p c) empty full = absurd (full p c refl)
no_waiter e empty full = refl

-- after an event that moves an item, or a growth, nothing is owed
pub owes_nothing_after : (t : Tables) → IsNetwork t → (H : List Event) (e : Event) → waiter e ≡ None
    → lets_go_on e ≡ true → Legal t (H ++ e ∷ []) → OwesNothing t (H ++ e ∷ [])
owes_nothing_after t network H e none on legal =
    nothing_owed t (H ++ e ∷ []) (no_cycle_owed_after t H e none) (no_stop_owed_after t network H e legal on)

-- where none is owed for a cycle, what is found at a stop is owed
pub owes_at_stop : (t : Tables) (H : List Event) (s : Machine) (found : Option OwedGrowth) → IsRun t H s
    → OwesNoCycleGrowth t H → IfSome found (λ owed. IsOwedAtStop t s owed.process owed.channel)
    → ((G : List Event) → IsRun t G s → OwesNoCycleGrowth t G
    → IfSome found (λ owed. OwesStopGrowth t G owed.process owed.channel))
    → ((G : List Event) → IsRun t G s → found ≡ None → OwesNoStopGrowth t G)
    → IfSome found (λ owed. IsAwaitedBelowLimit t s owed.channel) → Owes t H s found
owes_at_stop t H s None run cycle now growth nothing awaited = nothing_owed t H cycle (nothing H run refl)
owes_at_stop t H s (Some owed) run cycle now growth nothing awaited =
    record { there = now.there; now = awaited; owed = inr (growth H run cycle) }

-- a step of a process leaves it free
pub stays_free : (s after : Machine) (p : ℕ) (f : Frame) → after ≡ with_frame p f s → IsFree s p → IsFree after p
stays_free s after p f e free =
    record { lives = ap (λ x. end_in x p) e ∙ free.lives; free = ap (λ x. wait_in x p) e ∙ free.free }

-- ---- what was found

pub judged_if_made : (t : Tables) (H : List Event) (e : Event) (quota : ℕ) (before after : Machine) (j : Judged)
    → IsMade t H e before after j → IsJudged t H e quota before after j
judged_if_made t H e quota before after (Follows owed) made = made
judged_if_made t H e quota before after Illegal made = made
judged_if_made t H e quota before after Budget made = absurd made

-- the steps to the stop, and then the event
module _ (t : Tables) (H : List Event) (e : Event) (p : ℕ) (own : is_of p e ≡ true)
    (before middle after : Machine) (moved : IsMoved t p before middle) where
  go_on : AllGoBy t e middle after → AllGoBy t e before after
  go_on goes q below =
      record {
        own = λ same.
            let is : q ≡ p = one_process e q p same own in
            let makes = (goes q below).own same in
            record {
              steps = moved.steps + makes.steps;
              there = makes.there;
              comes = record {
                reached =
                    Steps-append (program_of t q).blocks moved.steps makes.steps (frame_in before q)
                    (frame_in middle q) makes.there
                    (subst (λ x. Steps (program_of t x).blocks moved.steps (frame_in before x) (frame_in middle x))
                    (sym is) moved.reached)
                    makes.comes.reached;
                stop = makes.comes.stop;
                stands = makes.comes.stands;
                is_no_pause = makes.comes.is_no_pause;
                ends = makes.comes.ends;
              };
              passes = makes.passes;
            };
        other = λ differs.
            (goes q below).other differs
            ∙ moved.others q
            (λ same. both_ways (is_of p e) (subst (λ x. is_of x e ≡ false) same differs) own);
      }

  pub made_after_steps : (j : Judged) → IsMade t H e middle after j → IsMade t H e before after j
  made_after_steps (Follows owed) made =
      record { run = made.run; owes = made.owes; goes = go_on made.goes }
  made_after_steps Illegal made = made
  made_after_steps Budget made = made
