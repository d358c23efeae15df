-- A process on its way through whole lists: what it did so far, and that it comes to an end.
use Rattle.kpn_step.proofs.Common.{◌≡◌, ℕ, zero, suc, ◌+◌, ◌-◌, ◌*◌, ◌<◌, ◌≤◌, ℤ, nat_eq, List, [], ◌∷◌, ◌++◌, length, IsTrue, ap, subst, ◌∙◌, arith, sum_by, nat_tests, sum_by-cons, slice_get_within, Said, Got, Put, Statement, Read, block_at, Lists, Parts, IsProgram, Stop, AloneStop, Frame, start_frame, fits, step_of, Steps, StandsAt, stop_at, Speaks, Walks, AloneGives, Walked, remaining, EndsAs}
use Rattle.kpn_step.specs.declared.stop.AloneStop.TheVariants.{Done, Faulted, Starved, Paused}
use Rattle.kpn_step.proofs.MayStep.{write_within}
use Rattle.kpn_step.proofs.Stands.{StandsAt-stop_at}
use Rattle.kpn_step.proofs.Walked.{Walks-steps, Walks-said, fits-alone, AloneGives-done, AloneGives-faulted, AloneGives-starved, AloneGives-paused}

-- the way from the start: the process made some of the steps, said this, and took this
pub record Along (parts : Parts) (pars : List ℤ) (lists : Lists) (quota left : ℕ) (talk : List Said) (f : Frame)
    (taken : List ℕ) : Type 0 where
  pub steps : ℕ
  pub counted : steps + left ≡ quota
  pub walk : Walks parts.blocks steps (start_frame parts pars) lists talk f (remaining lists taken)
  pub ports : length taken ≡ length lists

module _ (parts : Parts) (program : IsProgram parts) (pars : List ℤ) (lists : Lists) (given : length pars ≡ parts.pars)
    (quota left : ℕ) (talk : List Said) (f : Frame) (taken : List ℕ)
    (along : Along parts pars lists quota left talk f taken) where
  pub Along-fits : IsTrue (fits parts f)
  Along-fits = fits-alone parts program pars lists along.steps talk f (remaining lists taken) given along.walk

  module _ (steps : ℕ) (stop : Stop) (g : Frame) (walked : Walked parts.blocks left f steps stop g) where
    pub Along-stands : StandsAt parts.blocks g stop
    Along-stands = rw walked.stop_is (StandsAt-stop_at parts.blocks g (nat_eq steps left))

    abbrev pub Along-steps : Along parts pars lists quota (left - steps) talk g taken
    Along-steps =
        record {
          steps = along.steps + steps;
          counted = omega (arith, along.counted, walked.most);
          walk = Walks-steps parts.blocks along.steps steps (start_frame parts pars) f g lists
              (remaining lists taken) talk along.walk walked.stepped;
          ports = along.ports;
        }

    -- after one thing said
    pub Along-said : (said : Said) (h : Frame) (after : List ℕ) →
        Speaks parts.blocks g (remaining lists taken) said h (remaining lists after) → length after ≡ length taken →
        Along parts pars lists quota (left - steps) (talk ++ said ∷ []) h after
    Along-said said h after speaks ports =
        record {
          steps = Along-steps.steps;
          counted = Along-steps.counted;
          walk = Walks-said parts.blocks Along-steps.steps (start_frame parts pars) g h lists (remaining lists taken)
              (remaining lists after) talk said Along-steps.walk speaks;
          ports = ports ∙ along.ports;
        }

    -- if it says nothing more
    most : Along-steps.steps ≤ quota
    most = omega (arith, along.counted, walked.most)

    -- the steps of this walk use up what was left if and only if all of them use up the quota
    same_use : nat_eq steps left ≡ nat_eq (along.steps + steps) quota
    same_use = grind (arith, nat_tests, along.counted)

    ended_there : (ended : AloneStop) → EndsAs stop (remaining lists taken) ended →
        EndsAs (stop_at (step_of parts.blocks g) (nat_eq Along-steps.steps quota)) (remaining lists taken) ended
    ended_there ended e =
        subst (λ s. EndsAs s (remaining lists taken) ended)
        (walked.stop_is ∙ ap (stop_at (step_of parts.blocks g)) same_use) e

    pub Along-ends : (ended : AloneStop) → EndsAs stop (remaining lists taken) ended →
        AloneGives parts pars lists quota talk ended
    Along-ends Done e =
        AloneGives-done parts program pars lists quota Along-steps.steps most talk g
        (remaining lists taken) Along-steps.walk (ended_there Done e) (rw e at Along-stands)
    Along-ends (Faulted fault) e =
        AloneGives-faulted parts program pars lists quota Along-steps.steps most talk g
        (remaining lists taken) Along-steps.walk fault (ended_there (Faulted fault) e) (rw e at Along-stands)
    Along-ends (Starved port) e =
        AloneGives-starved parts program pars lists quota Along-steps.steps most talk g
        (remaining lists taken) Along-steps.walk port (ended_there (Starved port) e) (rw (e.0) at Along-stands) e.1
    Along-ends Paused e =
        AloneGives-paused parts program pars lists quota Along-steps.steps most talk g
        (remaining lists taken) Along-steps.walk (ended_there Paused e) (rw e at Along-stands)
        (omega (arith, walked.paused e, along.counted))

-- ---- it comes to an end

-- all statements of the program, once
abbrev pub statements_in : List (List Statement) → ℕ
statements_in blocks = sum_by length blocks

-- how far it can still go: through the statements of the block, and through all statements for each step that is left
abbrev pub way_left : List (List Statement) → ℕ → Frame → ℕ
way_left blocks left f = (statements_in blocks + 1) * left + (length (block_at blocks f.inner.block) - f.inner.place)

length-block : (blocks : List (List Statement)) (b : ℕ) → length (block_at blocks b) ≤ statements_in blocks
length-block [] b = omega arith
length-block (block ∷ blocks) zero = omega (arith, sum_by-cons length block blocks)
length-block (block ∷ blocks) (suc b) = omega (arith, sum_by-cons length block blocks, length-block blocks b)

-- the frame goes past what it says
goes_past : (blocks : List (List Statement)) (g h : Frame) (lists rest : Lists) (said : Said) →
    Speaks blocks g lists said h rest → (h.inner.block ≡ g.inner.block) × (h.inner.place ≡ g.inner.place + 1)
    × (g.inner.place < length (block_at blocks g.inner.block))
goes_past blocks g h lists rest (Got port v) s = (
  ap (λ f. f.inner.block) s.4,
  ap (λ f. f.inner.place) s.4,
  slice_get_within (block_at blocks g.inner.block) g.inner.place (Read port s.0) s.2,
)
goes_past blocks g h lists rest (Put port v) s =
    (ap (λ f. f.inner.block) s.1, ap (λ f. f.inner.place) s.1, write_within blocks g port v s.0)

falls : (all less more len : ℕ) → len ≤ all → (all + 1) * less + len < (all + 1) * (less + suc more)
falls all less more len h = omega arith

pub way_left-falls : (blocks : List (List Statement)) (left steps : ℕ) (f g h : Frame) (lists rest : Lists)
    (said : Said) → steps ≤ left → Steps blocks steps f g → Speaks blocks g lists said h rest →
    way_left blocks (left - steps) h < way_left blocks left f
way_left-falls blocks left zero f g h lists rest said most stepped speaks =
    let past = goes_past blocks g h lists rest said speaks in
    let same : left - 0 ≡ left = omega arith in
    let len = ap (λ b. length (block_at blocks b)) past.0 in
    let at = ap (λ f. length (block_at blocks f.inner.block)) stepped in
    let place = ap (λ f. f.inner.place) stepped in
    rw same (omega (arith, len, at, place, past.1, past.2))
way_left-falls blocks left (suc steps) f g h lists rest said most stepped speaks =
    let less = left - suc steps in
    let whole : less + suc steps ≡ left = omega arith in
    let len = length (block_at blocks h.inner.block) in
    let lower = subst (λ n. (statements_in blocks + 1) * less + len < (statements_in blocks + 1) * n) whole
    (falls (statements_in blocks) less steps len (length-block blocks h.inner.block)) in
    omega (arith, lower)
