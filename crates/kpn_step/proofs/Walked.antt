-- Walks: steps, and between them the items got and put. After a walk the process can say and come to whatever the last
-- frame can, after what the walk said. So the stop at the last frame decides how the process ends.
use Rattle.std.proofs.Common.{◌≡◌, ◌≢◌, ℕ, ◌+◌, ◌≤◌, nat_eq, ℤ, IsTrue, List, [], ◌∷◌, ◌++◌, length, set, refl, sym, ap, ◌∙◌, arith, append_assoc, append-nil}
use Rattle.kpn_step.proofs.Common.{Fault, Said, Got, Put, Ending, Statement, Read, Parts, IsProgram, Lists, list_at, ends, says, Process, CanSay, ComesTo, alone, AloneStop, Frame, start_frame, fits, step_of, Steps, residual, SaysTheSame, StandsAt, stop_at, EndsAs, GoesOnAs, Speaks, Walks, IsAloneOutcome, AloneGives}
use Rattle.kpn_lang.specs.declared.talk.Ending.TheVariants as ending
use Rattle.kpn_step.specs.declared.stop.Stop.TheVariants as stop
use Rattle.kpn_step.specs.declared.stop.AloneStop.TheVariants.{Done, Faulted, Starved, Paused}
use Rattle.kpn_step.proofs.Sameness.{SaysTheSame-equal}
use Rattle.kpn_step.proofs.StepCases.{Steps-append}
use Rattle.kpn_step.proofs.Places.{fits-start, fits-passed_with, fits-steps}
use Rattle.kpn_step.proofs.Remains.{residual_start, SaysTheSame-steps}
use Rattle.kpn_step.proofs.Stands.{IsAtRead-from_statement, StandsAt-from_stops, fits-wrote}

-- ---- going on as another process does

pub GoesOnAs-same : (p q : Process) (lists : Lists) → SaysTheSame p q → GoesOnAs p lists [] q lists
GoesOnAs-same p q lists h =
    record {
      can = λ more c. h.could lists more c;
      could = λ more c. h.can lists more c;
      comes = λ ending more c. h.came lists ending more c;
      came = λ ending more c. h.comes lists ending more c;
    }

pub GoesOnAs-said : (p q : Process) (lists rest : Lists) (said : Said) → ((n : ℕ) → p n lists ≡ says said (q n rest)) →
    GoesOnAs p lists (said ∷ []) q rest
GoesOnAs-said p q lists rest said e =
    record {
      can = λ more c. record { turns = c.turns; said = rw (e c.turns) (refl, c.said) };
      could = λ more c. record { turns = c.turns; said = (rw (e c.turns) at c.said).1 };
      comes = λ ending more c. record {
        turns = c.turns;
        ended = ap (λ r. r.ending) (e c.turns) ∙ c.ended;
        said = ap (λ r. r.talk) (e c.turns) ∙ ap (λ talk. said ∷ talk) c.said;
        whole = c.whole;
      };
      came = λ ending more c. record {
        turns = c.turns;
        ended = sym (ap (λ r. r.ending) (e c.turns)) ∙ c.ended;
        said = rest_of_talk (q c.turns rest).talk more (sym (ap (λ r. r.talk) (e c.turns)) ∙ c.said);
        whole = c.whole;
      };
    }
  where
    rest_of_talk : (talk more : List Said) → (said ∷ talk) ≡ (said ∷ more) → talk ≡ more
    rest_of_talk talk more e = cc

pub GoesOnAs-trans : (p q r : Process) (lists rest last : Lists) (talk further : List Said) →
    GoesOnAs p lists talk q rest → GoesOnAs q rest further r last → GoesOnAs p lists (talk ++ further) r last
GoesOnAs-trans p q r lists rest last talk further h k =
    record {
      can = λ more c. rw append_assoc (h.can (further ++ more) (k.can more c));
      could = λ more c. k.could more (h.could (further ++ more) (rw append_assoc at c));
      comes = λ ending more c. rw append_assoc (h.comes ending (further ++ more) (k.comes ending more c));
      came = λ ending more c. k.came ending more (h.came ending (further ++ more) (rw append_assoc at c));
    }

-- ---- one thing said

residual_speaks : (blocks : List (List Statement)) (f g : Frame) (lists rest : Lists) (said : Said) →
    Speaks blocks f lists said g rest → (n : ℕ) → residual blocks f n lists ≡ says said (residual blocks g n rest)
residual_speaks blocks f g lists rest (Got port v) s n =
    (IsAtRead-from_statement blocks f port s.0 s.2).got n lists v s.1 s.3
    ∙ ap (λ h. says (Got port v) (residual blocks h n (set lists port s.1))) (sym s.4)
    ∙ ap (λ rest. says (Got port v) (residual blocks g n rest)) (sym s.5)
residual_speaks blocks f g lists rest (Put port v) s n =
    (StandsAt-from_stops blocks f (stop.WantWrite port v) s.0).put n lists
    ∙ ap (λ h. says (Put port v) (residual blocks h n lists)) (sym s.1)
    ∙ ap (λ rest. says (Put port v) (residual blocks g n rest)) (sym s.2)

pub GoesOnAs-speaks : (blocks : List (List Statement)) (f g : Frame) (lists rest : Lists) (said : Said) →
    Speaks blocks f lists said g rest → GoesOnAs (residual blocks f) lists (said ∷ []) (residual blocks g) rest
GoesOnAs-speaks blocks f g lists rest said s =
    GoesOnAs-said (residual blocks f) (residual blocks g) lists rest said (residual_speaks blocks f g lists rest said s)

-- ---- walks

pub Walks-steps : (blocks : List (List Statement)) (k j : ℕ) (f g h : Frame) (lists rest : Lists) (talk : List Said) →
    Walks blocks k f lists talk g rest → Steps blocks j g h → Walks blocks (k + j) f lists talk h rest
Walks-steps blocks k j f g h lists rest [] w s = (Steps-append blocks k j f g h w.0 s, w.1)
Walks-steps blocks k j f g h lists rest (said ∷ talk) w s =
    let count : k ≡ w.0 + w.1 = w.5 in
    (w.0, w.1 + j, w.2, w.3, w.4, omega arith, w.6, w.7, Walks-steps blocks w.1 j w.3 g h w.4 rest talk w.8 s)

pub Walks-said : (blocks : List (List Statement)) (k : ℕ) (f g h : Frame) (lists rest last : Lists) (talk : List Said)
    (said : Said) → Walks blocks k f lists talk g rest → Speaks blocks g rest said h last →
    Walks blocks k f lists (talk ++ said ∷ []) h last
Walks-said blocks k f g h lists rest last [] said w s =
    (k, 0, g, h, last, omega arith, w.0, rw w.1 at s, (refl, refl))
Walks-said blocks k f g h lists rest last (first ∷ talk) said w s =
    (w.0, w.1, w.2, w.3, w.4, w.5, w.6, w.7, Walks-said blocks w.1 w.3 g h w.4 rest last talk said w.8 s)

-- a frame that fits, after one thing is said
pub fits-speaks : (parts : Parts) (f g : Frame) (lists rest : Lists) (said : Said) → IsTrue (fits parts f) →
    Speaks parts.blocks f lists said g rest → IsTrue (fits parts g)
fits-speaks parts f g lists rest (Got port v) h s = rw s.4 (fits-passed_with parts f (Read port s.0) s.0 v h s.2)
fits-speaks parts f g lists rest (Put port v) h s = rw s.1 (fits-wrote parts f port v h s.0)

pub fits-walks : (parts : Parts) → IsProgram parts → (k : ℕ) (f g : Frame) (lists rest : Lists) (talk : List Said) →
    IsTrue (fits parts f) → Walks parts.blocks k f lists talk g rest → IsTrue (fits parts g)
fits-walks parts program k f g lists rest [] h w = fits-steps parts program k f g h w.0
fits-walks parts program k f g lists rest (said ∷ talk) h w =
    fits-walks parts program w.1 w.3 g w.4 rest talk
    (fits-speaks parts w.2 w.3 lists w.4 said (fits-steps parts program w.0 f w.2 h w.6) w.7) w.8

-- after a walk that said this, the first frame goes on as the last
pub GoesOnAs-walks : (parts : Parts) → IsProgram parts →
    (k : ℕ) (f g : Frame) (lists rest : Lists) (talk : List Said) → Walks parts.blocks k f lists talk g rest →
    GoesOnAs (residual parts.blocks f) lists talk (residual parts.blocks g) rest
GoesOnAs-walks parts program k f g lists rest [] w =
    rw w.1 (GoesOnAs-same (residual parts.blocks f) (residual parts.blocks g) lists
    (SaysTheSame-steps parts program k f g w.0))
GoesOnAs-walks parts program k f g lists rest (said ∷ talk) w =
    let before = GoesOnAs-same (residual parts.blocks f) (residual parts.blocks w.2) lists
    (SaysTheSame-steps parts program w.0 f w.2 w.6) in
    let speaks = GoesOnAs-speaks parts.blocks w.2 w.3 lists w.4 said w.7 in
    let after = GoesOnAs-walks parts program w.1 w.3 g w.4 rest talk w.8 in
    GoesOnAs-trans (residual parts.blocks f) (residual parts.blocks w.2) (residual parts.blocks g) lists lists rest []
    (said ∷ talk) before
    (GoesOnAs-trans (residual parts.blocks w.2) (residual parts.blocks w.3) (residual parts.blocks g) lists w.4 rest
    (said ∷ []) talk speaks after)

pub SaysTheSame-start : (parts : Parts) (pars : List ℤ) → IsProgram parts →
    SaysTheSame (alone parts pars) (residual parts.blocks (start_frame parts pars))
SaysTheSame-start parts pars program = SaysTheSame-equal _ _ (residual_start parts pars program)

-- ---- a program stepped alone from its start

module _ (parts : Parts) (program : IsProgram parts) (pars : List ℤ) (lists : Lists) where
  -- after a walk from the start the program goes on as the last frame does
  pub GoesOnAs-alone : (k : ℕ) (talk : List Said) (to : Frame) (rest : Lists) →
      Walks parts.blocks k (start_frame parts pars) lists talk to rest →
      GoesOnAs (alone parts pars) lists talk (residual parts.blocks to) rest
  GoesOnAs-alone k talk to rest w =
      GoesOnAs-trans (alone parts pars) (residual parts.blocks (start_frame parts pars))
      (residual parts.blocks to) lists lists rest [] talk
      (GoesOnAs-same (alone parts pars) (residual parts.blocks (start_frame parts pars)) lists
      (SaysTheSame-start parts pars program))
      (GoesOnAs-walks parts program k (start_frame parts pars) to lists rest talk w)

  pub fits-alone : (k : ℕ) (talk : List Said) (to : Frame) (rest : Lists) → length pars ≡ parts.pars →
      Walks parts.blocks k (start_frame parts pars) lists talk to rest → IsTrue (fits parts to)
  fits-alone k talk to rest e w =
      fits-walks parts program k (start_frame parts pars) to lists rest talk (fits-start parts pars program e) w

  -- if the last frame comes to an end and says nothing more, the program comes to that end
  comes_to : (k : ℕ) (talk : List Said) (to : Frame) (rest : Lists) (end : Ending) →
      Walks parts.blocks k (start_frame parts pars) lists talk to rest →
      residual parts.blocks to 0 rest ≡ ends end to.variables rest → end ≢ ending.Cut →
      ComesTo (alone parts pars) lists end talk
  comes_to k talk to rest end w e whole =
      rw append-nil at ((GoesOnAs-alone k talk to rest w).comes end [] (record {
        turns = 0;
        ended = ap (λ r. r.ending) e;
        said = ap (λ r. r.talk) e;
        whole = whole;
      }))

  can_say : (k : ℕ) (talk : List Said) (to : Frame) (rest : Lists) →
      Walks parts.blocks k (start_frame parts pars) lists talk to rest → CanSay (alone parts pars) lists talk
  can_say k talk to rest w =
      rw append-nil at ((GoesOnAs-alone k talk to rest w).can [] (record { turns = 0; said = tt }))

  module _ (quota k : ℕ) (most : k ≤ quota) (talk : List Said) (to : Frame) (rest : Lists)
      (walk : Walks parts.blocks k (start_frame parts pars) lists talk to rest) where
    -- how it ends there
    abbrev HasEnded : AloneStop → Type 0
    HasEnded stop = EndsAs (stop_at (step_of parts.blocks to) (nat_eq k quota)) rest stop

    gives : (stop : AloneStop) → HasEnded stop → IsAloneOutcome parts pars lists (k ≡ quota) to talk stop →
        AloneGives parts pars lists quota talk stop
    gives stop ended outcome =
        record { steps = k; most = most; to = to; rest = rest; walk = walk; ended = ended; outcome = outcome }

    pub AloneGives-done : HasEnded Done → StandsAt parts.blocks to stop.Done →
        AloneGives parts pars lists quota talk Done
    AloneGives-done ended at = gives Done ended (comes_to k talk to rest ending.Done walk (at.ended 0 rest) (λ e. cc))

    pub AloneGives-faulted : (fault : Fault) → HasEnded (Faulted fault) →
        StandsAt parts.blocks to (stop.Faulted fault) → AloneGives parts pars lists quota talk (Faulted fault)
    AloneGives-faulted fault ended at =
        gives (Faulted fault) ended
        (comes_to k talk to rest (ending.Faulted fault) walk (at.faulted 0 rest) (λ e. cc))

    pub AloneGives-starved : (port : ℕ) → HasEnded (Starved port) → StandsAt parts.blocks to (stop.WantRead port) →
        list_at rest port ≡ [] → AloneGives parts pars lists quota talk (Starved port)
    AloneGives-starved port ended at none =
        gives (Starved port) ended
        (comes_to k talk to rest (ending.Starved port) walk (at.1.starved 0 rest none) (λ e. cc))

    pub AloneGives-paused : HasEnded Paused → StandsAt parts.blocks to stop.Paused → k ≡ quota →
        AloneGives parts pars lists quota talk Paused
    AloneGives-paused ended at used_up = gives Paused ended (can_say k talk to rest walk, at, used_up)
