-- The steps of one call follow those made before.
use Rattle.kpn_audit.proofs.Common.{◌≡◌, ◌≢◌, ℕ, ◌+◌, ◌-◌, nat_eq, Bool, true, false, arith, sym, ap, ◌∙◌, subst, program_of, step_of, Steps, Steps-append, Frame, Machine, frame_in, with_frame}
use Rattle.kpn_machine.proofs.Calls.{frame_in-other}
use Rattle.kpn_audit.proofs.Followed.{stays_free}
use Rattle.kpn_audit.proofs.InTime.{no_step, stops_within}
use Rattle.kpn_audit.proofs.stepping.step_on.Goals as goal
use Rattle.kpn_audit.proofs.stepping.step_on.Goals.{then-remaining-eq0-via-then-remaining-eq0, then-remaining-eq0-via-else-remaining-eq0+then-not-matches, in-Paused, in_default}

pub returns-then-remaining-eq0-clause-paused : goal.returns-then-remaining-eq0-clause-paused
returns-then-remaining-eq0-clause-paused g c paused =
    let p = c.args.p in
    let blocks = (program_of c.args.network.now p).blocks in
    let before = frame_in c.args.machine.now p in
    let after = frame_in c.step-steps.new.self p in
    elim c.then-remaining-eq0.branch [
      | then-remaining-eq0-via-then-remaining-eq0 w ↦
          let whole : c.args.quota - c.steps.remaining + c.step-steps.result.0 ≡ c.args.quota = omega arith in
          subst (λ n. Steps blocks n before after) whole
          (Steps-append blocks (c.args.quota - c.steps.remaining) c.step-steps.result.0 before
          (frame_in c.steps.machine p) after
          c.steps.invariant.stepped c.step-steps.ensures.advance.stepped)
      | then-remaining-eq0-via-else-remaining-eq0+then-not-matches w ↦
          elim w.match-matches.branch [
            | in-Paused x ↦ let clash : ◌≡◌ {A = Bool} true false = sym x.matches-is ∙ w.if-not-matches.true in
                absurd cc
            | in_default x ↦ absurd (x.in_default.not-Paused paused)
          ]
    ]

-- one call moves no frame of another
others_kept : (s mid after : Machine) (p : ℕ) (f : Frame) → after ≡ with_frame p f mid
    → ((q : ℕ) → q ≢ p → frame_in mid q ≡ frame_in s q) → (q : ℕ) → q ≢ p → frame_in after q ≡ frame_in s q
others_kept s mid after p f e kept q differs =
    ap (λ x. frame_in x q) e ∙ frame_in-other mid p q f differs ∙ kept q differs

pub returns-then-remaining-eq0-clause-moved : goal.returns-then-remaining-eq0-clause-moved
returns-then-remaining-eq0-clause-moved g c =
    let p = c.args.p in
    let after = frame_in c.step-steps.new.self p in
    record {
      steps = c.args.quota - c.steps.remaining + c.step-steps.result.0;
      reached =
          Steps-append (program_of c.args.network.now p).blocks (c.args.quota - c.steps.remaining) c.step-steps.result.0
          (frame_in c.args.machine.now p) (frame_in c.steps.machine p) after
          c.steps.invariant.stepped c.step-steps.ensures.advance.stepped;
      others =
          others_kept c.args.machine.now c.steps.machine c.step-steps.new.self p after
          c.step-steps.ensures.after c.steps.invariant.others;
    }

pub steps-preserved : goal.steps-preserved
steps-preserved g c =
    let p = c.args.p in
    let blocks = (program_of c.args.network.now p).blocks in
    let before = frame_in c.args.machine.now p in
    let after = frame_in c.step-steps.new.self p in
    let more : c.args.quota - c.steps.remaining + c.step-steps.result.0
    ≡ c.args.quota - (c.steps.remaining - c.from.result) =
    omega arith in
    record {
      shape = c.step-steps.ensures.shape;
      free = λ free. stays_free c.steps.machine c.step-steps.new.self p after c.step-steps.ensures.after
          (c.steps.invariant.free free);
      run = λ H run. c.step-steps.ensures.run H (c.steps.invariant.run H run);
      remaining = omega arith;
      others =
          others_kept c.args.machine.now c.steps.machine c.step-steps.new.self p after
          c.step-steps.ensures.after c.steps.invariant.others;
      stepped =
          subst (λ n. Steps blocks n before after) more
          (Steps-append blocks (c.args.quota - c.steps.remaining) c.step-steps.result.0 before
          (frame_in c.steps.machine p) after
          c.steps.invariant.stepped c.step-steps.ensures.advance.stepped);
    }

pub returns-then-remaining-eq0-clause-ends : goal.returns-then-remaining-eq0-clause-ends
returns-then-remaining-eq0-clause-ends g c no_pause =
    no_step (step_of (program_of c.args.network.now c.args.p).blocks (frame_in c.step-steps.new.self c.args.p))
    (nat_eq c.step-steps.result.0 c.part_of.result) c.step-steps.result.1 c.step-steps.ensures.quota.stop no_pause

pub returns-then-remaining-eq0-clause-in_time : goal.returns-then-remaining-eq0-clause-in_time
returns-then-remaining-eq0-clause-in_time g c no_pause =
    let p = c.args.p in
    stops_within (program_of c.args.network.now p).blocks c.args.quota c.steps.remaining c.part_of.result
    c.step-steps.result.0 (frame_in c.args.machine.now p) (frame_in c.steps.machine p)
    (frame_in c.step-steps.new.self p) c.step-steps.result.1 c.steps.invariant.remaining c.part_of.ensures.most
    c.step-steps.ensures.quota.most c.steps.invariant.stepped c.step-steps.ensures.advance.stepped
    c.step-steps.ensures.advance.stands c.step-steps.ensures.quota.stop no_pause
