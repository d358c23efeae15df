use Rattle.kpn_machine.proofs.Common.{refl, sym, ap, ◌∙◌, subst, arith, program_of, IsAdvance, IsWithinQuota, IsAtPort, advanced_of, frame_in, no_frame, with_frame, IsMachine, IsRun}
use Rattle.kpn_machine.proofs.Calls.{element, frame_in-same}
use Rattle.kpn_machine.proofs.Moving.{IsMachine-moved, IsRun-moved, advanced_as}
use Rattle.kpn_machine.proofs.machine.Machine.step.Goals as goal

pub returns : goal.returns
returns g c =
    let t = c.args.network.now in
    let s = c.args.self.now in
    let p = c.args.p in
    let to = c.run.new.self in
    let frame =
    element c.self.inside.frames.items s.frames p c.index_mut-frame.result.now no_frame
    (ap (λ x. x.frames) c.self.view_is) (omega (arith, c.requires.process, c.requires.shape.frames))
    c.index_mut-frame.ensures.value in
    let after = ap (λ x. with_frame p to x) c.self.view_is in
    let moved =
    ap (λ x. frame_in x p) after ∙ frame_in-same s p to (omega (arith, c.requires.process, c.requires.shape.frames)) in
    let advance =
    advanced_as IsAdvance c.args.program.now (program_of t p) c.index_mut-frame.result.now (frame_in s p) to to
    c.run.result.0 c.run.result.1 c.requires.program frame refl c.run.ensures.advance in
    record {
      advance =
          subst (λ f. IsAdvance (advanced_of (program_of t p) (frame_in s p) f c.run.result.0 c.run.result.1))
          (sym moved)
          advance;
      quota =
          advanced_as (λ a. IsWithinQuota c.args.quota a) c.args.program.now (program_of t p)
          c.index_mut-frame.result.now (frame_in s p) to _ c.run.result.0 c.run.result.1 c.requires.program frame
          (sym moved) c.run.ensures.quota;
      port =
          subst (λ f. IsAtPort (program_of t p) f c.run.result.1) (sym moved)
          (subst (λ x. IsAtPort x to c.run.result.1) c.requires.program c.run.ensures.port);
      after = after ∙ ap (λ f. with_frame p f s) (sym moved);
      shape =
          subst (λ x. IsMachine t x) (sym after)
          (IsMachine-moved t s p to c.requires.process c.requires.shape advance.to_fits);
      run = λ H run. subst (λ x. IsRun t H x) (sym after)
          (IsRun-moved t s p to c.requires.process c.requires.shape H _ advance refl refl refl run);
    }
