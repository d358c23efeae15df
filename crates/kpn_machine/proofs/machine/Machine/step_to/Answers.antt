use Rattle.kpn_machine.proofs.Common.{length, refl, sym, ap, ◌∙◌, subst, arith, inl, program_of, frame_in, no_frame, with_frame, IsMachine, IsRun}
use Rattle.kpn_step.specs.Stops.{StandsAt}
use Rattle.kpn_machine.proofs.Calls.{element, frame_in-same, same_size}
use Rattle.kpn_machine.proofs.Moving.{IsMachine-moved, IsRun-moved}
use Rattle.kpn_machine.proofs.machine.Machine.step_to.Goals as goal

pub copy_from-requires : goal.copy_from-requires
copy_from-requires g c =
    let s = c.args.self.now in
    let p = c.args.p in
    let frame =
    element c.self.inside.frames.items s.frames p c.index_mut-frame.result.now no_frame
    (ap (λ x. x.frames) c.self.view_is) (omega (arith, c.requires.process, c.requires.shape.frames))
    c.index_mut-frame.ensures.value in
    inl (same_size (program_of c.args.network.now p) c.args.to.now (frame_in s p) c.requires.advance.to_fits
    c.requires.advance.from_fits ∙ ap (λ f. length f.variables) (sym frame))

pub returns : goal.returns
returns g c =
    let t = c.args.network.now in
    let s = c.args.self.now in
    let p = c.args.p in
    let to = c.args.to.now in
    let after =
    ap (λ x. with_frame p c.copy_from.new.self x) c.self.view_is ∙ ap (λ f. with_frame p f s) c.copy_from.ensures in
    let moved =
    ap (λ x. frame_in x p) after ∙ frame_in-same s p to (omega (arith, c.requires.process, c.requires.shape.frames)) in
    record {
      after = after;
      stands =
          subst (λ f. StandsAt (program_of t p).blocks f c.args.made.1) (sym moved) c.requires.advance.stands;
      shape =
          subst (λ x. IsMachine t x) (sym after)
          (IsMachine-moved t s p to c.requires.process c.requires.shape c.requires.advance.to_fits);
      run = λ H run. subst (λ x. IsRun t H x) (sym after)
          (IsRun-moved t s p to c.requires.process c.requires.shape H _ c.requires.advance refl refl refl run);
    }
