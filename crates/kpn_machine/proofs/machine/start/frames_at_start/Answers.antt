use Rattle.kpn_machine.proofs.Common.{◌≡◌, length, ap, sym, ◌∙◌, subst, arith, IsTrue, instance_at, program_of, IsInstance-of, start_frame, fits, no_frame}
use Rattle.kpn_machine.proofs.Starting.{len_push, each_push}
use Rattle.kpn_machine.proofs.machine.start.frames_at_start.Goals as goal

pub try_start-requires : goal.try_start-requires
try_start-requires g c =
    ap length c.pars.ensures
    ∙ (IsInstance-of c.args.network.now c.known.ensures c.loop-p.p (omega (arith, c.instances-p-end.ensures))).pars
    ∙ sym (ap (λ x. x.pars) c.program.ensures)

pub loop-p-preserved : goal.loop-p-preserved
loop-p-preserved g c =
    let t = c.args.network.now in
    let loop = c.loop-p in
    record {
      len = len_push loop.frames.items _ c.in_ok-frame.frame loop.p c.in_ok-push.ensures.items loop.invariant.len;
      each =
          each_push (λ k f. f ≡ start_frame (program_of t k) (instance_at t k).pars) loop.frames.items _ c.in_ok-frame.frame
          no_frame loop.p c.in_ok-push.ensures.items loop.invariant.len loop.invariant.each
          (c.in_ok-frame.ensures.frame ∙ ap (λ y. start_frame y c.pars.result.now) c.program.ensures
          ∙ ap (start_frame (program_of t loop.p)) c.pars.ensures);
      fit =
          each_push (λ k f. IsTrue (fits (program_of t k) f)) loop.frames.items _ c.in_ok-frame.frame no_frame loop.p
          c.in_ok-push.ensures.items loop.invariant.len loop.invariant.fit
          (subst (λ x. IsTrue (fits x c.in_ok-frame.frame)) c.program.ensures c.in_ok-frame.ensures.fits);
    }
