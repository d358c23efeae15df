use Rattle.kpn_region.proofs.Common.{◌≡◌, ◌<◌, length, sym, ap, ◌∙◌, subst, arith, program_of, frame_in, same_size, frame_at, JoinsFrames}
use Rattle.kpn_region.proofs.Piecewise.{no_frames_joined, one_more_frame}
use Rattle.kpn_region.proofs.batch.Batch.join_frames.Goals as goal

pub processes-init : goal.processes-init
processes-init g c = no_frames_joined c.args.self.now c.args.machine.now

pub join_frame-requires-clause-frames : goal.join_frame-requires-clause-frames
join_frame-requires-clause-frames g c = c.processes.invariant.frames ∙ c.requires.frames

pub join_frame-requires-clause-size : goal.join_frame-requires-clause-size
join_frame-requires-clause-size g c =
    let b = c.args.self.now in
    let p = c.processes.p in
    let same = ap (λ t. length t.instances) c.network-network.ensures in
    let there : p < length b.tables.instances =
    omega (arith, same, c.instances-p-end.ensures, c.processes-test.true) in
    same_size (program_of b.tables p) (frame_at b.now p) (frame_in c.args.machine.now p)
    (c.known.ensures.is.fit p there) (c.requires.fit p there)
    ∙ ap (λ f. length f.variables) (sym (c.processes.invariant.others p (omega arith)))

pub processes-preserved : goal.processes-preserved
processes-preserved g c =
    let b = c.args.self.now in
    let before = c.args.machine.now in
    let same = ap (λ t. length t.instances) c.network-network.ensures in
    let there : c.processes.p < length before.frames =
    omega (arith, same, c.instances-p-end.ensures, c.processes-test.true, c.requires.frames) in
    one_more_frame b before c.processes.p c.processes.machine c.processes.invariant there
    c.join_frame.new.machine c.join_frame.ensures

pub returns : goal.returns
returns g c =
    let b = c.args.self.now in
    let same = ap (λ t. length t.instances) c.network-network.ensures in
    let all : c.processes.p ≡ length b.tables.instances =
    omega (arith, same, c.instances-p-end.ensures, c.processes-test.false, c.processes.auto.p-end) in
    subst (λ n. JoinsFrames b n c.args.machine.now c.processes.machine) all c.processes.invariant
