use Rattle.kpn_region.proofs.Common.{List, length, get_or, IsTrue, sym, ap, ◌∙◌, subst, program_of, Frame, fits, no_frame}
use Rattle.kpn_region.proofs.Piecewise.{all_joined}
use Rattle.kpn_region.proofs.batch.Batch.join.Goals as goal

pub join_frames-requires-clause-frames : goal.join_frames-requires-clause-frames
join_frames-requires-clause-frames g c = ap length c.join_channels.ensures.frames ∙ c.requires.shape.frames

pub join_frames-requires-clause-fit : goal.join_frames-requires-clause-fit
join_frames-requires-clause-fit g c p below =
    subst (λ (fs : List Frame). IsTrue (fits (program_of c.args.self.now.tables p) (get_or fs p no_frame)))
    (sym c.join_channels.ensures.frames) (c.requires.shape.fit p below)

pub returns : goal.returns
returns g c =
    all_joined c.args.self.now c.known.ensures c.args.machine.now c.join_channels.new.machine
    c.join_frames.new.machine c.join_channels.ensures c.join_frames.ensures c.requires.shape.waits
