use Rattle.kpn_audit.proofs.Common.{◌∙◌, ap, sym, subst, Stands, stop_of, stop_of-fault}
use Rattle.kpn_audit.proofs.seeing.at_stop.Goals as goal

pub returns-in-WantRead : goal.returns-in-WantRead
returns-in-WantRead g c H event quota paused = c.reads.ensures H event quota

pub returns-in-Faulted : goal.returns-in-Faulted
returns-in-Faulted g c H event quota paused = (
  c.requires.free,
  subst (λ s. Stands c.args.network.now c.args.machine.now c.args.p s)
      (c.in-Faulted.is ∙ sym (ap stop_of c.from.ensures ∙ stop_of-fault c.in-Faulted.fault)) c.requires.stands,
)
