-- No sample was used yet.
use Rattle.std.proofs.Common.{◌∙◌, Option, ap, sym}
use Rattle.kpn_stream_devices.proofs.Common.{head_at, head_of, Window}
use Rattle.kpn_stream_devices.specs.declared.head.Wav.{Wav}
use Rattle.kpn_stream_devices.proofs.window.Window.head.Goals as goal

pub returns-in-None-clause-is : goal.returns-in-None-clause-is
returns-in-None-clause-is c =
    c.head_of.ensures.is ∙ ap head_of c.unused.ensures
    ∙ ap (λ (wav : Option Wav). head_at wav c.args.self.now.unused)
    (sym c.in-None.is ∙ ap (λ (w : Window). w.wav) c.self.view_is)
