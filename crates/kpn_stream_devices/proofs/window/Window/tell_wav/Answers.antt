-- The head is wrong, whatever follows.
use Rattle.kpn_stream_devices.proofs.Common.{◌∙◌, Err, ap, sym, subst, length, BadHead, Other, Window, IsRightOfWav}
use Rattle.kpn_stream_devices.proofs.Wavs.{bad_tells, open_tells}
use Rattle.kpn_stream_devices.proofs.window.Window.tell_wav.Goals as goal

pub returns-in-Bad-clause-told : goal.returns-in-Bad-clause-told
returns-in-Bad-clause-told c =
    subst (IsRightOfWav c.args.self.now) (sym c.bad_head.ensures)
    (bad_tells c.args.self.now c.in-Bad.at (sym c.head.ensures.is ∙ c.in-Bad.is))

pub returns-in-Open-clause-told : goal.returns-in-Open-clause-told
returns-in-Open-clause-told c =
    let w = c.args.self.now in
    subst (IsRightOfWav w) (sym (c.bad_head-in-Open.ensures ∙ ap (λ us. Other (Err (BadHead (length us)))) c.unused.ensures))
    (open_tells w (sym (ap (λ (x : Window). x.is_over) c.self.view_is) ∙ c.if-self.true)
    (sym c.head.ensures.is ∙ c.in-Open.is))
