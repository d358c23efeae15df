-- The line is the first, whatever comes.
use Rattle.std.proofs.Common.{◌∙◌, ◌+◌, Option, take, ap, sym, subst}
use Rattle.kpn_stream_devices.proofs.Common.{MatchOption, strip_carriage_return, SpellsItem, Lines, One, Window, SpellsNone, IsRightOf}
use Rattle.kpn_stream_devices.specs.declared.head.Wav.{Wav}
use Rattle.kpn_stream_devices.proofs.Telling.{line_tells}
use Rattle.kpn_stream_devices.proofs.window.Window.tell_line_of.Goals as goal

pub returns : goal.returns
returns c =
    let w = c.args.self.now in
    let item = c.item_of_line-item.result in
    subst (λ (wav : Option Wav). IsRightOf Lines w (One item (c.args.end + 1) wav))
    (sym (ap (λ (x : Window). x.wav) c.self.view_is))
    (line_tells w c.args.end item c.requires
    (subst (λ line. MatchOption item (SpellsNone line) (SpellsItem line))
    (c.without_carriage_return.ensures ∙ ap (λ us. strip_carriage_return (take c.args.end us)) c.unused.ensures)
    c.item_of_line-item.ensures))
