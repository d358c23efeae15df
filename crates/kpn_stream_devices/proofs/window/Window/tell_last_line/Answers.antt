-- The bytes are the only line, or one that is too long spells no item.
use Rattle.std.proofs.Common.{rules, ◌≡◌, ◌<◌, ◌∙◌, true, Option, None, length, ap, sym, subst}
use Rattle.kpn_stream_devices.proofs.Common.{MatchOption, SpellsItem, Lines, One, Window, SpellsNone, IsRightOf}
use Rattle.kpn_stream_devices.specs.declared.head.Wav.{Wav}
use Rattle.kpn_stream_devices.proofs.Telling.{whole_tells, long_tells}
use Rattle.kpn_stream_devices.proofs.window.Window.tell_last_line.Goals as goal

pub returns-then-self-2-clause-told : goal.returns-then-self-2-clause-told
returns-then-self-2-clause-told c =
    let w = c.args.self.now in
    let item = c.item_of_line-item.result in
    let some : 0 < length c.unused-count.result.now = search rules in
    subst (λ (wav : Option Wav). IsRightOf Lines w (One item (length c.unused-count.result.now) wav))
    (sym (ap (λ (x : Window). x.wav) c.self.view_is))
    (whole_tells w item (length c.unused-count.result.now) (ap length c.unused-count.ensures) some
    (sym (ap (λ (x : Window). x.is_over) c.self.view_is) ∙ c.if-self-2.true) c.requires
    (subst (λ line. MatchOption item (SpellsNone line) (SpellsItem line)) c.unused.ensures c.item_of_line-item.ensures))

pub returns-clause-told : goal.returns-clause-told
returns-clause-told c =
    let w = c.args.self.now in
    subst (λ (wav : Option Wav). IsRightOf Lines w (One None (length c.unused-count.result.now) wav))
    (sym (ap (λ (x : Window). x.wav) c.self.view_is))
    (long_tells w (length c.unused-count.result.now) (ap length c.unused-count.ensures)
    c.if-count-lt-TOO_LONG_LINE.false c.requires)
