-- The first sample after the head, or no more bytes come.
use Rattle.std.proofs.Common.{rules, ◌≡◌, ◌<◌, ◌≤◌, ◌⊎◌, ◌∙◌, true, drop, length, ap, sym, inl, inr, arith, subst}
use Rattle.std.specs.Prelude.{min}
use Rattle.kpn_stream_devices.proofs.Common.{take_rest, sample_width, sample_value, Window, IsRightOfWav, end_told, Other}
use Rattle.kpn_stream_devices.proofs.Wavs.{wav_tells, few_tell}
use Rattle.kpn_stream_devices.proofs.window.Window.tell_behind.Goals as goal

pub returns-then-wav-width-clause-told : goal.returns-then-wav-width-clause-told
returns-then-wav-width-clause-told c =
    let behind = take_rest c.unused.result.now c.args.start ∙ ap (drop c.args.start) c.unused.ensures in
    wav_tells c.args.self.now c.args.start c.args.wav c.requires.head c.requires.within c.value.result
    c.width-width.result c.width-width.ensures.width (omega (arith, c.if-behind-width.true, ap length behind))
    c.if-wav-width.true (c.value.ensures ∙ ap (sample_value c.args.wav.sample) behind)

pub returns-then-self-clause-told : goal.returns-then-self-clause-told
returns-then-self-clause-told c =
    let w = c.args.self.now in
    let behind = take_rest c.unused.result.now c.args.start ∙ ap (drop c.args.start) c.unused.ensures in
    let few : min c.args.wav.left (length (drop c.args.start w.unused)) < sample_width c.args.wav.sample = search rules in
    let all : (w.is_over ≡ true) ⊎ (c.args.wav.left ≤ length (drop c.args.start w.unused)) = search rules in
    subst (λ a. IsRightOfWav w (Other a)) (sym (c.end_told.ensures ∙ ap (end_told c.args.wav) behind))
    (few_tell w c.args.start c.args.wav c.requires.head c.requires.within all few)
