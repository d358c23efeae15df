-- One piece after the other.
use Rattle.std.proofs.Common.{◌∙◌, ◌%◌, ◌*◌, ◌^◌, ℕ, refl, ap}
use Rattle.std.specs.Int.{to_le_bytes, w16, w32}
use Rattle.kpn_stream_devices.proofs.Devices.{joined}
use Rattle.kpn_stream_devices.proofs.outputs.push_head.Goals as goal

pub returns : goal.returns
returns c =
    let old = c.args.bytes.now.items in
    let frame = c.frame_of-frame.ensures in
    let two = joined old _ _ _ _ _ c.in_ok-extend_from_slice.ensures.items refl c.in_ok-push_half.ensures in
    let three = joined old _ _ _ _ _ two refl c.in_ok-push_word.ensures in
    let four = joined old _ _ _ _ _ three
    (ap (to_le_bytes w32) (c.pace_of.ensures ∙ ap (λ (n : ℕ). c.args.rate * n % 2 ^ 32) frame))
    c.in_ok-push_word-2.ensures in
    let five = joined old _ _ _ _ _ four (ap (λ (n : ℕ). to_le_bytes w16 (n % 2 ^ 16)) frame)
    c.in_ok-push_half-2.ensures in
    let six = joined old _ _ _ _ _ five (ap (λ (n : ℕ). to_le_bytes w16 (8 * n)) c.width.ensures.width)
    c.in_ok-push_half-3.ensures in
    joined old _ _ _ _ _ six refl c.in_ok-extend_from_slice-2.ensures.items
