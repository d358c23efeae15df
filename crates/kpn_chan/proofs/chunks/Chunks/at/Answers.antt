use Rattle.std.specs.Prelude.{◌≡◌, ◌<◌, ◌≤◌, ◌*◌, ◌/◌, ◌%◌, ◌-◌, length, slice_get}
use Rattle.kpn_chan.proofs.Common.{arith, ap, ◌∙◌, CHUNK}
use Rattle.kpn_chan.proofs.Places.{at_chunk, at_last}
use Rattle.kpn_chan.proofs.chunks.Chunks.at.Goals as goal

pub returns-then-chunk-len : goal.returns-then-chunk-len
returns-then-chunk-len g c =
    let chunks = c.args.self.now in
    let below : c.args.place / CHUNK < length chunks.full.items = omega (arith, c.if-chunk-len.true, c.len.ensures) in
    c.item_at.ensures
    ∙ ap (λ l. slice_get l (c.args.place % CHUNK)) (c.deref.ensures.value ∙ ap (λ v. v.items) c.index.ensures)
    ∙ at_chunk chunks.full.items chunks.last.items c.requires.full c.args.place c.index.result.now below

pub returns : goal.returns
returns g c =
    let chunks = c.args.self.now in
    let past : length chunks.full.items * CHUNK ≤ c.args.place = omega (arith, c.if-chunk-len.false, c.len.ensures) in
    let full : c.len-2.result ≡ length chunks.full.items = omega (arith, c.len-2.ensures) in
    c.item_at-2.ensures
    ∙ ap (λ l. slice_get l (c.args.place - c.len-2.result * CHUNK)) c.deref-2.ensures.value
    ∙ ap (λ n. slice_get chunks.last.items (c.args.place - n * CHUNK)) full
    ∙ at_last chunks.full.items chunks.last.items c.requires.full c.args.place past
