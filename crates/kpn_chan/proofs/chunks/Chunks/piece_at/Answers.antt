use Rattle.std.specs.Prelude.{◌≡◌, ◌<◌, ◌≤◌, ◌*◌, ◌/◌, ◌%◌, ◌-◌, ℤ, List, length, take, drop}
use Rattle.kpn_chan.proofs.Common.{arith, ap, sym, subst, ◌∙◌, length-drop, CHUNK, items_of}
use Rattle.kpn_chan.proofs.Places.{count_of, chunk_piece, last_piece}
use Rattle.kpn_chan.proofs.chunks.Chunks.piece_at.Goals as goal

pub returns-then-chunk-len-clause-items : goal.returns-then-chunk-len-clause-items
returns-then-chunk-len-clause-items g c =
    let chunks = c.args.self.now in
    let below : c.args.place / CHUNK < length chunks.full.items = omega (arith, c.if-chunk-len.true, c.len.ensures) in
    let is = c.split_at.ensures.back
    ∙ ap (λ l. drop (c.args.place % CHUNK) l) (c.deref.ensures.value ∙ ap (λ v. v.items) c.index.ensures) in
    subst (λ (piece : List ℤ). piece ≡ take (length piece) (drop c.args.place (items_of chunks))) (sym is)
    (chunk_piece chunks.full.items chunks.last.items c.requires.chunks.full c.args.place c.index.result.now below)

pub split_at-requires-2 : goal.split_at-requires-2
split_at-requires-2 g c =
    let chunks = c.args.self.now in
    let many = count_of chunks.full.items chunks.last.items c.requires.chunks.full in
    omega (arith, many, c.requires.place, c.len-2.ensures, ap (λ (l : List ℤ). length l) c.deref-2.ensures.value)

pub returns-clause-items : goal.returns-clause-items
returns-clause-items g c =
    let chunks = c.args.self.now in
    let past : length chunks.full.items * CHUNK ≤ c.args.place = omega (arith, c.if-chunk-len.false, c.len.ensures) in
    let full : c.len-2.result ≡ length chunks.full.items = omega (arith, c.len-2.ensures) in
    let is = c.split_at-2.ensures.back
    ∙ ap (λ l. drop (c.args.place - c.len-2.result * CHUNK) l) c.deref-2.ensures.value
    ∙ ap (λ n. drop (c.args.place - n * CHUNK) chunks.last.items) full in
    subst (λ (piece : List ℤ). piece ≡ take (length piece) (drop c.args.place (items_of chunks))) (sym is)
    (last_piece chunks.full.items chunks.last.items c.requires.chunks.full c.args.place past)

pub returns-clause-more : goal.returns-clause-more
returns-clause-more g c inside =
    let chunks = c.args.self.now in
    let many = count_of chunks.full.items chunks.last.items c.requires.chunks.full in
    let piece = ap (λ (l : List ℤ). length l) c.split_at-2.ensures.back in
    let last = ap (λ (l : List ℤ). length l) c.deref-2.ensures.value in
    omega (
      arith,
      many,
      inside,
      c.len-2.ensures,
      c.if-chunk-len.false,
      c.len.ensures,
      piece,
      last,
      length-drop (c.args.place - c.len-2.result * CHUNK) c.deref-2.result.now,
    )
