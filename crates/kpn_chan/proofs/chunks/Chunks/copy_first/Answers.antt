use Rattle.std.specs.Prelude.{◌≡◌, ◌+◌, ◌<◌, ◌≤◌, ℤ, List, length, take, drop, refl}
use Rattle.kpn_chan.proofs.Common.{arith, ap, sym, subst, ◌∙◌, length-append, length-take-le, items_of}
use Rattle.kpn_chan.proofs.Places.{copied_more}
use Rattle.kpn_chan.proofs.chunks.Chunks.copy_first.Goals as goal

pub loop-items-init : goal.loop-items-init
loop-items-init g c =
    let all = items_of c.args.self.now in
    subst (λ (xs : List ℤ). (xs ≡ take (length xs) all) × (length xs ≤ c.args.count)) (sym c.in_ok-items.ensures.items)
    (refl, omega arith)

-- how long the copy is after a turn
longer : (g : _) (c : goal.In_ok-extend_from_slice g)
    → length c.extend_from_slice.new.self.items ≡ length c.loop-items.items.items + c.min-more.result
longer g c =
    let xs = c.loop-items.items.items in
    let piece = c.piece_at-piece.result.now in
    let few : c.min-more.result ≤ length piece = omega (arith, c.min-more.ensures) in
    ap (λ (l : List ℤ). length l) c.in_ok-extend_from_slice.ensures.items
    ∙ length-append xs (take c.min-more.result piece)
    ∙ ap (λ n. length xs + n) (length-take-le c.min-more.result piece few)

-- where the piece of a turn is, and that it has an item
piece : (g : _) (c : goal.In_ok-extend_from_slice g) → let xs = c.loop-items.items.items in
    let piece = c.piece_at-piece.result.now in
    (piece ≡ take (length piece) (drop (length xs) (items_of c.args.self.now))) × (0 < length piece)
piece g c =
    let xs = c.loop-items.items.items in
    let piece = c.piece_at-piece.result.now in
    let from : c.len-in-loop-items.result ≡ length xs = omega (arith, c.len-in-loop-items.ensures) in
    let test : c.len-in-loop-items.result < c.args.count =
    omega (arith, c.loop-items-test.true, c.len.ensures, from) in (
      c.piece_at-piece.ensures.items ∙ ap (λ n. take (length piece) (drop n (items_of c.args.self.now))) from,
      c.piece_at-piece.ensures.more (omega (arith, test, c.requires.count)),
    )

pub loop-items-smaller : goal.loop-items-smaller
loop-items-smaller g c =
    let some = (piece g c).1 in
    omega (
      arith,
      longer g c,
      some,
      c.loop-items-test.true,
      c.len.ensures,
      c.min-more.ensures,
      c.len-in-loop-items-2.ensures,
    )

pub loop-items-preserved : goal.loop-items-preserved
loop-items-preserved g c =
    let all = items_of c.args.self.now in
    let xs = c.loop-items.items.items in
    let more =
    copied_more all xs c.piece_at-piece.result.now c.min-more.result c.loop-items.invariant.0 (piece g c).0 in (
      subst (λ (l : List ℤ). l ≡ take (length l) all) (sym c.in_ok-extend_from_slice.ensures.items) more,
      omega (arith, longer g c, c.loop-items.invariant.1, c.min-more.ensures, c.len-in-loop-items-2.ensures),
    )

pub returns : goal.returns
returns g c =
    let all : length c.loop-items.items.items ≡ c.args.count =
    omega (arith, c.loop-items-test.false, c.len.ensures, c.loop-items.invariant.1) in
    c.loop-items.invariant.0 ∙ ap (λ n. take n (items_of c.args.self.now)) all
