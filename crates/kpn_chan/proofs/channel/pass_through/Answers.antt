use Rattle.std.proofs.Common.{◌≡◌, ◌++◌, ◌-◌, List, ℤ, length, min, take, drop, Some, arith, sym, ap, ◌∙◌, subst, length-drop}
use Rattle.kpn_chan.proofs.Common.{take_all, Buffer, buffer, keep_last, MayPass, passed_through}
use Rattle.kpn_chan.proofs.Places.{passes_through, all_enter}
use Rattle.kpn_chan.proofs.channel.pass_through.Goals as goal

pub returns-clause-ring : goal.returns-clause-ring
returns-clause-ring g c =
    let xs = c.in-Some.ring.items in
    let cap = c.in-Some.ring.capacity in
    let ys = c.args.items.now in
    let taken = c.args.taken in
    let gone = c.min-gone.result in
    let kept = c.truncate_front.new.self in
    let count = c.fill_from_slice-entered.result in
    let rest : List ℤ = drop (taken - gone) ys in
    let cut : take (length ys - (taken - gone)) rest ≡ rest =
    take_all (length ys - (taken - gone)) rest (omega (arith, length-drop (taken - gone) ys)) in
    let may = subst (λ r. MayPass taken ys r) c.in-Some.is c.requires in
    let is : gone ≡ min taken (length xs) = omega (arith, c.min-gone.ensures, c.len.ensures.len) in
    let long : length (drop (length xs - (length xs - gone)) xs) ≡ length xs - gone =
    omega (arith, is, length-drop (length xs - (length xs - gone)) xs) in
    let same = c.len-2.ensures.len in
    let left : length kept.items ≡ length xs - gone =
    ap (λ (b : Buffer ℤ). length b.items) c.truncate_front.ensures
    ∙ ap (λ n. length (keep_last (n - gone) xs)) same ∙ long in
    let places : kept.capacity ≡ cap = ap (λ (b : Buffer ℤ). b.capacity) c.truncate_front.ensures in
    let counted : count ≡ min (length rest) (cap - length kept.items) =
    c.fill_from_slice-entered.ensures.count
    ∙ ap (λ (l : List ℤ). min (length l) (kept.capacity - length kept.items)) cut
    ∙ ap (λ n. min (length rest) (n - length kept.items)) places in
    let all : count ≡ length rest =
    all_enter (length xs) cap (length ys) taken gone (length kept.items) count (length rest) is left
    (length-drop (taken - gone) ys) counted may.0 may.1 in
    subst (λ r. Some c.fill_from_slice-entered.new.self ≡ passed_through taken ys r) (sym c.in-Some.is)
    (ap Some
    (c.fill_from_slice-entered.ensures.items
    ∙ ap (λ (l : List ℤ). buffer (kept.items ++ take count l) kept.capacity) cut
    ∙ ap (λ (b : Buffer ℤ). buffer (b.items ++ take count rest) b.capacity) c.truncate_front.ensures
    ∙ ap (λ n. buffer (keep_last (n - gone) xs ++ take count rest) cap) same
    ∙ ap (λ l. buffer l cap) (passes_through xs ys taken gone count is all)))
