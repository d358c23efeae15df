use Rattle.kpn_region.proofs.Common.{◌≡◌, ◌+◌, ◌-◌, ◌≤◌, true, cond, List, ℤ, ◌++◌, length, take, is_ok, vec_len, vec_capacity, ap, ◌∙◌, arith, rules, length-take, readable}
use Rattle.kpn_region.proofs.Comparing.{first_of_both}
use Rattle.kpn_region.proofs.side.fill_front.Goals as goal

pub returns-clause-ok : goal.returns-clause-ok
returns-clause-ok g c =
    let first = c.readable.result.0.now in
    let rest = c.readable.result.1.now in
    let n = c.args.n in
    let k = c.min-from_first.result in
    let empty = c.reserve.new.self.items in
    let some = c.extend_from_slice-first_appended.new.self.items in
    let first_fits : is_ok c.extend_from_slice-first_appended.result ≡ true = search rules in
    let long : vec_len c.extend_from_slice-first_appended.new.self
    ≡ vec_len c.reserve.new.self + length (take k first) =
    c.extend_from_slice-first_appended.ensures.len
    ∙ ap (λ b. cond b (vec_len c.reserve.new.self + length (take k first)) (vec_len c.reserve.new.self)) first_fits in
    let room : vec_len c.extend_from_slice-first_appended.new.self + length (take (n - k) rest)
    ≤ vec_capacity c.extend_from_slice-first_appended.new.self =
    omega (
      arith,
      long,
      c.in_ok-reserve.ensures.ok,
      c.in_ok-reserve.ensures.len,
      c.extend_from_slice-first_appended.ensures.capacity,
      length-take k first,
      length-take (n - k) rest,
      c.min-from_first.ensures,
    ) in
    let rest_fits : is_ok c.extend_from_slice-rest_appended.result ≡ true =
    c.extend_from_slice-rest_appended.ensures.succeeds room in
    c.extend_from_slice-rest_appended.ensures.items
    ∙ ap (λ b. cond b (some ++ take (n - k) rest) some) rest_fits
    ∙ ap (λ (xs : List ℤ). xs ++ take (n - k) rest) (c.extend_from_slice-first_appended.ensures.items
    ∙ ap (λ b. cond b (empty ++ take k first) empty) first_fits
    ∙ ap (λ (xs : List ℤ). xs ++ take k first) (c.in_ok-reserve.ensures.items ∙ c.requires.empty))
    ∙ first_of_both first rest (readable c.args.channel.now) n k c.readable.ensures c.min-from_first.ensures
