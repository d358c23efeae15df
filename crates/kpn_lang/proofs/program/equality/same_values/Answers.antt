-- Two lists of numbers are equal if they are as long and each pair of numbers is equal.
use Rattle.kpn_lang.proofs.Common.{◌≡◌, sym, ◌∙◌, rules, pointwise, pointwise_decides, Decides-int_eq}
use Rattle.std.specs.Ordering.{int_eq}
use Rattle.kpn_lang.proofs.program.equality.same_values.Goals as goal

pub returns : goal.returns
returns c =
    let answer : c.eq.result ≡ pointwise int_eq c.args.left.now c.args.right.now = search rules in
    let decides = pointwise_decides Decides-int_eq c.args.left.now c.args.right.now in
    (λ yes. decides.0 (sym answer ∙ yes), λ same. answer ∙ decides.1 same)
