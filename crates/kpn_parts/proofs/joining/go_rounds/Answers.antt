use Rattle.std.proofs.Common.{◌≡◌, length, rules}
use Rattle.kpn_parts.proofs.joining.go_rounds.Goals as goal

pub returns-then-len-before-clause-stuck : goal.returns-then-len-before-clause-stuck
returns-then-len-before-clause-stuck c =
    let same : length c.go_round.new.order.items ≡ length c.loop-round.order.items = search rules in
    c.in_ok-go_round.ensures.idle same
