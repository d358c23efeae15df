use Rattle.kpn_pool_desk.proofs.Common.{◌≡◌, length, drop, sym, ◌∙◌, subst, rules, arith, take-append-le, take_all, refill, ClaimsInVain}
use Rattle.kpn_book.proofs.FirstOfQueue.{refused_with}
use Rattle.kpn_pool_desk.proofs.held_turns.HeldTurns.claim.Goals as goal

pub returns-in_err-self-inside-clause-back : goal.returns-in_err-self-inside-clause-back
returns-in_err-self-inside-clause-back g c =
    let n = length c.self.inside.turns.items in
    let turns = c.claim_each.new.turns in
    let same : length turns ≡ n = search rules in
    let all : refill n c.self.inside.turns.items turns ≡ turns =
    take-append-le n turns (drop (length turns) c.self.inside.turns.items) (omega (arith, same))
    ∙ take_all n turns (omega (arith, same)) in
    refused_with c.from_residual.result
    (subst (λ ts. ClaimsInVain ts c.args.desk.now.book c.claim_each.new.desk.book) (sym all)
    c.in_err-self-inside.ensures.back)
