use Rattle.kpn_book.proofs.Common.{◌≡◌, false, refl, subst, rules, both_ways, IsSettled, IsVerdict, book_of}
use Rattle.kpn_machine.proofs.Settling.{verdict_now}
use Rattle.kpn_book.proofs.Seen.{not_settled}
use Rattle.kpn_book.proofs.book.Book.verdict.Goals as goal

pub returns-then-not-is_idle : goal.returns-then-not-is_idle
returns-then-not-is_idle g c =
    let busy : c.is_idle.result ≡ false = search rules in
    subst (λ b. IsSettled b.tables b.history → ⊥) c.self.view_is
    (not_settled (book_of c.self.inside.parts) c.self.invariant.in_step
    (λ stopped. both_ways c.is_idle.result busy (c.is_idle.ensures.1 stopped)))

pub returns : goal.returns
returns g c =
    let b = book_of c.self.inside.parts in
    subst (λ b. IsVerdict b.tables b.history c.judge.result) c.self.view_is
    ((verdict_now b.tables c.known.ensures b.history b.machine c.self.invariant.in_step.run c.judge.result).0
    ((c.judge.ensures c.judge.result).0 refl))
