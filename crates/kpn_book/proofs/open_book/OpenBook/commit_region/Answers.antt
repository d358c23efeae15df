use Rattle.kpn_book.proofs.Common.{◌≡◌, false, rules, both_ways}
use Rattle.kpn_book.proofs.open_book.OpenBook.commit_region.Goals as goal

pub returns-then-not-can_join-clause-refused : goal.returns-then-not-can_join-clause-refused
returns-then-not-can_join-clause-refused g c =
    let not_so : c.can_join.result ≡ false = search rules in
    λ can. both_ways c.can_join.result not_so (c.can_join.ensures.1 can)
