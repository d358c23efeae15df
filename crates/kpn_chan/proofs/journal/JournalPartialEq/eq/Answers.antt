use Rattle.std.proofs.Common.{◌≡◌, subst}
use Rattle.kpn_chan.proofs.Common.{Decides, items_of}
use Rattle.std.specs.Cmp.Lexicographic.{pointwise}
use Rattle.std.specs.Cmp.Rules.{signed_items}
use Rattle.std.specs.Ordering.{int_eq}
use Rattle.kpn_chan.proofs.Places.{tests_agree}
use Rattle.kpn_chan.proofs.journal.JournalPartialEq.eq.Goals as goal

pub returns : goal.returns
returns g c =
    let here = c.args.self.now in
    let there = c.args.other.now in
    let decided : Decides c.has_items_of.result (here ≡ there) =
    subst (λ xs. Decides c.has_items_of.result (xs ≡ there)) c.self.view_is
    (subst (λ ys. Decides c.has_items_of.result (items_of c.self.inside.chunks ≡ ys)) c.other.view_is
    c.has_items_of.ensures) in
    tests_agree c.has_items_of.result (pointwise int_eq here there) decided (signed_items here there)
