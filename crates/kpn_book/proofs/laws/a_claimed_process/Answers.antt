use Rattle.kpn_book.proofs.Appended.{claimed_is_held}
use Rattle.kpn_book.proofs.laws.a_claimed_process.Goals as goal

pub returns : goal.returns
returns c =
    claimed_is_held
