use Rattle.kpn_book.proofs.Common.{ℕ, ◌<◌, IsRoomyToWrite, MakesRoom, SeesChannels}
use Rattle.kpn_book.proofs.open_book.claims.claim_channels.Given as goal

abbrev pub invariant-channels : goal.invariant-channels
invariant-channels g l =
    MakesRoom l.fn.machine l.machine
    × (SeesChannels l.most l.drains l.fn.machine l.c l.fn.batch l.batch
    × ((c : ℕ) → c < l.c → IsRoomyToWrite l.fn.batch.tables l.fn.batch.first l.machine c))
