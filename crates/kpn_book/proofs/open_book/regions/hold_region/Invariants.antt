use Rattle.kpn_region.specs.Local.{is_in_region}
use Rattle.kpn_book.proofs.Regions.{HadTurns}
use Rattle.kpn_book.proofs.open_book.regions.hold_region.Given as goal

abbrev pub invariant-turns : goal.invariant-turns
invariant-turns g l = HadTurns (is_in_region l.batch.now) l.fn.schedule l._turn l.schedule
