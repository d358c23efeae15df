-- The rows that were passed begin elsewhere.
use Rattle.kpn_text.proofs.Common.{◌≡◌, drop, row_name_or}
use Rattle.kpn_text.proofs.pieces.row_or.Given as goal

abbrev pub invariant-loop-row : goal.invariant-loop-row
invariant-loop-row l = row_name_or (drop l.row-index l.rows) l.base l.other ≡ row_name_or l.rows l.base l.other
