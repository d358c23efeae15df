-- The place is the first of its byte.
use Rattle.std.proofs.Common.{sym, ◌∙◌}
use Rattle.kpn_trace.proofs.Parting.{LacksByte-nowhere, parted_at}
use Rattle.kpn_trace.proofs.words.parted.Goals as goal

pub returns-in_err-place : goal.returns-in_err-place
returns-in_err-place c =
    rw c.from_residual.ensures
    (LacksByte-nowhere c.args.byte c.args.bytes.now (sym c.place_of.ensures ∙ c.in_err-place.was))

pub returns : goal.returns
returns c = parted_at c.args.byte c.args.bytes.now c.in_ok-place.place (sym c.place_of.ensures ∙ c.in_ok-place.was)
