-- Bytes have moved from the device to the window, and no others. None has moved if the first ones tell the answer, or if
-- a look has failed before.
use Rattle.std.proofs.Common.{◌≡◌, ◌<◌, None}
use Rattle.kpn_stream_devices.specs.SourceInputs.{IsInputAsked}
use Rattle.kpn_stream_devices.proofs.inputs.next_of.Given as goal

abbrev pub invariant-loop-read : goal.invariant-loop-read
invariant-loop-read g l = record {
  asked : IsInputAsked g.I.Read.remaining g.F.Read.remaining l.fn.standard l.fn.input l.standard l.input;
  unfailed : 0 < l._read → l.fn.input.failed ≡ None;
}
