use Rattle.std.proofs.Common.{◌<◌, length}
use Rattle.kpn_machine.proofs.Complete.{WalkedHere}
use Rattle.kpn_machine.proofs.machine.Machine.is_complete.Given as goal

abbrev pub invariant-loop-step : goal.invariant-loop-step
invariant-loop-step g l =
    record {
      there : l.at < length l.network.channels;
      walked : WalkedHere l.network l.self l.c l._step l.at;
    }
