-- The files of the sinks so far have joined the outputs, which are apart.
use Rattle.kpn_command_base.proofs.Common.{◌≡◌, ◌++◌, map, take, AreNamesApart}
use Rattle.kpn_command_base.proofs.outputs.add_sinks.Given as goal

abbrev pub invariant-loop-sink : goal.invariant-loop-sink
invariant-loop-sink g l = record {
  added : map (λ name. name.now) l.outputs.items
      ≡ map (λ name. name.now) l.initial.outputs.items ++ map (λ o. o.file.now) (take l.sink-index l.sinks);
  apart : AreNamesApart l.asked (map (λ name. name.now) l.outputs.items);
}
