-- The ends so far do not have the name.
use Rattle.kpn_command_base.proofs.Common.{◌≡◌, take, drop, count_by, is_end, end_number, end_from}
use Rattle.kpn_command_base.proofs.sources.number_of.Given as goal

abbrev pub invariant-loop-channel : goal.invariant-loop-channel
invariant-loop-channel l =
    let d = l.document in
    record {
      later : end_number l.ends d l.name
          ≡ end_from (is_end l.ends) d.names.channels l.name l.number l.channel (drop l.channel d.tables.channels);
      count : l.number ≡ count_by (is_end l.ends) (take l.channel d.tables.channels);
    }
