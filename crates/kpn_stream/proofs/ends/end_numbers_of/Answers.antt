use Rattle.kpn_net.specs.Tables.{is_source, is_sink}
use Rattle.kpn_stream.proofs.Handling.{end_more}
use Rattle.kpn_stream.proofs.ends.end_numbers_of.Goals as goal

pub channels-preserved : goal.channels-preserved
channels-preserved c =
    let t = c.args.network.now in
    record {
      sources =
          end_more is_source t c.channels.c _ _ _ c.channels.invariant.sources c.is_source.ensures
          c.in_ok-add_if.ensures;
      sinks =
          end_more is_sink t c.channels.c _ _ _ c.channels.invariant.sinks c.is_sink.ensures
          c.in_ok-add_if-2.ensures;
    }
