-- The stream, and what the outputs handed on then.
use Rattle.kpn_command_stream.proofs.Common.{◌∙◌, SourceInputs, SinkOutputs, InputsGive, InputsLook, OutputsTake, OutputsFlush, Takes, Flushes}
use Rattle.kpn_command_stream.proofs.Keeping.{watched_keeps, fed_keeps, served_keeps, handed_keeps, inputs_same, looks_same, outputs_same}
use Rattle.kpn_command_stream.proofs.running.run_over.Goals as goal

pub returns-clause-ran : goal.returns-clause-ran
returns-clause-ran g c =
    let left = g.I.Read.remaining in
    let left_in = g.F.Read.remaining in
    let holds = g.O.Write.contents in
    let holds_in = g.G.Write.contents in
    let s = c.in_ok-streamed.ensures in
    record {
      same_input =
          fed_keeps c.args.network.now (InputsGive left left_in) (InputsLook left left_in)
          (λ (x : SourceInputs g.row.I.Denot g.row.F.Denot). x.standard.ghost_name) (inputs_same left left_in)
          (looks_same left left_in) c.args.sources.now _ _ _ s.sources;
      same_output =
          handed_keeps (OutputsTake holds holds_in) (OutputsFlush holds holds_in) c.args.limits.now.take
          (λ (x : SinkOutputs g.row.O.Denot g.row.G.Denot). x.standard.ghost_name)
          (λ before k v answer. outputs_same (Takes holds holds_in v answer) before k answer)
          (λ before k answer. outputs_same (Flushes holds holds_in answer) before k answer) c.stream.new.sinks _ _ _
          c.flush_each.ensures
          ∙ served_keeps (OutputsTake holds holds_in) (OutputsFlush holds holds_in) c.args.limits.now.take
          (λ (x : SinkOutputs g.row.O.Denot g.row.G.Denot). x.standard.ghost_name)
          (λ before k v answer. outputs_same (Takes holds holds_in v answer) before k answer)
          (λ before k answer. outputs_same (Flushes holds holds_in answer) before k answer) c.args.sinks.now _ _ _ s.sinks;
      tables = s.network;
      book = s.book;
      fed = s.sources;
      served = c.stream.new.sinks;
      is_served = s.sinks;
      called = s.calls;
      flushed = s.flushed;
      is_ending = s.ending;
      taken = s.taken;
      commits = s.commits;
      handed_on = c.flush_each.ensures;
    }

pub returns-clause-same_err : goal.returns-clause-same_err
returns-clause-same_err g c =
    watched_keeps g.E.Teller.tells c.args.network.now c.args.watcher.now _ _ _ c.in_ok-streamed.ensures.watched
