-- The run, from standard input and output as they were to what they are afterwards.
use Rattle.std.proofs.Common.{refl, rules, ap, subst}
use Rattle.kpn_book.specs.Remembering.{Remembers}
use Rattle.kpn_command_stream.proofs.Keeping.{ran_by, watched_by}
use Rattle.kpn_command_stream.proofs.running.run_between.Goals as goal

pub returns-clause-ran : goal.returns-clause-ran
returns-clause-ran g c =
    record {
      first_input = _;
      last_input = c.run_over.new.sources;
      first_output = _;
      last_output = c.run_over.new.sinks;
      ran =
          ran_by _ _ _ _ _ _ _ _ _ _ _ _ _ c.limits_of-limits.ensures c.network-network.ensures
          c.in_ok-streamed.ensures.ran;
      inputs_are = refl;
      input_is = refl;
      input_read = search rules;
      outputs_are = refl;
      output_is = refl;
      output_written = search rules;
    }

pub returns-clause-kept : goal.returns-clause-kept
returns-clause-kept g c =
    subst (λ keeping. Remembers keeping c.in_ok-streamed.streamed.book) c.keeping_of.ensures
    c.in_ok-streamed.ensures.kept

pub returns-clause-told : goal.returns-clause-told
returns-clause-told g c =
    record {
      first = _;
      last = c.run_over.new.watcher;
      watched =
          watched_by g.E.Teller.tells _ _ _ _ _ c.run_over.new.watcher c.network-network.ensures
          c.in_ok-streamed.ensures.watched;
      document = refl;
      stops = ap (λ r. r.stops) c.request.view_is;
      none_ended = refl;
      begins = refl;
      ends = search rules;
    }
