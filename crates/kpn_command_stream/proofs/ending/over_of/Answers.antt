use Rattle.kpn_command_stream.proofs.Common.{sym, subst, AreStatesOf}
use Rattle.kpn_command_stream.proofs.Ringed.{ringed}
use Rattle.kpn_command_stream.proofs.ending.over_of.Goals as goal

pub returns : goal.returns
returns c =
    let t = c.network-network.result.now in
    record {
      sinks = c.in_ok-sinks.ensures;
      channels = c.in_ok-channels.ensures;
      after = c.outcome_at.new.book;
      outcome = c.in_ok-outcome.ensures;
      history = c.in_ok-states.ensures.history;
      states = c.in_ok-states.ensures.states;
      rings =
          ringed c.outcome_at.new.book c.known.ensures t c.network-network.ensures c.in_ok-states.states
          c.in_ok-states.ensures.states c.in_ok-rings.rings
          (λ H legal are. c.in_ok-rings.ensures H legal (subst (AreStatesOf t H) (sym c.as_slice.ensures) are));
    }
