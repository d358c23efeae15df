-- The times are those of the history of the trace.
use Rattle.kpn_command_views.proofs.Common.{List, length, count_by, refl, ap, ◌∙◌, Event, is_move}
use Rattle.kpn_command_views.proofs.StatsTold.{times_of_history}
use Rattle.kpn_command_views.proofs.times.times_of.Goals as goal

pub returns : goal.returns
returns c =
    times_of_history c.args.network.now c.args.trace.now _ _ _ refl refl c.in_ok-bounded.ensures c.in_ok-free.ensures
    c.in_ok-shares.ensures
    (ap (λ (events : List Event). length events) c.as_slice-events.ensures)
    (c.moves_among-moves.ensures ∙ ap (λ (events : List Event). count_by is_move events) c.as_slice-events.ensures)
