use Rattle.kpn_history.proofs.Progress.{next_is_made, others_are_made}
use Rattle.kpn_history.proofs.Standing.{run_before}
use Rattle.kpn_history.proofs.progress_laws.one_more_is_made.Goals as goal

pub returns-clause-turn : goal.returns-clause-turn
returns-clause-turn c t network given B e more G now run made p own turn =
    next_is_made t network given B e more p own G now run made turn

pub returns-clause-others : goal.returns-clause-others
returns-clause-others c t network given B e more G run served nothing made no_process =
    others_are_made t network given B G (run_before t network given B e more) run served nothing made e more.legal
    no_process
