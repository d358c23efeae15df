use Rattle.kpn_history.proofs.OneEnd.{made_no_more}
use Rattle.kpn_history.proofs.end_laws.no_run_makes_more.Goals as goal

pub returns : goal.returns
returns c t network given H G run over = made_no_more t network given G over H run
