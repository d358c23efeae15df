use Rattle.kpn_history.proofs.EndsOnce.{ended_exactly, ends_once, ends_one_way}
use Rattle.kpn_history.proofs.event_laws.a_process_ends_once.Goals as goal

pub returns-clause-among : goal.returns-clause-among
returns-clause-among c = ended_exactly

pub returns-clause-once : goal.returns-clause-once
returns-clause-once c = ends_once

pub returns-clause-one_way : goal.returns-clause-one_way
returns-clause-one_way c = ends_one_way
