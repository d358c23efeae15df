-- Both journals begin one iterate.
use Rattle.kpn_parts.proofs.Agree.{one_begins_other, first_items, joined_run, legal_run, same_if_complete, same_at_rest}
use Rattle.kpn_parts.proofs.laws.cuts_change_no_item.Goals as goal

pub returns-clause-journals : goal.returns-clause-journals
returns-clause-journals c = λ t network cut is order joined H legal given begun other d.
    one_begins_other t given _ H (joined_run t network cut is given order joined begun)
    (legal_run t network given H legal other) d

pub returns-clause-first_items : goal.returns-clause-first_items
returns-clause-first_items c = λ t network cut is order joined H legal given begun other d k.
    first_items t given _ H (joined_run t network cut is given order joined begun)
    (legal_run t network given H legal other) d k

pub returns-clause-two_cuts : goal.returns-clause-two_cuts
returns-clause-two_cuts c = λ t network cut other is is_too order joined another joined_too given begun begun_too d k.
    first_items t given _ _ (joined_run t network cut is given order joined begun)
    (joined_run t network other is_too given another joined_too begun_too) d k

pub returns-clause-complete : goal.returns-clause-complete
returns-clause-complete c = λ t network cut is order joined H legal given f g d complete complete_too.
    same_if_complete t network cut is order joined H legal given f g d complete complete_too

pub returns-clause-at_rest : goal.returns-clause-at_rest
returns-clause-at_rest c = λ t network cut is order joined H legal quiet quiet_too agree d.
    same_at_rest t network cut is order joined H legal quiet quiet_too agree d
