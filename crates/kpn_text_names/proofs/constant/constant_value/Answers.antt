-- Nothing is known, so no name is left.
use Rattle.kpn_text_names.proofs.Common.{◌≡◌, Ok, subst, term_of, term, NameScope, term_in}
use Rattle.kpn_text_names.proofs.Closed.{closed}
use Rattle.kpn_text_names.proofs.constant.constant_value.Goals as goal

pub value-requires : goal.value-requires
value-requires c =
    closed (term c.args.expression.now) (term_of c.in-Ok.closed)
    (subst (λ (s : NameScope). term_in s (term c.args.expression.now) ≡ Ok (term_of c.in-Ok.closed)) c.new-scope.ensures
    c.in-Ok.ensures)
