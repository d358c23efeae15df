-- The value of an expression without names.
use Rattle.std.specs.Prelude.{◌≡◌, ℤ, true, [], Option, Some, None, Result, Ok, Err}
use Rattle.kpn_lang.specs.Syntax.{Term, term_of, names_below}
use Rattle.kpn_lang.specs.Value.{value}
use Rattle.kpn_lang.specs.declared.syntax.Expr.{Expr}
use Rattle.kpn_lang.specs.declared.value.Fault.{Fault}
use Rattle.kpn_text_grammar.specs.Syntax.{ExpressionNode}
use Rattle.kpn_text_names.specs.declared.scope.NameScope.{NameScope}
use Rattle.kpn_text_names.specs.Fault.{NameError}
use Rattle.kpn_text_names.specs.Body.{term_in}
use Rattle.kpn_text_names.specs.Scope.{scope_with}

-- no name is known
abbrev pub nothing_known : NameScope
nothing_known = scope_with [] [] []

abbrev pub if_any : Result ℤ Fault → Option ℤ
if_any (Ok v) = Some v
if_any (Err fault) = None

abbrev pub of_term : Result Term NameError → Option ℤ
of_term (Ok t) = if_any (value t [])
of_term (Err error) = None

-- the value of an expression, if it has no name and no fault
abbrev pub constant_value : ExpressionNode → Option ℤ
constant_value e = of_term (term_in nothing_known e)

-- Scaffolding, of the call that computes it: the expression has no names.
abbrev pub HasNoNames : Expr → Type 0
HasNoNames e = names_below 0 (term_of e) ≡ true

abbrev pub computed : Expr → Option ℤ
computed e = if_any (value (term_of e) [])
