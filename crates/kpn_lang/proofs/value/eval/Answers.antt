-- An expression without cells has its value whatever cells there are.
use Rattle.kpn_lang.proofs.Common.{◌∙◌, length, term_of}
use Rattle.kpn_lang.proofs.Cells.{names_all, value_plain}
use Rattle.kpn_lang.proofs.value.eval.Goals as goal

pub eval_in-requires : goal.eval_in-requires
eval_in-requires c = names_all (length c.args.variables.now) _ (term_of c.args.expr.now) c.requires

pub returns : goal.returns
returns c = c.eval_in.ensures ∙ value_plain (term_of c.args.expr.now) c.args.variables.now _ c.requires
