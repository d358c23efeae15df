-- Without a count it is the usual one.
use Rattle.kpn_command_line.proofs.Common.{◌∙◌, ap, sym, unwrap_or}
use Rattle.kpn_command_line.proofs.words.count_or_usual.Goals as goal

pub returns : goal.returns
returns c = ap (λ n. unwrap_or n 10000000) c.count_of.ensures ∙ sym c.unwrap_or.ensures
