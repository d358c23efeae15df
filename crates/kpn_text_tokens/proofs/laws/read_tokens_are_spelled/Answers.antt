-- By the rule that read each token.
use Rattle.kpn_text_tokens.proofs.WithoutPlaces.{read_spelled}
use Rattle.kpn_text_tokens.proofs.laws.read_tokens_are_spelled.Goals as goal

pub returns : goal.returns
returns c = read_spelled
