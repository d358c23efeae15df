-- By induction on the text.
use Rattle.kpn_text_tokens.proofs.WithoutPlaces.{tokens_keep}
use Rattle.kpn_text_tokens.proofs.laws.tokens_keep_their_kind.Goals as goal

pub returns : goal.returns
returns c = tokens_keep
