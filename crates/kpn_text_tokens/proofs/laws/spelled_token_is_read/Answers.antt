-- The scan of a spelled token, without its place.
use Rattle.kpn_text_tokens.proofs.WithoutPlaces.{spelled_token}
use Rattle.kpn_text_tokens.proofs.laws.spelled_token_is_read.Goals as goal

pub returns : goal.returns
returns c = spelled_token
