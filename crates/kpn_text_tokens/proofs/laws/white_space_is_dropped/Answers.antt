-- The scan of white space, without the places.
use Rattle.kpn_text_tokens.proofs.WithoutPlaces.{white_dropped}
use Rattle.kpn_text_tokens.proofs.laws.white_space_is_dropped.Goals as goal

pub returns : goal.returns
returns c = white_dropped
