-- What std says of the digits of a number.
use Rattle.kpn_text_tokens.proofs.WithoutPlaces.{decimal_spelled}
use Rattle.kpn_text_tokens.proofs.laws.decimal_is_spelled.Goals as goal

pub returns : goal.returns
returns c = decimal_spelled
