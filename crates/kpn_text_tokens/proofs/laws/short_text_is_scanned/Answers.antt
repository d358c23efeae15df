-- The limit is not passed.
use Rattle.kpn_text_tokens.proofs.TokenLaws.{short_text}
use Rattle.kpn_text_tokens.proofs.laws.short_text_is_scanned.Goals as goal

pub returns : goal.returns
returns c = short_text
