-- The first token of the rest is that of the whole text.
use Rattle.kpn_text_tokens.proofs.Common.{◌≡◌, length, first_token}
use Rattle.kpn_text_tokens.proofs.opening.behind.Given as goal

abbrev pub invariant-loop-rest : goal.invariant-loop-rest
invariant-loop-rest l = first_token 0 l.rest ≡ first_token 0 l.text

abbrev pub decreases-loop-rest : goal.decreases-loop-rest
decreases-loop-rest l = length l.rest
