-- Behind white space or a comment the first token is the same.
use Rattle.std.proofs.Common.{◌<◌, length, ◌∙◌, arith}
use Rattle.kpn_text_tokens.specs.declared.lexer.Piece.TheVariants as piece
use Rattle.kpn_text_tokens.specs.declared.tokens.Language.TheVariants as language
use Rattle.kpn_text_tokens.proofs.Openings.{first_gap}
use Rattle.kpn_text_tokens.proofs.Scanning.{BeginsWith}
use Rattle.kpn_text_tokens.proofs.opening.behind.Goals as goal

pub loop-rest-preserved : goal.loop-rest-preserved
loop-rest-preserved c =
    let rest = c.loop-rest.rest.now in
    let some : 0 < length rest = grind arith in
    let begins : BeginsWith language.One rest (piece.Gap c.in-Gap.length) =
    record { some = some; is = c.in-Gap.ensures.value } in
    rw c.split_at.ensures.back (first_gap rest c.in-Gap.length begins ∙ c.loop-rest.invariant)
