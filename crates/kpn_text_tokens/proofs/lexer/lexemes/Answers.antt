-- A turn moves the lexeme of the piece at the front, if it has one, from the rest to what was found.
use Rattle.std.proofs.Common.{◌<◌, length, ◌∙◌, arith}
use Rattle.kpn_text_tokens.proofs.Scanning.{Advances, gap_advances, token_advances}
use Rattle.kpn_text_tokens.proofs.lexer.lexemes.Goals as goal
use Rattle.kpn_text_tokens.proofs.lexer.lexemes.Goals.{in-Gap, in-Token+in_ok-push-in-Token}

pub loop-rest-preserved : goal.loop-rest-preserved
loop-rest-preserved c =
    let rest = c.loop-rest.rest.now in
    let some : 0 < length rest = grind arith in
    let turn : Advances c.args.language c.loop-rest.start rest c.loop-rest.found.items c.match-first_piece.length
    c.match-first_piece.found.items = elim c.match-first_piece.branch [
      | in-Gap w ↦ rw (w.length-is, w.found-is) (gap_advances _ _ _ rest _
          (record { some = some; is = w.in-Gap.ensures.value }))
      | in-Token+in_ok-push-in-Token w ↦ rw (w.length-is, w.found-is, w.in_ok-push-in-Token.ensures.items)
          (token_advances _ _ _ rest _ _ (record { some = some; is = w.in-Token.ensures.value }))
    ] in
    record {
      whole = rw c.split_at.ensures.back (turn.whole ∙ c.loop-rest.invariant.whole);
      place = omega (arith, turn.within, c.split_at.ensures.back_len, c.loop-rest.invariant.place);
    }
