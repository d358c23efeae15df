-- What was passed over and what goes on from there are the whole run.
use Rattle.kpn_text_tokens.proofs.Common.{◌≡◌, ◌+◌, ◌-◌, ◌≤◌, length, drop, prefix_len, is_in}
use Rattle.kpn_text_tokens.proofs.lexer.run.Given as goal

abbrev pub invariant-loop-end : goal.invariant-loop-end
invariant-loop-end l =
    (l.end + prefix_len (is_in l.class) (drop l.end l.text) ≡ prefix_len (is_in l.class) l.text)
    × (l.end ≤ length l.text)

abbrev pub decreases-loop-end : goal.decreases-loop-end
decreases-loop-end l = length l.text - l.end
