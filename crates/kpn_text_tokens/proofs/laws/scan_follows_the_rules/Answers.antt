-- Each way by induction: on the scan, and on the rules.
use Rattle.kpn_text_tokens.proofs.Common.{List, Result, subst, LexFault, Lexeme, Reads}
use Rattle.kpn_text_tokens.proofs.Follows.{scan_rules}
use Rattle.kpn_text_tokens.proofs.TokenLaws.{rules_scan}
use Rattle.kpn_text_tokens.proofs.laws.scan_follows_the_rules.Goals as goal

pub returns : goal.returns
returns c l place text r = (
  λ e. subst (λ (r : Result (List Lexeme) LexFault). Reads l place text r) e
      (scan_rules l place text),
  rules_scan,
)
