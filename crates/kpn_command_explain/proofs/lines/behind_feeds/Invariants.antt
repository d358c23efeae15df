-- The bytes passed and those that remain lead to the same byte as all of them.
use Rattle.kpn_command_explain.proofs.Common.{◌≡◌, ◌+◌, drop, behind_feeds}
use Rattle.kpn_command_explain.proofs.lines.behind_feeds.Given as goal

abbrev pub invariant-loop-at : goal.invariant-loop-at
invariant-loop-at l = l.at + behind_feeds l.left (drop l.at l.text) ≡ behind_feeds l.feeds l.text
