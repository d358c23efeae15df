use Rattle.kpn_commands.proofs.Common.{◌≡◌, ◌<◌, ℕ, true, part_at, is_part_at_rest}
use Rattle.kpn_commands.proofs.join.is_at_rest.Given as goal

abbrev pub invariant-loop-r : goal.invariant-loop-r
invariant-loop-r l = (s : ℕ) → s < l.r → is_part_at_rest (part_at l.parts s) l.homes l.audits s ≡ true
