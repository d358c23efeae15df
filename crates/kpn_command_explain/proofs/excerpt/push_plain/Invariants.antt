-- What is written so far.
use Rattle.std.proofs.Common.{◌≡◌, ◌++◌, take, map}
use Rattle.kpn_command_explain.specs.Excerpt.{plain}
use Rattle.kpn_command_explain.proofs.excerpt.push_plain.Given as goal

abbrev pub invariant-loop-byte : goal.invariant-loop-byte
invariant-loop-byte l = l.out.items ≡ l.initial.out.items ++ map plain (take l.byte-index l.bytes)
