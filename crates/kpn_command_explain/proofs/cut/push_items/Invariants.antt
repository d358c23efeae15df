-- What is written so far are the items so far.
use Rattle.std.proofs.Common.{◌≡◌, ◌++◌, take}
use Rattle.std.specs.String.{string_bytes}
use Rattle.kpn_command_base.specs.ListText.{spaced_items}
use Rattle.kpn_command_explain.proofs.cut.push_items.Given as goal

abbrev pub invariant-loop-item : goal.invariant-loop-item
invariant-loop-item l = string_bytes l.text ≡ string_bytes l.initial.text ++ spaced_items (take l.item-index l.items)
