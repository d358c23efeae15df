-- What is written so far are the items so far.
use Rattle.kpn_command_base.proofs.Common.{◌≡◌, ◌++◌, take, string_bytes, spaced_items}
use Rattle.kpn_command_base.proofs.list_text.push_spaced_items.Given as goal

abbrev pub invariant-loop-item : goal.invariant-loop-item
invariant-loop-item l = string_bytes l.text ≡ string_bytes l.initial.text ++ spaced_items (take l.item-index l.items)
