-- What is written so far, and what is still to come, are the text of all items put.
use Rattle.kpn_commands.proofs.Common.{◌≡◌, ◌++◌, drop, string_bytes, put_at}
use Rattle.kpn_text_items.specs.ItemFile.{item_text}
use Rattle.kpn_commands.proofs.alone_text.text_of.Given as goal

abbrev pub invariant-loop-said : goal.invariant-loop-said
invariant-loop-said l = string_bytes l.text ++ item_text (put_at (drop l.said-index l.talk) 0) ≡ item_text (put_at l.talk 0)
