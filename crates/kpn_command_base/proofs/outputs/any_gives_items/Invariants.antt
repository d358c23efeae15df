-- The words so far give no source the items of the file of this name.
use Rattle.kpn_command_base.proofs.Common.{◌≢◌, All, take, HasEquals, file_in}
use Rattle.kpn_command_base.proofs.outputs.any_gives_items.Given as goal

abbrev pub invariant-loop-word : goal.invariant-loop-word
invariant-loop-word g l =
    All (λ word. HasEquals word.now → l.name ≢ file_in word.now) (take l.word-index l.words)
