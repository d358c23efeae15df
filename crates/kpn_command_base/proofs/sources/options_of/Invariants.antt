-- The options so far are those of the words so far.
use Rattle.kpn_command_base.proofs.Common.{◌≡◌, All, map, take, HasEquals, name_in, file_in}
use Rattle.kpn_command_base.proofs.sources.options_of.Given as goal

abbrev pub invariant-loop-word : goal.invariant-loop-word
invariant-loop-word l = record {
  names : map (λ o. o.name.now) l.options.items ≡ map (λ word. name_in word.now) (take l.word-index l.words);
  files : map (λ o. o.file.now) l.options.items ≡ map (λ word. file_in word.now) (take l.word-index l.words);
  cut : All (λ word. HasEquals word.now) (take l.word-index l.words);
}
