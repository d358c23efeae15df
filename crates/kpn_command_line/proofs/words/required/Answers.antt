-- The word is the text that the words give. The fault comes only if there is none.
use Rattle.std.proofs.Common.{◌∙◌, ap, option_map}
use Rattle.kpn_command_line.proofs.Nothing.{usage_if}
use Rattle.kpn_command_line.proofs.words.required.Goals as goal

pub returns-in-Some : goal.returns-in-Some
returns-in-Some c = c.text_of.ensures ∙ ap (option_map (λ word. word.now)) c.in-Some.is

pub returns-in-None : goal.returns-in-None
returns-in-None c =
    usage_if _ c.unclear.result (c.text_of.ensures ∙ ap (option_map (λ word. word.now)) c.in-None.is)
