-- The name is the one with the number.
use Rattle.kpn_text.proofs.Common.{[], sym, subst, ◌∙◌, IsUtf8}
use Rattle.kpn_text.proofs.document.name_in.Goals as goal

pub text_of-requires : goal.text_of-requires
text_of-requires c = subst IsUtf8 (sym (c.as_slice.ensures ∙ c.in-Some.ensures.lookup.3.1 [])) c.requires

pub returns-in-Some : goal.returns-in-Some
returns-in-Some c = c.text_of.ensures ∙ c.as_slice.ensures ∙ c.in-Some.ensures.lookup.3.1 []
