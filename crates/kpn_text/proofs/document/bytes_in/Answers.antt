-- The name is the one with the number.
use Rattle.std.proofs.Common.{[], ◌∙◌}
use Rattle.kpn_text.proofs.document.bytes_in.Goals as goal

pub returns-in-Some : goal.returns-in-Some
returns-in-Some c = c.as_slice.ensures ∙ c.in-Some.ensures.lookup.3.1 []
