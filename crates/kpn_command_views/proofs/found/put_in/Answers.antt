-- The journal is that of the channel.
use Rattle.std.proofs.Common.{ℤ, List, [], length, slice_index_or, ap, ◌∙◌}
use Rattle.kpn_command_views.proofs.found.put_in.Goals as goal

pub returns-in-Some : goal.returns-in-Some
returns-in-Some c =
    c.len.ensures ∙ ap length (c.in-Some.ensures.lookup.3.1 [])
    ∙ ap (λ (journals : List (List ℤ)). length (slice_index_or journals c.args.c [])) c.as_slice.ensures
