-- The ends are those of the network.
use Rattle.std.proofs.Common.{◌∙◌, ℕ, List, IfErr, map, ap, sym, subst}
use Rattle.kpn_command_stream.proofs.Common.{is_source, is_sink, EndKind, is_end, end_numbers, IsUnplacedBy}
use Rattle.kpn_command_stream.proofs.places.places_by.Goals as goal

pub returns-in-Sources-clause-cause : goal.returns-in-Sources-clause-cause
returns-in-Sources-clause-cause c =
    subst (λ (channels : List ℕ). IfErr c.place_each.result
    (IsUnplacedBy c.args.ends c.args.document.now c.args.named.now channels (map (λ word. word.now) c.args.formats.now)))
    (c.deref.ensures.value ∙ c.in_ok-numbers.ensures.sources ∙ ap (end_numbers is_source) c.network.ensures
    ∙ ap (λ (e : EndKind). end_numbers (is_end e) c.args.document.now.tables) (sym c.in-Sources.is))
    c.place_each.ensures.cause

pub returns-clause-cause : goal.returns-clause-cause
returns-clause-cause c =
    subst (λ (channels : List ℕ). IfErr c.place_each-in-Sinks.result
    (IsUnplacedBy c.args.ends c.args.document.now c.args.named.now channels (map (λ word. word.now) c.args.formats.now)))
    (c.deref-in-Sinks.ensures.value ∙ c.in_ok-numbers.ensures.sinks ∙ ap (end_numbers is_sink) c.network.ensures
    ∙ ap (λ (e : EndKind). end_numbers (is_end e) c.args.document.now.tables) (sym c.in-Sinks.is))
    c.place_each-in-Sinks.ensures.cause
