-- The lists are those of the channels, and the text is that of the lists.
use Rattle.kpn_commands.proofs.Common.{◌≡◌, ap, ◌∙◌, refl, given_by, iterate, lists_of, rounds_text}
use Rattle.kpn_commands.proofs.rounds.rounds_command.Goals as goal

pub returns-clause-ok : goal.returns-clause-ok
returns-clause-ok g c =
    let d = c.in_ok-inputs.inputs.document in
    let n = c.args.n in
    let slice : c.as_slice.result.now ≡ c.in_ok-lists.lists = c.as_slice.ensures in
    let text : c.in_ok-text.text.items ≡ rounds_text d.names.channels c.as_slice.result.now = c.in_ok-text.ensures in
    let net : c.network.result.now ≡ d.tables = c.network.ensures in (
      record {
        document = d;
        given = c.in_ok-inputs.inputs.given.items;
        are_inputs = c.in_ok-inputs.ensures.ok;
        made =
            text
            ∙ ap (rounds_text d.names.channels) (slice ∙ c.in_ok-lists.ensures)
            ∙ ap (λ t. rounds_text d.names.channels (lists_of t (iterate t (given_by t c.deref.result.now) n))) net
            ∙ ap
            (λ lists. rounds_text d.names.channels (lists_of d.tables (iterate d.tables (given_by d.tables lists) n)))
            c.deref.ensures.value;
      },
      refl,
      c.new.ensures.items,
    )
