-- The printed text is read again by the law of printing.
use Rattle.kpn_text.proofs.RoundTrip.{text_reads_again}
use Rattle.kpn_text.proofs.printing.print_network.Goals as goal

pub returns-clause-again : goal.returns-clause-again
returns-clause-again c =
    text_reads_again (λ v. v.items) c.read_again.ensures c.args.document.now c.known.ensures
    c.language.result c.names.result.now c.network.result.now c.language.ensures c.names.ensures.names
    c.network.ensures c.canonical_text.result c.canonical_text.ensures
