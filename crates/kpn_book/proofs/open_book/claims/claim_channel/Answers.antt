use Rattle.kpn_book.proofs.Common.{◌<◌, length, sym, ap, ◌∙◌, subst, Reads-reader_of, Writes-writer_of, writer_of, is_end_within}
use Rattle.kpn_book.proofs.Claiming.{on_ok}
use Rattle.kpn_book.proofs.open_book.claims.claim_channel.Goals as goal

pub is_end_within-reads-requires : goal.is_end_within-reads-requires
is_end_within-reads-requires g c = λ p is.
    subst (λ t. p < length t.instances) c.requires.tables
    (Reads-reader_of c.args.network.now p c.args.c (sym c.reader_of.ensures ∙ is)).process

pub is_end_within-writes-requires : goal.is_end_within-writes-requires
is_end_within-writes-requires g c = λ p is.
    subst (λ t. p < length t.instances) c.requires.tables
    (Writes-writer_of c.args.network.now p c.args.c (sym c.writer_of.ensures ∙ is)).process

pub returns-clause-places : goal.returns-clause-places
returns-clause-places g c =
    on_ok c.claim_front.result
    (λ writes.
    c.in_ok-make_room.ensures.places
    (c.is_end_within-writes.ensures
    ∙ ap (λ s. is_end_within s c.writer_of.result) c.requires.fresh.same
    ∙ ap (is_end_within c.args.batch.now.first)
    (c.writer_of.ensures ∙ ap (λ t. writer_of t c.args.c) c.requires.tables)
    ∙ writes))
