use Rattle.kpn_book.proofs.Common.{sym, ◌∙◌, subst, ChannelState, Agrees, book_of, by_number}
use Rattle.kpn_book.proofs.Agreeing.{Agrees-of}
use Rattle.kpn_book.proofs.book.Book.into_view.Goals as goal

pub returns-clause-agrees : goal.returns-clause-agrees
returns-clause-agrees c =
    let told = c.in_ok-view.ensures in
    let step = c.self.invariant.in_step in
    let long = c.channels-channels.ensures ∙ sym step.run.shape.channels in
    let journals =
    c.in_ok-view-2.ensures
    ∙ by_number (λ (channel : ChannelState). channel.journal) (book_of c.self.inside.parts).machine
    c.channels-channels.result long in
    subst (λ b. Agrees b.tables b.history (record c.in_ok-view.view { journals = c.in_ok-view-2.field-0 }))
    c.self.view_is
    (Agrees-of (book_of c.self.inside.parts) step c.channels-channels.result
    c.channels-channels.ensures (record c.in_ok-view.view { journals = c.in_ok-view-2.field-0 }) journals
    told.read told.caps told.retired told.states told.counts)
