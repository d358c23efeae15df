use Rattle.kpn_c.proofs.Common.{sym, ap, ◌∙◌, subst, IsBook, book_on}
use Rattle.kpn_c.proofs.session.attached.Goals as goal

pub attach-requires : goal.attach-requires
attach-requires c =
    let same = c.network.ensures ∙ ap (λ d. d.tables) c.deref.ensures in
    subst (λ t. IsBook (book_on t c.args.detached)) (sym same) c.requires

pub returns : goal.returns
returns c =
    let same = c.network.ensures ∙ ap (λ d. d.tables) c.deref.ensures in
    c.attach.ensures ∙ ap (λ t. book_on t c.args.detached) same
