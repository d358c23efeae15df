use Rattle.kpn_book.proofs.Common.{ap, sym, subst, ◌∙◌, IsPrefix, channel_in}
use Rattle.kpn_book.proofs.Journals.{prefix_from_take, take_from_prefix}
use Rattle.kpn_book.proofs.book.Book.journal_begins.Goals as goal

pub returns : goal.returns
returns g c =
    let items = c.args.items.now in
    let journal = c.channel.result.now.journal in
    let same = c.channel.ensures ∙ ap (λ b. channel_in b.machine c.args.c) c.self.view_is in
    let is = ap (λ x. x.journal) same in
    let kept = ap (λ x. x.is_kept) same in (
      λ begins.
          let told = c.begins_with.ensures.0 begins in
          (sym kept ∙ told.0, subst (IsPrefix items) is (prefix_from_take items journal told.1)),
      λ told.
          c.begins_with.ensures.1
          (kept ∙ told.0, take_from_prefix items journal (subst (IsPrefix items) (sym is) told.1)),
    )
