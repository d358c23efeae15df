use Rattle.kpn_pool_desk.proofs.Common.{rules, ◌≡◌, ◌∙◌, true, List, ℤ, length, ap, sym, subst, eqb-true, nil_from_length, IsPrefix, channel_at, is_source, channel_in, shown_on, begins_shown}
use Rattle.std.specs.Bool.{IsTrue}
use Rattle.kpn_pool_desk.proofs.Seating.{kept_all}
use Rattle.kpn_pool_desk.proofs.outside_seats.SourceSeat.snapshot.Goals as goal
use Rattle.kpn_pool_desk.proofs.outside_seats.SourceSeat.snapshot.Goals.{else-not-is_empty-via-then-not-is_empty+else-not-journal_begins, else-not-is_empty-via-else-not-is_empty}

pub returns-clause-fresh : goal.returns-clause-fresh
returns-clause-fresh g c =
    let seat = c.args.self.now in
    let b = c.args.desk.now.book in
    let shown = shown_on c.in_ok-snapshot.field-0 seat.channel in
    let same : c.desk.inside.book ≡ b = ap (λ d. d.book) c.desk.view_is in
    let all = kept_all seat (sym c.has_forgotten.ensures ∙ c.if-has_forgotten.false) in
    elim c.else-not-is_empty.branch [
      | else-not-is_empty-via-then-not-is_empty+else-not-journal_begins w ↦
          let source : is_source (channel_at b.tables seat.channel) ≡ true = search rules in
          let begun : IsTrue w.journal_begins.result = search rules in
          let told = w.journal_begins.ensures.0 begun in
          let begins : IsPrefix seat.items (channel_in b.machine seat.channel).journal = search rules in
          begins_shown b c.in_ok-snapshot.field-0 c.in_ok-snapshot.ensures.journals seat.channel source seat.items begins
      | else-not-is_empty-via-else-not-is_empty w ↦
          let empty : c.is_empty.result ≡ true = search rules in
          let zero : length c.fed.result.now ≡ 0 = eqb-true _ _ (sym c.is_empty.ensures ∙ empty) in
          let none = nil_from_length seat.items (ap length (sym (c.fed.ensures.kept ∙ all)) ∙ zero) in
          subst (λ (l : List ℤ). IsPrefix l shown) (sym none) tt
    ]
