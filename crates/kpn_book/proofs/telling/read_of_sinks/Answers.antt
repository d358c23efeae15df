use Rattle.kpn_book.proofs.Common.{◌≡◌, length, map, sym, ap, ◌∙◌, arith, filter, range_with_len, channel_at, is_sink, first_read}
use Rattle.kpn_book.proofs.Parts.{kept_more, kept_same}
use Rattle.kpn_book.proofs.Told.{journals_there, reads_there, within, reads_of_sinks}
use Rattle.kpn_book.proofs.telling.read_of_sinks.Goals.{then-is_sink+in_ok-items+in-Ok, else-is_sink}
use Rattle.kpn_book.proofs.telling.read_of_sinks.Goals as goal

pub read_of-requires-clause-journal : goal.read_of-requires-clause-journal
read_of-requires-clause-journal c =
    let long = journals_there c.args.network.now c.requires.0 c.requires.1 c.args.view.now c.requires.2 in
    omega (arith, c.channels-c-end.ensures, c.channels-test.true)

pub read_of-requires-clause-read : goal.read_of-requires-clause-read
read_of-requires-clause-read c =
    let long = reads_there c.args.network.now c.requires.0 c.requires.1 c.args.view.now c.requires.2 in
    omega (arith, c.channels-c-end.ensures, c.channels-test.true)

pub read_of-requires-clause-within : goal.read_of-requires-clause-within
read_of-requires-clause-within c =
    within c.args.network.now c.requires.0 c.requires.1 c.args.view.now c.requires.2 c.channels.c
    (omega (arith, c.channels-c-end.ensures, c.channels-test.true))

pub channels-preserved : goal.channels-preserved
channels-preserved c =
    elim c.if-is_sink.branch [
      | then-is_sink+in_ok-items+in-Ok w ↦
          kept_more (λ d. is_sink (channel_at c.args.network.now d)) (first_read c.args.view.now) c.channels.c
          c.channels.taken.items _ _ c.channels.invariant (sym c.is_sink.ensures ∙ w.if-is_sink.true)
          (ap (λ v. v.items) w.taken-is ∙ w.in-Ok.ensures.items) w.in_ok-items.ensures
      | else-is_sink w ↦
          kept_same (λ d. is_sink (channel_at c.args.network.now d)) (first_read c.args.view.now) c.channels.c
          c.channels.taken.items _ c.channels.invariant (sym c.is_sink.ensures ∙ w.if-is_sink.false)
          (ap (λ v. v.items) w.taken-is)
    ]

pub returns : goal.returns
returns c H legal agrees =
    let end : c.channels.c ≡ length c.args.network.now.channels =
    omega (arith, c.channels-c-end.ensures, c.channels-test.false, c.channels.auto.c-end) in
    c.from_vec.ensures ∙ c.channels.invariant
    ∙ ap (λ n. map (first_read c.args.view.now)
    (filter (λ d. is_sink (channel_at c.args.network.now d)) (range_with_len 0 n))) end
    ∙ reads_of_sinks c.args.network.now H legal c.args.view.now agrees
