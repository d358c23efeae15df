-- The places, the run between them, and the end.
use Rattle.std.proofs.Common.{List, IfErr, rules, subst}
use Rattle.kpn_command_stream.proofs.Common.{IfErr-weaker, AreSinkPlaces, AreSourcePlaces, EndWords, IsDeviceRefusal, IsUnstreamed, OfCommon, end_words_of, end_words_in, IsStreamConcluded, Lost}
use Rattle.kpn_command_stream.proofs.Refusing.{no_device}
use Rattle.kpn_command_stream.proofs.command.stream_document.Goals as goal

pub returns-clause-streamed : goal.returns-clause-streamed
returns-clause-streamed g c =
    let d = c.args.document.now in
    let places = c.in_ok-places.ensures in
    let ending = c.in_ok-streamed.streamed.ending in
    let book = c.in_ok-streamed.streamed.book in
    record {
      places = c.in_ok-places.places;
      asked_for = record {
        sources =
            subst (λ (words : EndWords). AreSourcePlaces d words c.in_ok-places.places.sources.items) c.requires.ends
            places.sources;
        sinks =
            subst (λ (words : EndWords). AreSinkPlaces d words c.in_ok-places.places.sinks.items) c.requires.ends
            places.sinks;
        formats = places.formats;
      };
      own_inputs = places.own_inputs;
      ending = ending;
      book = book;
      lost = c.run.new.lost.items;
      ran = c.in_ok-streamed.ensures.ran;
      remembers = c.in_ok-streamed.ensures.kept;
      heard = c.run.new.err;
      was_told = c.in_ok-streamed.ensures.told;
      concluded =
          subst
          (λ (lost : List Lost).
          IsStreamConcluded g.S.Shelf.may_give g.E.Write.contents c.args.request.now d ending book lost c.args.shelf.now
          c.conclude.new.shelf c.run.new.err c.conclude.new.err c.conclude.result) c.deref.ensures.value
          c.conclude.ensures;
    }

pub returns-in_err-places-clause-cause : goal.returns-in_err-places-clause-cause
returns-in_err-places-clause-cause g c =
    let may_alias = g.S.Shelf.may_alias c.args.shelf.now in
    let may_share = g.S.Ports.may_share c.args.shelf.now in
    let d = c.args.document.now in
    let words = end_words_in c.args.words.now c.args.request.now.formats in
    let cause : IfErr c.from_residual.result (IsUnstreamed may_alias may_share d words) = search rules in
    subst (λ (words : EndWords). IfErr c.from_residual.result (IsUnstreamed may_alias may_share d words))
    c.requires.ends cause

pub returns-in_err-make_ready-clause-cause : goal.returns-in_err-make_ready-clause-cause
returns-in_err-make_ready-clause-cause g c =
    let may_alias = g.S.Shelf.may_alias c.args.shelf.now in
    let may_share = g.S.Ports.may_share c.args.shelf.now in
    let cause : IfErr c.from_residual-in_err-make_ready.result (OfCommon IsDeviceRefusal) = search rules in
    IfErr-weaker c.from_residual-in_err-make_ready.result (OfCommon IsDeviceRefusal) _
    (no_device may_alias may_share c.args.document.now (end_words_of c.args.request.now)) cause

pub returns-in_err-streamed-clause-cause : goal.returns-in_err-streamed-clause-cause
returns-in_err-streamed-clause-cause g c =
    let may_alias = g.S.Shelf.may_alias c.args.shelf.now in
    let may_share = g.S.Ports.may_share c.args.shelf.now in
    let cause : IfErr c.from_residual-in_err-streamed.result (OfCommon IsDeviceRefusal) = search rules in
    IfErr-weaker c.from_residual-in_err-streamed.result (OfCommon IsDeviceRefusal) _
    (no_device may_alias may_share c.args.document.now (end_words_of c.args.request.now)) cause
