use Rattle.kpn_book.proofs.Common.{◌≡◌, ◌<◌, length, IsTrue, refl, sym, ap, subst, ◌∙◌, inl, inr, arith, w64, SFits, rules, to_z, of_z, to_z-of_z, Contains-get_or, instance_at, program_of, IsInstance-of, out_is_there, IsAtPort, channel_in, WritesTo, IsWriteTo, book_of, first_claimed, reserved_on, sink_by, Answered, AnsweredFirst, IsSound, IsKept}
use Rattle.std.specs.List.{Contains}
use Rattle.kpn_book.specs.declared.answers.Done.TheVariants as done
use Rattle.kpn_book.proofs.Following.{held_is_there, moved}
use Rattle.kpn_book.proofs.Committing.{no_pause, kept_reserved_on, writes_to}
use Rattle.kpn_book.proofs.Reserved.{is_reserved_here}
use Rattle.kpn_book.proofs.FirstOfQueue.{held_first, refused_with, puts_on_it, puts_nowhere, handles_write}
use Rattle.kpn_book.proofs.open_book.OpenBook.handle_first.Given as given
use Rattle.kpn_book.proofs.open_book.OpenBook.handle_first.Goals as goal
use Rattle.kpn_book.proofs.open_book.OpenBook.handle_first.Goals.{After-known, After-out_channel-c}

sound : (g : given.Over) (c : After-known g) → IsSound (first_claimed c.args.p (book_of c.args.self.now))
sound g c = record { in_step = c.requires.kept.in_step; nothing_owed = c.requires.kept.nothing_owed }

pub put-requires-clause-may : goal.put-requires-clause-may
put-requires-clause-may g c =
    record { held = c.requires.first; sound = sound g (goal.at.put-requires-clause-may g c).After-known; room = c.requires.room }

pub out_channel-c-requires-clause-port : goal.out_channel-c-requires-clause-port
out_channel-c-requires-clause-port g c =
    let b = first_claimed c.args.p (book_of c.args.self.now) in
    let held = held_first (book_of c.args.self.now) c.args.p c.requires.first in
    let there = held_is_there b c.requires.kept.in_step c.args.p held in
    let at =
    subst (λ s. IsAtPort (program_of b.tables c.args.p) c.requires.port.0 s) c.in-WantWrite.is c.requires.port.1 in
    let below = at.0 in
    let long = (IsInstance-of b.tables c.known.ensures c.args.p there).outs in
    omega (arith, below, long)

-- the channel of a write is there
out_below : (g : given.Over) (c : After-out_channel-c g)
    → c.out_channel-c.result < length c.args.self.now.network.now.channels
out_below g c =
    let t = c.args.self.now.network.now in
    let outs = (instance_at t c.args.p).outs in
    out_is_there t c.known.ensures c.args.p c.out_channel-c.result
    (subst (λ x. Contains outs x) c.out_channel-c.ensures.1
    (Contains-get_or outs c.in-WantWrite.port 0 c.out_channel-c.ensures.0))

out_there : (g : given.Over) (c : After-out_channel-c g)
    → c.out_channel-c.result < length c.args.self.now.machine.channels
out_there g c =
    let there = out_below g c in
    let long = c.requires.kept.in_step.run.shape.channels in
    omega (arith, there, long)

pub if_sink-requires : goal.if_sink-requires
if_sink-requires g c = out_below g (goal.at.if_sink-requires g c).After-out_channel-c

pub channel-requires : goal.channel-requires
channel-requires g c = out_there g (goal.at.channel-requires g c).After-out_channel-c

pub reserve_one-requires : goal.reserve_one-requires
reserve_one-requires g c = out_there g (goal.at.reserve_one-requires g c).After-out_channel-c

pub write_later-requires-clause-reserved : goal.write_later-requires-clause-reserved
write_later-requires-clause-reserved g c =
    subst (λ s. IsTrue (channel_in s c.out_channel-c.result).is_reserved)
    (sym c.in_ok-reserve_one.ensures.after)
    (is_reserved_here (book_of c.args.self.now) c.out_channel-c.result
    (out_there g (goal.at.write_later-requires-clause-reserved g c).After-out_channel-c))

pub returns-then-is_open-clause-handles : goal.returns-then-is_open-clause-handles
returns-then-is_open-clause-handles g c =
    let b = book_of c.args.self.now in
    let o = first_claimed c.args.p b in
    let d = c.out_channel-c.result in
    let fits : SFits w64 c.in-WantWrite.item = search rules in
    handles_write o o (book_of c.put.new.self) c.args.p d c.in-WantWrite.item c.args.stop c.if_sink.result (inl refl)
    (λ s is. record {
      port = c.in-WantWrite.port;
      asks = is ∙ c.in-WantWrite.is;
      channel = c.out_channel-c.ensures;
    })
    (record {
      answer = done.Put;
      answered =
          subst (λ v. Answered c.args.p (λ s. IsWriteTo b.tables c.args.p s d v) done.Put o (book_of c.put.new.self))
          (to_z-of_z w64 c.in-WantWrite.item fits) c.put.ensures.answered;
      sink_is = λ s asks. puts_on_it b.tables c.args.p d c.in-WantWrite.item s asks c.if_sink.result c.if_sink.ensures;
    })

pub returns-clause-handles :
    goal.returns-clause-handles
returns-clause-handles g c =
    let b = book_of c.args.self.now in
    let o = first_claimed c.args.p b in
    let d = c.out_channel-c.result in
    let below =
    out_there g (goal.at.returns-clause-handles g c).After-out_channel-c in
    let reserved = moved o c.reserve_one.new.self o.schedule in
    let same : reserved ≡ reserved_on d o =
    ap (λ s. moved o s o.schedule) c.in_ok-reserve_one.ensures.after in
    let fits : SFits w64 c.in-WantWrite.item = search rules in
    let made : AnsweredFirst c.args.p (λ s. IsWriteTo b.tables c.args.p s d c.in-WantWrite.item) c.write_later.result
    reserved (book_of c.write_later.new.self) =
    subst (λ v. AnsweredFirst c.args.p (λ s. IsWriteTo b.tables c.args.p s d v) c.write_later.result reserved
    (book_of c.write_later.new.self)) (to_z-of_z w64 c.in-WantWrite.item fits) c.write_later.ensures.answered in
    handles_write o reserved (book_of c.write_later.new.self) c.args.p d c.in-WantWrite.item c.args.stop
    c.write_later.result
    (inr (
      λ paused. no_pause c.args.stop c.in-WantWrite.port c.in-WantWrite.item c.in-WantWrite.is paused,
      (d, below, same),
    ))
    (λ s is. record {
      port = c.in-WantWrite.port;
      asks = is ∙ c.in-WantWrite.is;
      channel = c.out_channel-c.ensures;
    }) made

pub put-requires-clause-writes : goal.put-requires-clause-writes
put-requires-clause-writes g c =
    let v = c.in-WantWrite.item in
    let fits : SFits w64 v = search rules in
    writes_to c.args.self.now.network.now c.args.self.now.machine c.args.p c.out_channel-c.result
    c.in-WantWrite.port v (to_z w64 (of_z w64 v)) c.args.stop c.in-WantWrite.is (to_z-of_z w64 v fits)
    c.out_channel-c.ensures c.requires.stands

pub write_later-requires-clause-writes : goal.write_later-requires-clause-writes
write_later-requires-clause-writes g c =
    let t = c.args.self.now.network.now in
    let d = c.out_channel-c.result in
    let v = c.in-WantWrite.item in
    let fits : SFits w64 v = search rules in
    subst (λ s. WritesTo t s c.args.p d (to_z w64 (of_z w64 v))) (sym c.in_ok-reserve_one.ensures.after)
    (writes_to t (reserved_on d (book_of c.args.self.now)).machine c.args.p d c.in-WantWrite.port v
    (to_z w64 (of_z w64 v)) c.args.stop c.in-WantWrite.is (to_z-of_z w64 v fits) c.out_channel-c.ensures
    c.requires.stands)

pub write_later-requires-clause-may : goal.write_later-requires-clause-may
write_later-requires-clause-may g c =
    let o = first_claimed c.args.p (book_of c.args.self.now) in
    let d = c.out_channel-c.result in
    let below = out_there g (goal.at.write_later-requires-clause-may g c).After-out_channel-c in
    let kept =
    subst (λ s. IsKept (moved o s o.schedule)) (sym c.in_ok-reserve_one.ensures.after)
    (kept_reserved_on o c.requires.kept d below) in
    record {
      held = c.requires.first;
      sound = record { in_step = kept.in_step; nothing_owed = kept.nothing_owed };
      room = c.requires.room;
    }

pub returns-in_default : goal.returns-in_default
returns-in_default g c =
    let b = book_of c.args.self.now in
    let o = first_claimed c.args.p b in
    record {
      handles = record {
        reserved = o;
        but = inl refl;
        answered = record {
          answer = c.handle_stop_of.result;
          answered = c.handle_stop_of.ensures.answered;
          sink_is = λ s is.
              sym (ap (λ z. sink_by b.tables c.args.p z c.handle_stop_of.result) is
              ∙ puts_nowhere b.tables c.args.p c.args.stop c.handle_stop_of.result c.in_default.not-WantWrite);
        };
      };
      wants = tt;
      as_before = tt;
      room = c.handle_stop_of.ensures.room;
    }

pub returns-in_err-reserve_one-clause-wants : goal.returns-in_err-reserve_one-clause-wants
returns-in_err-reserve_one-clause-wants g c =
    refused_with c.from_residual.result
    (λ paused. no_pause c.args.stop c.in-WantWrite.port c.in-WantWrite.item c.in-WantWrite.is paused)
