use Rattle.kpn_book.proofs.Common.{◌≡◌, ℕ, ◌<◌, true, List, length, refl, sym, subst, ◌∙◌, inl, arith, w64, SFits, rules, to_z, of_z, to_z-of_z, Contains-get_or, option_to_list, instance_at, program_of, IsInstance-of, out_is_there, IsAtPort, first_held, made_ready, IsReadFrom, IsWriteTo, book_of, first_claimed, with_ready, Answered, MayCommit}
use Rattle.std.specs.List.{Contains}
use Rattle.kpn_machine.specs.Changes.{IsChannelAt}
use Rattle.kpn_book.specs.declared.answers.Done.TheVariants as done
use Rattle.kpn_book.specs.declared.open_book.Hold.TheVariants as hold
use Rattle.kpn_book.proofs.Following.{held_is_there}
use Rattle.kpn_book.proofs.Committing.{reads_from, writes_to}
use Rattle.kpn_book.proofs.Answering.{asked_otherwise}
use Rattle.kpn_book.proofs.FirstOfQueue.{held_first, puts_on_it, puts_on_none, handles_write}
use Rattle.kpn_book.proofs.open_book.OpenBook.exchange.Given as given
use Rattle.kpn_book.proofs.open_book.OpenBook.exchange.Goals as goal
use Rattle.kpn_book.proofs.open_book.OpenBook.exchange.Goals.{After-known}

-- the channel at a port of the turn is that at the port of the process
at_own : {ports own : List ℕ} {port c : ℕ} → ports ≡ own → IsChannelAt ports port c → IsChannelAt own port c
at_own {ports} {own} {port} {c} same at = subst (λ l. IsChannelAt l port c) same at

may : (g : given.Over) (c : After-known g) → MayCommit hold.First c.args.p c.args.self.now
may g c = record {
  held = c.requires.first;
  sound = record { in_step = c.requires.kept.in_step; nothing_owed = c.requires.kept.nothing_owed };
  room = c.requires.room;
}

pub port_channel-c-requires : goal.port_channel-c-requires
port_channel-c-requires g c =
    let o = first_claimed c.args.p (book_of c.args.self.now) in
    let held = held_first (book_of c.args.self.now) c.args.p c.requires.first in
    let there = held_is_there o c.requires.kept.in_step c.args.p held in
    let at = subst (λ s. IsAtPort (program_of o.tables c.args.p) c.requires.port.0 s) c.in-WantRead.is
    c.requires.port.1 in
    let below = at.0 in
    let long = (IsInstance-of o.tables c.known.ensures c.args.p there).ins in
    subst (λ l. c.in-WantRead.port < length l) (sym c.requires.own.reads) (omega (arith, below, long))

pub port_channel-c-requires-in-WantWrite : goal.port_channel-c-requires-in-WantWrite
port_channel-c-requires-in-WantWrite g c =
    let o = first_claimed c.args.p (book_of c.args.self.now) in
    let held = held_first (book_of c.args.self.now) c.args.p c.requires.first in
    let there = held_is_there o c.requires.kept.in_step c.args.p held in
    let at =
    subst (λ s. IsAtPort (program_of o.tables c.args.p) c.requires.port.0 s) c.in-WantWrite.is c.requires.port.1 in
    let below = at.0 in
    let long = (IsInstance-of o.tables c.known.ensures c.args.p there).outs in
    subst (λ l. c.in-WantWrite.port < length l) (sym c.requires.own.writes) (omega (arith, below, long))

pub get_ahead-requires-clause-may : goal.get_ahead-requires-clause-may
get_ahead-requires-clause-may g c = may g (goal.at.get_ahead-requires-clause-may g c).After-known

pub put_ahead-requires-clause-may : goal.put_ahead-requires-clause-may
put_ahead-requires-clause-may g c = may g (goal.at.put_ahead-requires-clause-may g c).After-known

pub get_ahead-requires-clause-reads : goal.get_ahead-requires-clause-reads
get_ahead-requires-clause-reads g c =
    reads_from c.args.self.now.network.now c.args.self.now.machine c.args.p c.port_channel-c.result
    c.in-WantRead.port c.args.stop c.in-WantRead.is (at_own c.requires.own.reads c.port_channel-c.ensures) c.requires.stands

pub put_ahead-requires-clause-writes : goal.put_ahead-requires-clause-writes
put_ahead-requires-clause-writes g c =
    let v = c.in-WantWrite.item in
    let fits : SFits w64 v = search rules in
    writes_to c.args.self.now.network.now c.args.self.now.machine c.args.p c.port_channel-c-in-WantWrite.result
    c.in-WantWrite.port v (to_z w64 (of_z w64 v)) c.args.stop c.in-WantWrite.is (to_z-of_z w64 v fits)
    (at_own c.requires.own.writes c.port_channel-c-in-WantWrite.ensures) c.requires.stands

pub if_sink-sink-requires : goal.if_sink-sink-requires
if_sink-sink-requires g c =
    let t = c.args.self.now.network.now in
    let outs = (instance_at t c.args.p).outs in
    let at = at_own c.requires.own.writes c.port_channel-c-in-WantWrite.ensures in
    out_is_there t c.known.ensures c.args.p c.port_channel-c-in-WantWrite.result
    (subst (λ x. Contains outs x) at.1 (Contains-get_or outs c.in-WantWrite.port 0 at.0))

pub returns-else-not-get_ahead-clause-goes : goal.returns-else-not-get_ahead-clause-goes
returns-else-not-get_ahead-clause-goes g c =
    let b = book_of c.args.self.now in
    let o = first_claimed c.args.p b in
    let went : c.get_ahead.result ≡ true = search rules in
    let made = c.get_ahead.ensures.got went in
    let order = made.1 in
    let now =
    with_ready (option_to_list order.woken) (made_ready c.args.p (first_held c.args.p b.schedule))
    (book_of c.get_ahead.new.self) in
    record {
      woken = order.woken;
      may = order.may;
      schedule = order.schedule;
      handles = record {
        reserved = o;
        but = inl refl;
        answered = record {
          answer = done.Got made.0;
          answered =
              asked_otherwise c.args.p (λ s. IsReadFrom b.tables c.args.p s c.port_channel-c.result)
              (λ s. s ≡ c.args.stop) (done.Got made.0) o now
              (λ s is. record {
                port = c.in-WantRead.port;
                asks = is ∙ c.in-WantRead.is;
                channel = at_own c.requires.own.reads c.port_channel-c.ensures;
              }) order.answered;
          sink_is = λ s is.
              sym (puts_on_none b.tables c.args.p (done.Got made.0)
              (λ put. let clash : done.Got made.0 ≡ done.Put = put in absurd cc) s);
        };
      };
    }

pub returns-else-not-put_ahead-clause-goes : goal.returns-else-not-put_ahead-clause-goes
returns-else-not-put_ahead-clause-goes g c =
    let b = book_of c.args.self.now in
    let o = first_claimed c.args.p b in
    let d = c.port_channel-c-in-WantWrite.result in
    let v = c.in-WantWrite.item in
    let fits : SFits w64 v = search rules in
    let went : c.put_ahead.result ≡ true = search rules in
    let order = c.put_ahead.ensures.put went in
    let now =
    with_ready (option_to_list order.woken) (made_ready c.args.p (first_held c.args.p b.schedule))
    (book_of c.put_ahead.new.self) in
    record {
      woken = order.woken;
      may = order.may;
      schedule = order.schedule;
      handles =
          handles_write o o now c.args.p d v c.args.stop c.if_sink-sink.result (inl refl)
          (λ s is. record {
            port = c.in-WantWrite.port;
            asks = is ∙ c.in-WantWrite.is;
            channel = at_own c.requires.own.writes c.port_channel-c-in-WantWrite.ensures;
          })
          (record {
            answer = done.Put;
            answered =
                subst (λ w. Answered c.args.p (λ s. IsWriteTo b.tables c.args.p s d w) done.Put o now)
                (to_z-of_z w64 v fits) order.answered;
            sink_is = λ s asks. puts_on_it b.tables c.args.p d v s asks c.if_sink-sink.result c.if_sink-sink.ensures;
          });
    }

pub channel-requires : goal.channel-requires
channel-requires g c =
    let t = c.args.self.now.network.now in
    let outs = (instance_at t c.args.p).outs in
    let at = at_own c.requires.own.writes c.port_channel-c-in-WantWrite.ensures in
    let there =
    out_is_there t c.known.ensures c.args.p c.port_channel-c-in-WantWrite.result
    (subst (λ x. Contains outs x) at.1 (Contains-get_or outs c.in-WantWrite.port 0 at.0)) in
    let long = c.requires.kept.in_step.run.shape.channels in
    omega (arith, there, long)
