use Rattle.kpn_book.proofs.Common.{◌≡◌, ◌≢◌, ◌∙◌, ap, sym, subst, arith, to_z, of_z, w64, SFits, rules, program_of, IsInstance-of, IsAtPort, put_back, IsReadFrom, IsWriteTo, book_of, held_by, MayCommit, Answered, to_z-of_z, Stop, Stands, stop_of, stop_of-fault}
use Rattle.kpn_step.specs.declared.stop.Stop.TheVariants as stop
use Rattle.kpn_book.specs.declared.answers.Done.TheVariants as done
use Rattle.kpn_book.proofs.Committing.{reads_from, writes_to}
use Rattle.kpn_book.proofs.Following.{held_is_there, moved}
use Rattle.kpn_book.proofs.Answering.{asked_otherwise, answered_paused}
use Rattle.kpn_book.proofs.FirstOfQueue.{held_so}
use Rattle.kpn_book.proofs.open_book.OpenBook.handle_stop_of.Given as given
use Rattle.kpn_book.proofs.open_book.OpenBook.handle_stop_of.Goals as goal
use Rattle.kpn_book.proofs.open_book.OpenBook.handle_stop_of.Goals.{After-known}

may : (g : given.Over) (c : After-known g) → c.args.stop ≢ stop.Paused → MayCommit c.args.hold c.args.p c.args.self.now
may g c goes = record { held = c.requires.held; sound = c.requires.sound; room = c.requires.room goes }

pub in_channel-c-requires-clause-port : goal.in_channel-c-requires-clause-port
in_channel-c-requires-clause-port g c =
    let o = held_by c.args.hold c.args.p (book_of c.args.self.now) in
    let held = held_so c.args.hold c.args.p (book_of c.args.self.now) c.requires.held in
    let there = held_is_there o c.requires.sound.in_step c.args.p held in
    let at = subst (λ s. IsAtPort (program_of o.tables c.args.p) c.requires.port.0 s) c.in-WantRead.is
    c.requires.port.1 in
    let below = at.0 in
    let long = (IsInstance-of o.tables c.known.ensures c.args.p there).ins in
    omega (arith, below, long)

pub out_channel-c-requires-clause-port : goal.out_channel-c-requires-clause-port
out_channel-c-requires-clause-port g c =
    let o = held_by c.args.hold c.args.p (book_of c.args.self.now) in
    let held = held_so c.args.hold c.args.p (book_of c.args.self.now) c.requires.held in
    let there = held_is_there o c.requires.sound.in_step c.args.p held in
    let at =
    subst (λ s. IsAtPort (program_of o.tables c.args.p) c.requires.port.0 s) c.in-WantWrite.is c.requires.port.1 in
    let below = at.0 in
    let long = (IsInstance-of o.tables c.known.ensures c.args.p there).outs in
    omega (arith, below, long)

pub read-requires-clause-may : goal.read-requires-clause-may
read-requires-clause-may g c =
    may g (goal.at.read-requires-clause-may g c).After-known
    (λ paused. let clash : stop.WantRead c.in-WantRead.port ≡ stop.Paused = sym c.in-WantRead.is ∙ paused in absurd cc)

pub write-requires-clause-may : goal.write-requires-clause-may
write-requires-clause-may g c =
    may g (goal.at.write-requires-clause-may g c).After-known
    (λ paused.
    let clash : stop.WantWrite c.in-WantWrite.port c.in-WantWrite.item ≡ stop.Paused =
    sym c.in-WantWrite.is ∙ paused in absurd cc)

pub finish-requires-clause-may : goal.finish-requires-clause-may
finish-requires-clause-may g c =
    may g (goal.at.finish-requires-clause-may g c).After-known
    (λ paused. let clash : stop.Done ≡ stop.Paused = sym c.in-Done.is ∙ paused in absurd cc)

pub finish-requires-in-Faulted-clause-may : goal.finish-requires-in-Faulted-clause-may
finish-requires-in-Faulted-clause-may g c =
    may g (goal.at.finish-requires-in-Faulted-clause-may g c).After-known
    (λ paused. let clash : stop.Faulted c.in-Faulted.fault ≡ stop.Paused = sym c.in-Faulted.is ∙ paused in absurd cc)

pub finish-requires-in-Faulted-clause-stands : goal.finish-requires-in-Faulted-clause-stands
finish-requires-in-Faulted-clause-stands g c =
    subst (λ s. Stands c.args.self.now.network.now c.args.self.now.machine c.args.p s)
    (c.in-Faulted.is ∙ sym (ap stop_of c.from.ensures ∙ stop_of-fault c.in-Faulted.fault)) c.requires.stands

pub write-requires-clause-reserved : goal.write-requires-clause-reserved
write-requires-clause-reserved g c =
    c.requires.reserved c.out_channel-c.result c.in-WantWrite.item
    (record { port = c.in-WantWrite.port; asks = c.in-WantWrite.is; channel = c.out_channel-c.ensures })

pub returns-in-WantRead : goal.returns-in-WantRead
returns-in-WantRead g c =
    let o = held_by c.args.hold c.args.p (book_of c.args.self.now) in
    record {
      answered =
          asked_otherwise c.args.p (λ s. IsReadFrom o.tables c.args.p s c.in_channel-c.result)
          (λ s. s ≡ c.args.stop) c.read.result o (book_of c.read.new.self)
          (λ s is. record {
            port = c.in-WantRead.port;
            asks = is ∙ c.in-WantRead.is;
            channel = c.in_channel-c.ensures;
          }) c.read.ensures.answered;
      room = c.read.ensures.room;
    }

pub returns-in-Paused : goal.returns-in-Paused
returns-in-Paused g c =
    let o = held_by c.args.hold c.args.p (book_of c.args.self.now) in
    let held = held_so c.args.hold c.args.p (book_of c.args.self.now) c.requires.held in
    record {
      answered =
          subst (λ a. Answered c.args.p (λ s. s ≡ c.args.stop) done.Paused o a)
          (sym (ap (moved o o.machine) c.put_back.ensures))
          (asked_otherwise c.args.p (λ s. s ≡ stop.Paused) (λ s. s ≡ c.args.stop) done.Paused o (put_back c.args.p o)
          (λ s is. is ∙ c.in-Paused.is) (answered_paused o c.requires.sound c.args.p held));
      room = omega arith;
    }

pub read-requires-clause-reads : goal.read-requires-clause-reads
read-requires-clause-reads g c =
    reads_from c.args.self.now.network.now c.args.self.now.machine c.args.p c.in_channel-c.result
    c.in-WantRead.port c.args.stop c.in-WantRead.is c.in_channel-c.ensures c.requires.stands

pub write-requires-clause-writes : goal.write-requires-clause-writes
write-requires-clause-writes g c =
    let v = c.in-WantWrite.item in
    let fits : SFits w64 v = search rules in
    writes_to c.args.self.now.network.now c.args.self.now.machine c.args.p c.out_channel-c.result
    c.in-WantWrite.port v (to_z w64 (of_z w64 v)) c.args.stop c.in-WantWrite.is (to_z-of_z w64 v fits)
    c.out_channel-c.ensures c.requires.stands

pub returns-in-WantWrite : goal.returns-in-WantWrite
returns-in-WantWrite g c =
    let o = held_by c.args.hold c.args.p (book_of c.args.self.now) in
    let v = c.in-WantWrite.item in
    let fits : SFits w64 v = search rules in
    record {
      answered =
          asked_otherwise c.args.p (λ s. IsWriteTo o.tables c.args.p s c.out_channel-c.result (to_z w64 (of_z w64 v)))
          (λ s. s ≡ c.args.stop) c.write.result o (book_of c.write.new.self)
          (λ s is. record {
            port = c.in-WantWrite.port;
            asks = is ∙ c.in-WantWrite.is ∙ ap (stop.WantWrite c.in-WantWrite.port) (sym (to_z-of_z w64 v fits));
            channel = c.out_channel-c.ensures;
          }) c.write.ensures.answered;
      room = c.write.ensures.room;
    }

pub returns-in-Done : goal.returns-in-Done
returns-in-Done g c =
    let o = held_by c.args.hold c.args.p (book_of c.args.self.now) in
    record {
      answered =
          asked_otherwise c.args.p (λ (s : Stop). s ≡ stop.Done) (λ s. s ≡ c.args.stop) c.finish.result o
          (book_of c.finish.new.self) (λ s is. is ∙ c.in-Done.is) c.finish.ensures.answered;
      room = c.finish.ensures.room;
    }

pub returns-in-Faulted : goal.returns-in-Faulted
returns-in-Faulted g c =
    let o = held_by c.args.hold c.args.p (book_of c.args.self.now) in
    record {
      answered =
          asked_otherwise c.args.p (λ (s : Stop). s ≡ stop_of c.from.result) (λ s. s ≡ c.args.stop)
          c.finish-in-Faulted.result o (book_of c.finish-in-Faulted.new.self)
          (λ s is. is ∙ c.in-Faulted.is ∙ sym (ap stop_of c.from.ensures ∙ stop_of-fault c.in-Faulted.fault))
          c.finish-in-Faulted.ensures.answered;
      room = c.finish-in-Faulted.ensures.room;
    }
