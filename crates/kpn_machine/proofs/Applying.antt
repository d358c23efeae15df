-- An event is due exactly if the stop of its process asks for it and its channel is ready.
use Rattle.kpn_machine.proofs.Common.{◌≡◌, ◌≢◌, ℕ, true, ℤ, refl, subst, Tables, instance_at, program_of, Stop, WantRead, WantWrite, Paused, Event, is_of, Machine, frame_in, Stands, StandsFree, ReadsFrom, WritesTo, stop_of, IsDueNow, IsReadAt, IsWriteAt, AsksFor, IsReady}
use Rattle.std.specs.Prelude.{◌↔◌}
use Rattle.std.proofs.lemmas.Bool.{eq-eqb}
use Rattle.kpn_history.specs.declared.event.Event.TheVariants.{Get, Put, WaitEmpty, WaitFull, Ended}
use Rattle.kpn_machine.proofs.Due.{end_is_no_pause}
use Rattle.kpn_machine.proofs.OneStop.{one_stop}

module _ (t : Tables) (s : Machine) (p : ℕ) (stop : Stop) (at : StandsFree t s p stop) where
  is_at : (other : Stop) → Stands t s p other → other ≢ Paused → stop ≡ other
  is_at other stands some =
      one_stop (program_of t p).blocks (frame_in s p) stop other at.stands stands at.is_no_pause some

  reads_exactly : (c : ℕ) → IsReadAt (instance_at t p).ins c stop ↔ ReadsFrom t s p c
  reads_exactly c = (
    (λ read. record { port = read.0; channel = read.1; stands = subst (λ x. Stands t s p x) read.2 at.stands }),
    (λ reads. (reads.port, reads.channel, is_at (WantRead reads.port) reads.stands (λ e. absurd cc))),
  )

  writes_exactly : (c : ℕ) (v : ℤ) → IsWriteAt (instance_at t p).outs c v stop ↔ WritesTo t s p c v
  writes_exactly c v = (
    (λ write. record { port = write.0; channel = write.1; stands = subst (λ x. Stands t s p x) write.2 at.stands }),
    (λ writes. (writes.port, writes.channel, is_at (WantWrite writes.port v) writes.stands (λ e. absurd cc))),
  )

pub due_exactly : (t : Tables) (s : Machine) (e : Event) (stop : Stop)
    → ((p : ℕ) → is_of p e ≡ true → StandsFree t s p stop) → (AsksFor t stop e × IsReady t s e) ↔ IsDueNow t s e
due_exactly t s (Get p c v) stop stands =
    let at = stands p (eq-eqb p p refl) in
    let reads = reads_exactly t s p stop at c in
    ((λ both. (at.free, reads.0 both.0, both.1)), (λ due. (reads.1 due.1, due.2)))
due_exactly t s (Put p c v) stop stands =
    let at = stands p (eq-eqb p p refl) in
    let writes = writes_exactly t s p stop at c v in
    ((λ both. (at.free, writes.0 both.0, both.1)), (λ due. (writes.1 due.1, due.2)))
due_exactly t s (WaitEmpty p c) stop stands =
    let at = stands p (eq-eqb p p refl) in
    let reads = reads_exactly t s p stop at c in
    ((λ both. (at.free, reads.0 both.0, both.1)), (λ due. (reads.1 due.1, due.2)))
due_exactly t s (WaitFull p c) stop stands =
    let at = stands p (eq-eqb p p refl) in (
      (λ both. (at.free, (both.0.0, (writes_exactly t s p stop at c both.0.0).0 both.0.1), both.1)),
      (λ due. ((due.1.0, (writes_exactly t s p stop at c due.1.0).1 due.1.1), due.2)),
    )
due_exactly t s (Ended p how) stop stands =
    let at = stands p (eq-eqb p p refl) in (
      (λ both. (at.free, subst (λ x. Stands t s p x) both.0 at.stands)),
      (λ due. (is_at t s p stop at (stop_of how) due.1 (end_is_no_pause how), tt)),
    )
due_exactly t s event stop stands = ((λ both. both.1), (λ due. (tt, due)))
