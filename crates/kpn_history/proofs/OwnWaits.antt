-- In a legal history each process waits on a channel of its own, which is empty or full as it says.
use Rattle.kpn_history.proofs.Common.{◌≡◌, ℕ, Bool, true, false, cond, List, length, Option, Some, None, refl, sym, ap, ◌∙◌, subst, eqb-true, length-map-range_with_len, Wait, Nobody, Empty, Full, Process, Tables, writer_of, reader_of, IsNetwork, IsOwnWait, AreWaits, Event, WaitEmpty, WaitFull, last_event, is_empty, is_full, wait_of_last, wait_of, waits_of, MayWaitOnEmpty, MayWaitOnFull, Legal, reader_of-Reads, writer_of-Writes, Reads-reader_of, Writes-writer_of, Reads-below, Writes-below}
use Rattle.kpn_history.proofs.WaitsAfter.{last_is_own}
use Rattle.kpn_history.proofs.Above.{empty_wait}
use Rattle.kpn_history.proofs.EarlierWaits.{wait_at-waits_of}
use Rattle.kpn_history.proofs.Growth.{full_where_waited}

own_wait_if : (t : Tables) (p : ℕ) (b : Bool) (w : Wait) → IsOwnWait t p w → IsOwnWait t p (cond b w Nobody)
own_wait_if t p true w own = own
own_wait_if t p false w own = tt

own_by_last : (t : Tables) → IsNetwork t → (p : ℕ) (H : List Event) → Legal t H → (last : Option Event)
    → last_event H p ≡ last → IsOwnWait t p (wait_of_last t H last)
own_by_last t network p H legal None is = tt
own_by_last t network p H legal (Some (WaitEmpty q c)) is =
    let own = last_is_own t network p H legal (WaitEmpty q c) is in
    own_wait_if t p (is_empty H c) (Empty c)
    (reader_of-Reads t network q c own.owns ∙ ap Process (eqb-true q p own.its))
own_by_last t network p H legal (Some (WaitFull q c)) is =
    let own = last_is_own t network p H legal (WaitFull q c) is in
    own_wait_if t p (is_full t H c) (Full c)
    (writer_of-Writes t network q c own.owns ∙ ap Process (eqb-true q p own.its))
own_by_last t network p H legal (Some event) is = tt

pub own_wait : (t : Tables) → IsNetwork t → (H : List Event) → Legal t H → (p : ℕ) → IsOwnWait t p (wait_of t H p)
own_wait t network H legal p = own_by_last t network p H legal (last_event H p) refl

pub are_waits : (t : Tables) → IsNetwork t → (H : List Event) → Legal t H → AreWaits t (waits_of t H)
are_waits t network H legal =
    record {
      one_each = length-map-range_with_len (wait_of t H) 0 (length t.instances);
      own = λ p below. subst (IsOwnWait t p) (sym (wait_at-waits_of t H p below)) (own_wait t network H legal p);
    }

pub wait_on_empty : (t : Tables) → IsNetwork t → (H : List Event) → Legal t H → (p c : ℕ) → wait_of t H p ≡ Empty c
    → MayWaitOnEmpty t H p c
wait_on_empty t network H legal p c is =
    let reads : reader_of t c ≡ Process p = subst (IsOwnWait t p) is (own_wait t network H legal p) in
    record {
      there = Reads-below t network p c (Reads-reader_of t p c reads);
      reads = reads;
      empty = (empty_wait t H (last_event H p) c is).empty;
    }

pub wait_on_full : (t : Tables) → IsNetwork t → (H : List Event) → Legal t H → (p c : ℕ) → wait_of t H p ≡ Full c
    → MayWaitOnFull t H p c
wait_on_full t network H legal p c is =
    let writes : writer_of t c ≡ Process p = subst (IsOwnWait t p) is (own_wait t network H legal p) in
    record {
      there = Writes-below t network p c (Writes-writer_of t p c writes);
      writes = writes;
      full = full_where_waited t H (last_event H p) c is;
    }
