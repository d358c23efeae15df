-- A channel that is not there has no process at its ends.
use Rattle.kpn_cycle.proofs.Common.{◌≡◌, ℕ, ◌≤◌, length, None, refl, arith, Tables, writer_of, reader_of, IsNetwork, process_at}
use Rattle.kpn_net.specs.declared.tables.End.{End}
use Rattle.kpn_net.specs.declared.tables.End.TheVariants.{Process, Source, Sink}
use Rattle.kpn_net.proofs.Networks.{Writes-writer_of, Reads-reader_of, Writes-below, Reads-below}

pub no_writer : (t : Tables) → IsNetwork t → (c : ℕ) → length t.channels ≤ c → None ≡ process_at (writer_of t c)
no_writer t network c past = by_end (writer_of t c) refl
  where
    by_end : (end : End) → writer_of t c ≡ end → None ≡ process_at end
    by_end (Process p) is = let below = Writes-below t network p c (Writes-writer_of t p c is) in absurd (omega arith)
    by_end Source is = refl
    by_end Sink is = refl

pub no_reader : (t : Tables) → IsNetwork t → (c : ℕ) → length t.channels ≤ c → None ≡ process_at (reader_of t c)
no_reader t network c past = by_end (reader_of t c) refl
  where
    by_end : (end : End) → reader_of t c ≡ end → None ≡ process_at end
    by_end (Process p) is = let below = Reads-below t network p c (Reads-reader_of t p c is) in absurd (omega arith)
    by_end Source is = refl
    by_end Sink is = refl
