-- In a quiet history with closed sources each process is finished.
use Rattle.kpn_history.proofs.Common.{◌≡◌, ℕ, ◌+◌, ◌<◌, true, List, length, get_or, refl, sym, ap, ◌∙◌, subst, inl, inr, arith, Contains, range_with_len, length-range_with_len, get_or-range_with_len, End, Process, Source, Sink, Tables, channel_at, is_source, writer_of, IsNetwork, Event, is_closed, Legal, IsQuiet, PutsNoMore, AreFinished, IsFinished, Writes-writer_of, source-writer_of, writer_is_no_sink}
use Rattle.kpn_history.proofs.OwnWaits.{wait_on_empty}

-- the numbers below n
range_has : (n p : ℕ) → p < n → Contains (range_with_len 0 n) p
range_has n p below =
    let long = length-range_with_len 0 n in
    (p, omega arith, get_or-range_with_len 0 n p p below ∙ (let e : 0 + p ≡ p = omega arith in e))

has_below : (n p : ℕ) → Contains (range_with_len 0 n) p → p < n
has_below n p (k, there, is) =
    let long = length-range_with_len 0 n in
    let below : k < n = omega arith in
    let same : 0 + k ≡ p = sym (get_or-range_with_len 0 n k p below) ∙ is in
    omega arith

module _ (t : Tables) (network : IsNetwork t) (H : List Event) (legal : Legal t H) (quiet : IsQuiet t H)
    (closed : (c : ℕ) → is_source (channel_at t c) ≡ true → is_closed H c ≡ true) where
  puts_no_more : (c : ℕ) → c < length t.channels → (writer : End) → writer_of t c ≡ writer
      → PutsNoMore (Contains (range_with_len 0 (length t.instances))) H c writer
  puts_no_more c there (Process q) w =
      let writes = Writes-writer_of t q c w in range_has (length t.instances) q writes.process
  puts_no_more c there Source w = closed c (source-writer_of t c w)
  puts_no_more c there Sink w = absurd (writer_is_no_sink t network c there w)

  all_finished : AreFinished t H (range_with_len 0 (length t.instances))
  all_finished =
      record {
        each = λ p member. elim (quiet.each p (has_below (length t.instances) p member)) [
          | inl ended ↦ inl ended
          | inr w ↦
              let may = wait_on_empty t network H legal p w.channel w.blocked in
              inr (record {
                channel = w.channel;
                waits = w.blocked;
                no_more = puts_no_more w.channel may.there (writer_of t w.channel) refl;
              })
        ];
      }

  pub finished_if_quiet : (p : ℕ) → p < length t.instances → IsFinished t H p
  finished_if_quiet p below =
      record {
        among = range_with_len 0 (length t.instances);
        member = range_has (length t.instances) p below;
        all = all_finished;
      }
