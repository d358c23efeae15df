-- Whom a batch wakes at a channel.
use Rattle.kpn_machine.proofs.Common.{◌≡◌, ◌≢◌, ℕ, ◌||◌, ◌&&◌, Bool, true, false, cond, List, refl, sym, ap, ◌∙◌, subst, Wait, Tables, writer_of, reader_of, wait_at, AreWaits, is_wait, woken_at, AreWoken, ends_by_batch}
use Rattle.kpn_net.specs.declared.wait.Wait.TheVariants.{Nobody, Empty, Full}
use Rattle.kpn_machine.proofs.Woken.{end_of, process_woken, stay}

nobody : (b : Bool) → cond b Nobody Nobody ≡ Nobody
nobody true = refl
nobody false = refl

module _ (t : Tables) where
  -- those who wait so are woken, and the waits are still some of the network
  pub record AreWokenIn (kind : Wait → Bool) (before after : List Wait) : Type 0 where
    pub woken : AreWoken kind before after
    pub waits : AreWaits t after

  woken_if : (b : Bool) (wait : Wait) (before after : List Wait) → wait ≢ Nobody → AreWaits t before
      → after ≡ cond b (woken_at (is_wait wait) before (end_of t wait)) before
      → AreWokenIn (λ w. b && is_wait wait w) before after
  woken_if true wait before after some are is =
      subst (λ ws. AreWokenIn (is_wait wait) before ws) (sym is)
      (record { woken = process_woken t before are wait some; waits = stay t before are wait (end_of t wait) })
  woken_if false wait before after some are is =
      record {
        woken = record { each = λ q. ap (λ ws. wait_at ws q) is };
        waits = subst (λ ws. AreWaits t ws) (sym is) are;
      }

  module _ (c : ℕ) where
    one_wait : (taken : Bool) (was between now : Wait) (first : Bool) → between ≡ cond first Nobody was
        → now ≡ cond (taken && is_wait (Full c) between) Nobody between
        → now ≡ cond (first || (taken && is_wait (Full c) was)) Nobody was
    one_wait taken was between now true one two =
        two ∙ ap (λ w. cond (taken && is_wait (Full c) w) Nobody w) one ∙ nobody (taken && is_wait (Full c) Nobody)
    one_wait taken was between now false one two =
        two ∙ ap (λ w. cond (taken && is_wait (Full c) w) Nobody w) one

    pub waits_between : (put : Bool) (before between : List Wait) → AreWaits t before
        → between ≡ cond put (woken_at (is_wait (Empty c)) before (reader_of t c)) before → AreWaits t between
    waits_between put before between are first =
        (woken_if put (Empty c) before between (λ e. absurd cc) are first).waits

    -- the reader is woken first, and then the writer
    pub woken_by_batch : (taken put : Bool) (before between after : List Wait) → AreWaits t before
        → between ≡ cond put (woken_at (is_wait (Empty c)) before (reader_of t c)) before
        → after ≡ cond taken (woken_at (is_wait (Full c)) between (writer_of t c)) between
        → AreWokenIn (ends_by_batch c taken put) before after
    woken_by_batch taken put before between after are first second =
        let one = woken_if put (Empty c) before between (λ e. absurd cc) are first in
        let two = woken_if taken (Full c) between after (λ e. absurd cc) one.waits second in
        record {
          woken = record {
            each = λ q.
                one_wait taken (wait_at before q) (wait_at between q) (wait_at after q)
                (put && is_wait (Empty c) (wait_at before q)) (one.woken.each q) (two.woken.each q);
          };
          waits = two.waits;
        }
