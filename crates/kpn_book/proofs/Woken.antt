-- An event makes ready exactly the processes that it wakes.
use Rattle.kpn_book.proofs.Common.{◌≡◌, ℕ, ◌<◌, true, List, [], length, Option, Some, None, sym, ap, subst, inl, inr, option_to_list, Wait, Tables, writer_of, reader_of, IsNetwork, wait_at, AreWaits, AreDistinct, Empty, Full, Process, IsOwnWait, Contains-first, Contains-cases, Contains-none, Event, wakes, IsWoken, waiting_writer, waiting_reader, who_writes, who_reads, woken_at_end, woken_once, woken_by}
use Rattle.std.specs.List.{Contains}
use Rattle.kpn_history.specs.declared.event.Event.TheVariants.{Get, Put, Ended, Feed, Take, Leave, Grow}
use Rattle.kpn_history.proofs.Waking.{woken}

pub only_one : (o : Option ℕ) (q : ℕ) → Contains (option_to_list o) q → o ≡ Some q
only_one None q among = absurd (Contains-none q among)
only_one (Some p) q among =
    elim (Contains-cases p [] q among) [
      | inl same ↦ ap Some same
      | inr none ↦ absurd (Contains-none q none)
    ]

pub the_one : (o : Option ℕ) (q : ℕ) → o ≡ Some q → Contains (option_to_list o) q
the_one o q is = subst (λ o. Contains (option_to_list o) q) (sym is) (Contains-first q [])

-- each process that ends exists
abbrev pub EndsThere : Tables → Event → Type 0
EndsThere t (Ended p how) = p < length t.instances
EndsThere t e = Unit {0}

module _ (t : Tables) (network : IsNetwork t) (waits : List Wait) (are : AreWaits t waits) where
  a_writer : (c q : ℕ) → Contains (option_to_list (waiting_writer t waits c)) q
      → (q < length t.instances) × ((wait_at waits q ≡ Full c) × (writer_of t c ≡ Process q))
  a_writer c q among =
      let who = (who_writes t waits are c q).0 (only_one (waiting_writer t waits c) q among) in
      (who.0, (who.1, subst (λ w. IsOwnWait t q w) who.1 (are.own q who.0)))

  a_reader : (c q : ℕ) → Contains (option_to_list (waiting_reader t waits c)) q
      → (q < length t.instances) × ((wait_at waits q ≡ Empty c) × (reader_of t c ≡ Process q))
  a_reader c q among =
      let who = (who_reads t waits are c q).0 (only_one (waiting_reader t waits c) q among) in
      (who.0, (who.1, subst (λ w. IsOwnWait t q w) who.1 (are.own q who.0)))

  writer_among : (c q : ℕ) → q < length t.instances → wait_at waits q ≡ Full c
      → Contains (option_to_list (waiting_writer t waits c)) q
  writer_among c q there is = the_one (waiting_writer t waits c) q ((who_writes t waits are c q).1 (there, is))

  reader_among : (c q : ℕ) → q < length t.instances → wait_at waits q ≡ Empty c
      → Contains (option_to_list (waiting_reader t waits c)) q
  reader_among c q there is = the_one (waiting_reader t waits c) q ((who_reads t waits are c q).1 (there, is))

  among_is_woken : (e : Event) → EndsThere t e → (q : ℕ) → Contains (woken_by t waits e) q
      → (q < length t.instances) × IsWoken t e q (wait_at waits q)
  among_is_woken (Get p c v) ends q among = a_writer c q among
  among_is_woken (Put p c v) ends q among = a_reader c q among
  among_is_woken (Ended p how) ends q among = (woken_at_end t network waits are p ends q).0 among
  among_is_woken (Feed c v) ends q among = a_reader c q among
  among_is_woken (Take c v) ends q among = a_writer c q among
  among_is_woken (Leave c) ends q among = a_writer c q among
  among_is_woken (Grow p c n) ends q among = a_writer c q among
  among_is_woken e ends q among = absurd (Contains-none q among)

  woken_is_among : (e : Event) → EndsThere t e → (q : ℕ) → q < length t.instances → IsWoken t e q (wait_at waits q)
      → Contains (woken_by t waits e) q
  woken_is_among (Get p c v) ends q there is = writer_among c q there is.0
  woken_is_among (Put p c v) ends q there is = reader_among c q there is.0
  woken_is_among (Ended p how) ends q there is = (woken_at_end t network waits are p ends q).1 (there, is)
  woken_is_among (Feed c v) ends q there is = reader_among c q there is.0
  woken_is_among (Take c v) ends q there is = writer_among c q there is.0
  woken_is_among (Leave c) ends q there is = writer_among c q there is.0
  woken_is_among (Grow p c n) ends q there is = writer_among c q there is.0
  woken_is_among e ends q there is = absurd is

  -- a process that becomes ready was woken
  pub among_wakes : (e : Event) → EndsThere t e → (q : ℕ) → Contains (woken_by t waits e) q
      → (q < length t.instances) × (wakes t e (wait_at waits q) ≡ true)
  among_wakes e ends q among =
      let is = among_is_woken e ends q among in
      (is.0, (woken t e q (wait_at waits q) (are.own q is.0)).1 is.1)

  -- a process that is woken becomes ready
  pub wakes_among : (e : Event) → EndsThere t e → (q : ℕ) → q < length t.instances
      → wakes t e (wait_at waits q) ≡ true → Contains (woken_by t waits e) q
  wakes_among e ends q there is =
      woken_is_among e ends q there ((woken t e q (wait_at waits q) (are.own q there)).0 is)

  distinct_one : (o : Option ℕ) → AreDistinct (option_to_list o)
  distinct_one None = tt
  distinct_one (Some p) = (λ among. Contains-none p among, tt)

  -- each once
  pub woken_distinct : (e : Event) → EndsThere t e → AreDistinct (woken_by t waits e)
  woken_distinct (Get p c v) ends = distinct_one (waiting_writer t waits c)
  woken_distinct (Put p c v) ends = distinct_one (waiting_reader t waits c)
  woken_distinct (Ended p how) ends = woken_once t network waits are p ends
  woken_distinct (Feed c v) ends = distinct_one (waiting_reader t waits c)
  woken_distinct (Take c v) ends = distinct_one (waiting_writer t waits c)
  woken_distinct (Leave c) ends = distinct_one (waiting_writer t waits c)
  woken_distinct (Grow p c n) ends = distinct_one (waiting_writer t waits c)
  woken_distinct e ends = tt
