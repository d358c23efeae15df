-- What holds of each process, whatever its program. It is a monotone function of what comes in. It gets no more items
-- than its lists have. What it says depends only on the items that it got (Kahn 1974).
use Rattle.std.specs.Prelude.{◌≡◌, ◌≢◌, ℕ, ◌≤◌, ℤ, List, [], ◌++◌}
use Rattle.kpn_lang.specs.declared.talk.Said.{Said}
use Rattle.kpn_lang.specs.declared.talk.Ending.{Ending}
use Rattle.kpn_lang.specs.declared.talk.Ending.TheVariants.{Done, Faulted, Starved, Cut}
use Rattle.kpn_lang.specs.Run.{Ran, Lists, list_at}
use Rattle.kpn_lang.specs.Prefix.{IsPrefix}
use Rattle.kpn_lang.specs.Alone.{Process, got_at}

-- each list is the old one with these items after it
pub record Grows (more : ℕ → List ℤ) (lists longer : Lists) : Type 0 where
  pub each : (port : ℕ) → list_at longer port ≡ list_at lists port ++ more port

-- an end that items after the lists do not change: if the run starved, none come after the list of that port
abbrev pub IsFinal : (ℕ → List ℤ) → Ending → Type 0
IsFinal more Done = Unit {0}
IsFinal more (Faulted fault) = Unit {0}
IsFinal more (Starved port) = more port ≡ []
IsFinal more Cut = ⊥

-- the same end with the same variables after the same talk, and as much more remains
pub record EndsAlike (more : ℕ → List ℤ) (ran further : Ran) : Type 0 where
  pub ending : further.ending ≡ ran.ending
  pub variables : further.variables ≡ ran.variables
  pub talk : further.talk ≡ ran.talk
  pub rest : Grows more ran.rest further.rest

-- a run that goes further: it only adds to the talk, and a final end stays
pub record GoesOn (more : ℕ → List ℤ) (ran further : Ran) : Type 0 where
  pub talk : IsPrefix ran.talk further.talk
  pub final : IsFinal more ran.ending → EndsAlike more ran further

-- the lists begin with the items that the talk got
pub record BeginsWithGot (talk : List Said) (lists : Lists) : Type 0 where
  pub each : (port : ℕ) → IsPrefix (got_at talk port) (list_at lists port)

-- what holds of a sequential process
pub record IsSequential (process : Process) : Type 0 where
  -- with more turns and longer lists it goes further
  pub grows : (n m : ℕ) → n ≤ m → (more : ℕ → List ℤ) (lists longer : Lists) → Grows more lists longer →
      GoesOn more (process n lists) (process m longer)
  -- with more turns a run that was not cut is the same
  pub stays : (n m : ℕ) → n ≤ m → (lists : Lists) → (process n lists).ending ≢ Cut → process m lists ≡ process n lists
  -- each list is the items that were got from it and those that remain
  pub accounts : (n : ℕ) (lists : Lists) (port : ℕ) →
      list_at lists port ≡ got_at (process n lists).talk port ++ list_at (process n lists).rest port
  -- what it says on lists it says on any lists that begin with the items that it got
  pub local : (n : ℕ) (lists others : Lists) (talk : List Said) → IsPrefix talk (process n lists).talk →
      BeginsWithGot talk others → IsPrefix talk (process n others).talk
