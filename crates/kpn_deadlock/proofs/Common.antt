-- The definitions that most proofs cite, passed on from one place. Declares nothing.
pub use Rattle.std.proofs.Common.{List, None, Option, Some, [], ap, append_assoc, arith, cond, false, get_or, inl, inr, length, length-append, lt-ltb, ltb-true, map, refl, rules, subst, suc, sym, take, true, zero, ℕ, ◌++◌, ◌+◌, ◌<◌, ◌↔◌, ◌∙◌, ◌∷◌, ◌≡◌, ◌≢◌, ◌≤◌, ◌⊎◌}
pub use Rattle.std.proofs.lemmas.Bool.{and_from, and_parts, both_ways, cases_lt, false_from_ne_true, false≢true}
pub use Rattle.std.proofs.lemmas.List.Elements.{All-cons, All-nil, Contains-append_left, Contains-append_right, Contains-push_cases}
pub use Rattle.std.specs.Prelude.{All, Contains, IfOk, slice_get}
pub use Rattle.kpn_net.proofs.Cycles.{Contains-cases, Contains-first, Contains-later, Contains-none, cycle_below, cycle_from, cycle_short, cycle_unique, rotated, waits_for_one}
pub use Rattle.kpn_net.specs.Faults.{IsNetwork}
pub use Rattle.kpn_net.specs.Tables.{Tables, writer_of}
pub use Rattle.kpn_net.specs.Waits.{IsCycle, WaitInTurn, WaitsFor, awaited, process_at, wait_at}
pub use Rattle.kpn_net.specs.declared.wait.Wait.{Wait}
pub use Rattle.kpn_net.specs.declared.wait.Wait.TheVariants.{Empty, Full, Nobody}
pub use Rattle.kpn_history.specs.Legal.{Legal}
pub use Rattle.kpn_history.specs.Waiting.{wait_of, waits_of}
pub use Rattle.kpn_history.specs.declared.event.Event.{Event}
pub use Rattle.kpn_history.specs.declared.state.State.TheVariants.{Ended, Held, Ready, WaitsEmpty, WaitsFull}
pub use Rattle.kpn_deadlock.specs.Among.{AreStatesOf, wait_of_state}
pub use Rattle.kpn_deadlock.specs.Ring.{AreFinal, AwaitsItem, HasRing, IsRing}
pub use Rattle.kpn_deadlock.specs.Told.{AreRings, AreTold, FindsFrom, IsCycleFrom, IsLeastOf, IsOneOf, IsRingFrom, all_await_items, are_some, is_wait_for_item, with_found}
