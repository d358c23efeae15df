-- The definitions that most proofs cite, passed on from one place. Declares nothing.
pub use Rattle.std.proofs.Common.{List, None, Option, Some, [], ap, append_assoc, arith, inl, inr, length, length-append, refl, subst, sym, ℕ, ◌++◌, ◌+◌, ◌<◌, ◌↔◌, ◌∙◌, ◌∷◌, ◌≡◌, ◌≢◌, ◌≤◌}
pub use Rattle.std.specs.List.{cons_option, range_with_len}
pub use Rattle.std.specs.Prelude.{Contains, IfSome}
pub use Rattle.kpn_net.proofs.Cycles.{Contains-cases, Contains-first, Contains-none, awaited_below, cycle_below, cycle_from, cycle_short, smallest-push, smallest_among, waits_for_one}
pub use Rattle.kpn_net.proofs.Findings.{finding_unique, full_cycle_unique, full_from_member, read_below, written_below}
pub use Rattle.kpn_net.specs.Faults.{IsNetwork}
pub use Rattle.kpn_net.specs.Finding.{Finds, IsSmallestOfCycle}
pub use Rattle.kpn_net.specs.Tables.{Tables, reader_of, writer_of}
pub use Rattle.kpn_net.specs.Waits.{FindsSmallest, IsCycle, IsOwnWait, WaitInTurn, WaitsFor, awaited, full_channel, full_channels, process_at, wait_at}
pub use Rattle.kpn_net.specs.declared.found.Found.TheVariants.{AllEmpty, Full, NoCycle}
pub use Rattle.kpn_net.specs.declared.wait.Wait.{Wait}
pub use Rattle.kpn_cycle.specs.Scan.{IsBelowLimit, ScanFinds, cap_in}
pub use Rattle.kpn_cycle.specs.WalkSoFar.{IsOnChannelBelow, found_on}
