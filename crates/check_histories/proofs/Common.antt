-- The definitions that most proofs cite, passed on from one place. Declares nothing.
pub use Rattle.std.proofs.Common.{Bool, List, None, Option, Some, [], ap, append_assoc, arith, eq-eqb, false, get_or, inl, inr, length, lit<, map, not, refl, subst, suc, sym, take, true, zero, ℕ, ℤ, ◌&&◌, ◌++◌, ◌+◌, ◌<◌, ◌||◌, ◌∙◌, ◌∷◌, ◌≡◌, ◌≢◌, ◌≤◌, ◌⊎◌}
pub use Rattle.std.proofs.lemmas.Bool.{and_from, and_parts, both_ways, cases_Bool, cases_lt, eqb-true, false≢true, leb-true, ltb-false, ltb-true, not-true, or_cases, or_left, or_right}
pub use Rattle.std.proofs.lemmas.Bool.Decides.{Decides-int_eq}
pub use Rattle.std.proofs.lemmas.List.{append-nil, get_or_past, take-append-le}
pub use Rattle.std.specs.List.{last_or, list_all}
pub use Rattle.std.specs.Ordering.{int_eq}
pub use Rattle.std.specs.Prelude.{Contains, if◌then◌else◌, nat_eq, nat_le, nat_lt, pos, slice_get, slice_index_or, ◌==◌}
pub use Rattle.kpn_lang.proofs.Prefixes.{IsPrefix-refl, length_of_prefix, rest_of_prefix}
pub use Rattle.kpn_lang.specs.Prefix.{IsPrefix}
pub use Rattle.kpn_net.proofs.Cycles.{Contains-cases, Contains-none, smallest_unique}
pub use Rattle.kpn_net.specs.Faults.{IsNetwork, first_network_fault}
pub use Rattle.kpn_net.specs.Iteration.{IsBelowLeast, IsPrefixOnSources, round}
pub use Rattle.kpn_net.specs.Process.{Family, ProcessCanSay, ProcessComesTo, at_channel, ending_on, out_of, talk_on}
pub use Rattle.kpn_net.specs.Tables.{Tables, channel_at, instance_at, is_sink, is_source, larger_capacity, program_at, writer_of}
pub use Rattle.kpn_net.specs.Waits.{IsSmallest, awaited_as_full}
pub use Rattle.kpn_net.specs.declared.wait.Wait.{Wait}
pub use Rattle.kpn_net.specs.declared.wait.Wait.TheVariants.{Empty, Full, Nobody}
pub use Rattle.kpn_history.proofs.Checking.{is_nobody, way_round, way_round-allows, way_round-cycle}
pub use Rattle.kpn_history.proofs.EndTests.{is_clogged_at-true, is_ended, is_ended-true, is_jammed_at-true, is_quiet, is_quiet-true, is_settled, is_settled-true}
pub use Rattle.kpn_history.proofs.Legality.{Legal-consistent, Legal-last, Legal-nil}
pub use Rattle.kpn_history.proofs.Searching.{Allows, Lost, Off, Round, Way, each_below, each_below-at, each_below-fails, member, member-true}
pub use Rattle.kpn_history.specs.Channels.{capacity_after, capacity_or_zero, fed, is_closed, is_empty, is_full, is_left, read_on, reader_lives, unread_on, written_on}
pub use Rattle.kpn_history.specs.Complete.{IsComplete, IsFedFrom, IsFinished, PutsNoMore, StarvesAmong, WaitsOnComplete}
pub use Rattle.kpn_history.specs.Ends.{HasStopped, IsQuiet, IsSettled}
pub use Rattle.kpn_history.specs.Legal.{CanGo, ComesToWrite, HasNumbers, IsConsistent, IsDue, Legal, MayFeed, MayFollow, MayTake, OwesCycleGrowth, OwesGrowth, OwesStopGrowth, ending_of, growth_after, waiter_of_last}
pub use Rattle.kpn_history.specs.Talks.{has_ended, talk_of}
pub use Rattle.kpn_history.specs.Waiting.{full_in_cycle, wait_of, waits_of}
pub use Rattle.kpn_history.specs.declared.event.Event.{Event}
pub use Rattle.kpn_history.specs.declared.event.Event.TheVariants.{Close, Ended, Feed, Get, Grow, Leave, Put, Take, WaitEmpty, WaitFull}
pub use Rattle.kpn_parts.specs.Cut.{HasHome, IsCut, IsCutSource, IsPart, IsSameProcess, Part, empty_part, part_at, whole_channel, whole_process}
pub use Rattle.kpn_parts.specs.Joined.{AreQuiet, IsDelivered, IsJoined, IsSent, events_of_part, whole_history}
