-- The definitions that most proofs cite, passed on from one place. Declares nothing.
pub use Rattle.std.proofs.Common.{Bool, List, None, Option, Some, [], ap, append_assoc, arith, cond, count_by, eqb, false, get_or, inl, inr, length, length-append, length-drop, map, max, not, refl, subst, suc, sym, take, true, zero, zero-add, ℕ, ℤ, ◌&&◌, ◌++◌, ◌+◌, ◌<◌, ◌||◌, ◌↔◌, ◌∙◌, ◌∷◌, ◌≡◌, ◌≢◌, ◌≤◌, ◌⊎◌}
pub use Rattle.std.proofs.lemmas.Bool.{and_cases, and_from, and_parts, both_ways, cases_Bool, cases_eq, cases_lt, cond_both, eqb-true, false_from_ne_true, false≢true, le-leb, leb-false, leb-true, ne_eqb, not-false, not-true, not_from_false, or_cases, or_left, or_parts, or_right}
pub use Rattle.std.proofs.lemmas.List.{ext_get_or, get_or-map, get_or_default, take-append-le}
pub use Rattle.std.proofs.lemmas.List.Elements.{Contains-push_cases, filter-append}
pub use Rattle.std.proofs.lemmas.List.Folds.{list_any-append}
pub use Rattle.std.proofs.lemmas.List.FromFn.{get_or-map-range_with_len, get_or-range_with_len, length-map-range_with_len, length-range_with_len}
pub use Rattle.std.proofs.lemmas.List.Sorted.{Contains-permutation, IsPermutation-sym}
pub use Rattle.std.proofs.lemmas.List.Sums.{sum_by-cons, sum_by_push}
pub use Rattle.std.proofs.lemmas.Map.Steps.{length-le_from_distinct_below}
pub use Rattle.std.proofs.lemmas.Map.Views.{Contains-from_any, list_any-from_Contains}
pub use Rattle.std.specs.List.{cons_option, filter, flat_map, last_or, list_any, range_with_len}
pub use Rattle.std.specs.Option.{unwrap_or}
pub use Rattle.std.specs.Prelude.{Contains, nat_eq}
pub use Rattle.kpn_limits.specs.declared.TheConstants.{MAX_CAPACITY}
pub use Rattle.kpn_lang.proofs.Prefixes.{IsPrefix-antisym, IsPrefix-append, IsPrefix-refl, IsPrefix-same, IsPrefix-trans, length_of_prefix, nil_from_prefix, prefix_after, prefix_of_push, prefixes_of_one, rest_of_prefix, same_from_prefix}
pub use Rattle.kpn_lang.proofs.Sequential.{IsSequential-alone}
pub use Rattle.kpn_lang.proofs.Talks.{got_at-append, got_at-prefix, put_at-append, put_at-prefix}
pub use Rattle.kpn_lang.specs.Alone.{alone, got_at, put_at}
pub use Rattle.kpn_lang.specs.Laws.{IsFinal}
pub use Rattle.kpn_lang.specs.Prefix.{IsPrefix}
pub use Rattle.kpn_lang.specs.declared.talk.Ending.{Ending}
pub use Rattle.kpn_lang.specs.declared.talk.Said.{Said}
pub use Rattle.kpn_net.proofs.Awaited.{awaited_among, awaited_by, in_range}
pub use Rattle.kpn_net.proofs.Cycles.{Contains-cases, Contains-first, Contains-later, Contains-none, IsNoLarger, awaited_below, cycle_below, cycle_from, cycle_unique, full_at, rotated, smallest_among, smallest_unique}
pub use Rattle.kpn_net.proofs.Monotone.{ArePrefixes-map, IsPrefixOnSources-agree, IsPrefixOnSources-refl, closed_below-IsLeast, iterate-grows, out_of-grows, round-depends_on_sources, round-grows, talk_on-grows}
pub use Rattle.kpn_net.proofs.Networks.{IsInstance-of, IsProgram-of, Reads, Reads-below, Reads-reader_of, StandsAt, Writes, Writes-below, Writes-writer_of, capacity_in_range, larger_capacity_in_range, larger_capacity_is_no_less, limit_in_range, reader_is_no_source, reader_of-Reads, reader_of-sink, sink-reader_of, sink_there, source-writer_of, source_if_not_written, source_there, writer_is_no_sink, writer_of-Writes, writer_of-source}
pub use Rattle.kpn_net.specs.Faults.{IsNetwork, channel_numbers}
pub use Rattle.kpn_net.specs.Finding.{Finds, IsSmallestOfCycle}
pub use Rattle.kpn_net.specs.Iteration.{AgreeOnSources, IsBelowLeast, IsClosed, IsLeast, IsPrefixOnSources, iterate, round, written_by}
pub use Rattle.kpn_net.specs.Process.{AgreeOnIns, Family, IsFamilyPrefix, ProcessCanSay, ProcessComesTo, at_channel, ends_at_channel, out_of, ran_on, talk_on}
pub use Rattle.kpn_net.specs.Tables.{Tables, capacity, channel_at, grown_capacity, instance_at, is_sink, is_source, larger_capacity, program_of, reader_of, writer_of}
pub use Rattle.kpn_net.specs.Waits.{AreDistinct, AreWaits, IsCycle, IsOwnWait, IsSmallest, WaitInTurn, awaited, awaited_as_full, full_channel, full_channels, process_at, wait_at}
pub use Rattle.kpn_net.specs.declared.found.Found.{Found}
pub use Rattle.kpn_net.specs.declared.tables.ChannelSpec.{ChannelSpec}
pub use Rattle.kpn_net.specs.declared.tables.End.{End}
pub use Rattle.kpn_net.specs.declared.tables.End.TheVariants.{Process, Sink, Source}
pub use Rattle.kpn_net.specs.declared.tables.Growth.{Growth}
pub use Rattle.kpn_net.specs.declared.tables.Instance.{Instance}
pub use Rattle.kpn_net.specs.declared.tables.Policy.TheVariants.{All, Cycles}
pub use Rattle.kpn_net.specs.declared.wait.Wait.{Wait}
pub use Rattle.kpn_net.specs.declared.wait.Wait.TheVariants.{Empty, Full, Nobody}
pub use Rattle.kpn_history.specs.AfterEvent.{capacity_then, takes_end, takes_reader}
pub use Rattle.kpn_history.specs.Channels.{after_growths, capacity_after, capacity_or_zero, fed, is_close_of, is_closed, is_empty, is_full, is_growth_of, is_leave_of, is_left, lives, reaches, read_in, read_on, reader_lives, unread_on, written_in, written_on}
pub use Rattle.kpn_history.specs.Complete.{AreFinished, IsComplete, IsFedFrom, IsFinished, PutsNoMore, StarvesAmong, WaitsOnComplete}
pub use Rattle.kpn_history.specs.Ends.{HasFullWait, HasStopped, HaveStopped, IsQuiet, IsSettled, IsVerdict, WaitsOnEmpty, WaitsOnFull}
pub use Rattle.kpn_history.specs.Legal.{CanGo, HasNumbers, IsConsistent, Legal, MayFeed, MayFollow, MayTake, OwesCycleGrowth, OwesGrowth, ending_of, waiter, waiter_of_last}
pub use Rattle.kpn_history.specs.OneEnd.{EndAlike, HasMadeNoMore, IsFinalRun, IsRunFrom, growths_of}
pub use Rattle.kpn_history.specs.OneMore.{IsOldest, IsOwn, KeepsConsistent}
pub use Rattle.kpn_history.specs.Progress.{HasHadTurn, HasHalted, HasMade, IsCaughtUp, IsHalt}
pub use Rattle.kpn_history.specs.Stops.{CanGrow, HasCapacityBelow, IsAwaitedByWriter, IsJammedAtLimit, OwesNoCycleGrowth, OwesNoStopGrowth, OwesNothing, WaitsForBlocked, lets_go_on}
pub use Rattle.kpn_history.specs.Talks.{has_ended, how_of, is_end_of, is_of, is_of_process, last_event, process_events, said_in, talk_of}
pub use Rattle.kpn_history.specs.Views.{Agrees, IsStateOf, is_ended, is_held, is_ready, is_stopped, waits_empty, waits_full}
pub use Rattle.kpn_history.specs.Waiting.{HasFullCycle, IsBlockedCycle, full_in_cycle, lasting_wait, wait_of, wait_of_last, waits_of}
pub use Rattle.kpn_history.specs.WaitsAfter.{wait_after, wait_kept, wait_made}
pub use Rattle.kpn_history.specs.Waking.{EndsNobody, IsWoken, MayWaitOnEmpty, MayWaitOnFull, WaitsAsFullFor, is_process, wait_then, wakes, wakes_reader, wakes_writer}
pub use Rattle.kpn_history.specs.declared.event.Event.{Event}
pub use Rattle.kpn_history.specs.declared.event.Event.TheVariants.{Close, Ended, Feed, Get, Grow, Leave, Put, Take, WaitEmpty, WaitFull}
pub use Rattle.kpn_history.specs.declared.event.How.{How}
pub use Rattle.kpn_history.specs.declared.event.How.TheVariants.{Done, Index, Overflow, Shift, ZeroDivisor}
pub use Rattle.kpn_history.specs.declared.state.State.{State}
pub use Rattle.kpn_history.specs.declared.state.Verdict.{Verdict}
pub use Rattle.kpn_history.specs.declared.state.View.{View}
