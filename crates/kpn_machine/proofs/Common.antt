-- The definitions that most proofs cite, passed on from one place. Declares nothing.
pub use Rattle.std.proofs.Common.{Bool, IsSome, IsTrue, List, None, Option, SFits, Some, [], ap, append-nil, arith, cond, drop, eqb, false, get_or, if◌then◌else◌, inl, inr, is_ok, is_some, length, length-append, map, nat_lt, not, of_z, refl, replicate, rules, set, slice_get, slice_index, slice_set, subst, suc, sym, take, to_z, true, w64, zero, ℕ, ℤ, ◌&&◌, ◌++◌, ◌+◌, ◌<◌, ◌||◌, ◌∙◌, ◌∷◌, ◌≡◌, ◌≢◌, ◌≤◌, ◌⊎◌}
pub use Rattle.std.proofs.Math.Seq.{map-set_same, take-suc}
pub use Rattle.std.proofs.lemmas.Bool.{both_ways, cases_eq, cases_lt, false≢true, ltb-false, ltb-true, ne_eqb, not-true}
pub use Rattle.std.proofs.lemmas.Int.{to_z-of_z}
pub use Rattle.std.proofs.lemmas.List.{ext_get_or, get_or-map, get_or-replicate, get_or-set_other, get_or-set_same, get_or-take, get_or_append_left, get_or_default, get_or_past, get_or_push, length-map, length-replicate, map-append, map-set, set-get_or, take_all}
pub use Rattle.std.proofs.lemmas.List.Elements.{Contains-append_left, Contains-get_or, Contains-push, Contains-push_cases, filter_map-append}
pub use Rattle.std.proofs.lemmas.List.FromFn.{get_or-map-range_with_len, length-map-range_with_len, map-range_with_len_more}
pub use Rattle.std.specs.List.{range_with_len}
pub use Rattle.std.specs.Option.{option_map, option_to_list, unwrap_or}
pub use Rattle.kpn_lang.proofs.Prefixes.{IsPrefix-after, IsPrefix-refl, IsPrefix-trans, length_of_prefix, prefix_after, rest_of_prefix, same_from_prefix}
pub use Rattle.kpn_lang.specs.Alone.{alone, got_at}
pub use Rattle.kpn_lang.specs.Parts.{Parts}
pub use Rattle.kpn_lang.specs.Prefix.{IsPrefix}
pub use Rattle.kpn_lang.specs.Run.{Lists, Ran, list_at}
pub use Rattle.kpn_lang.specs.declared.talk.Ending.{Ending}
pub use Rattle.kpn_lang.specs.declared.talk.Said.{Said}
pub use Rattle.kpn_net.proofs.Cycles.{Contains-cases, Contains-first, Contains-later, Contains-none, cycle_below, full_at, smallest_among, smallest_unique, smallest_with_same_capacities}
pub use Rattle.kpn_net.proofs.Findings.{finding_unique, finding_with_same_capacities, full_cycle_unique, read_below}
pub use Rattle.kpn_net.proofs.Networks.{IsInstance-of, IsProgram-of, Reads-reader_of, Writes, Writes-below, Writes-writer_of, capacity_in_range, larger_capacity_in_range, larger_capacity_is_some, limit_in_range, reader_is_no_source, reader_of-sink, source-writer_of, source_if_not_written, writer_is_no_sink, writer_of-source}
pub use Rattle.kpn_net.proofs.PortsApart.{few_ins, in_is_there, ins_distinct, one_port, out_is_there, reads_its_ins, writes_its_outs}
pub use Rattle.kpn_net.proofs.WaitTables.{waits-nobody, waits-set}
pub use Rattle.kpn_net.specs.Faults.{IsNetwork}
pub use Rattle.kpn_net.specs.Finding.{Finds, IsSmallestOfCycle}
pub use Rattle.kpn_net.specs.Process.{Family, ProcessCanSay, ProcessComesTo, at_channel, ends_at_channel, ran_on, talk_on}
pub use Rattle.kpn_net.specs.Tables.{Tables, capacity, channel_at, instance_at, is_sink, is_source, larger_capacity, program_of, reader_of, writer_of}
pub use Rattle.kpn_net.specs.Waits.{AreDistinct, AreWaits, FindsSmallest, IsCycle, IsOwnWait, IsSmallest, WaitInTurn, WaitsFor, awaited, awaited_as_full, full_channel, full_channels, process_at, wait_at}
pub use Rattle.kpn_net.specs.declared.found.Found.{Found}
pub use Rattle.kpn_net.specs.declared.tables.ChannelSpec.{ChannelSpec}
pub use Rattle.kpn_net.specs.declared.tables.End.{End}
pub use Rattle.kpn_net.specs.declared.tables.End.TheVariants.{Process, Sink, Source}
pub use Rattle.kpn_net.specs.declared.tables.Instance.{Instance}
pub use Rattle.kpn_net.specs.declared.wait.Wait.{Wait}
pub use Rattle.kpn_net.specs.declared.wait.Wait.TheVariants.{Empty, Nobody}
pub use Rattle.kpn_chan.specs.Channel.{ChannelState, MayGrowTo, MayJoin, after_get, after_put, batch_joined, fills, grown_to, is_channel_full, kept_journal, most_after, most_after_put, next_item, opened, opened_as, retired, roomy, unread, with_reserved, with_room}
pub use Rattle.kpn_step.proofs.After.{IsAfter-advance, IsAfter-got, IsAfter-put, IsAfter-start, end_reached, next_said, talk_said}
pub use Rattle.kpn_step.proofs.Places.{Fits-from, fits-passed, fits-passed_with, fits-start}
pub use Rattle.kpn_step.specs.After.{EndsThere, GoesOnAs, IsAfter, IsRestAfter, SaysNext}
pub use Rattle.kpn_step.specs.Frame.{Frame, fits, passed, start_frame}
pub use Rattle.kpn_step.specs.Residual.{residual}
pub use Rattle.kpn_step.specs.Stops.{Advanced, IsAdvance, IsAtPort, IsGiven, IsWithinQuota, StandsAtRead, StandsAtWrite, advanced_of}
pub use Rattle.kpn_step.specs.declared.stop.Stop.{Stop}
pub use Rattle.kpn_step.specs.declared.stop.Stop.TheVariants.{Done, Faulted, Paused, WantRead, WantWrite}
pub use Rattle.kpn_cycle.specs.Scan.{cap_in}
pub use Rattle.kpn_history.proofs.Above.{IsLast-ending_of, IsStarved-last, empty_wait}
pub use Rattle.kpn_history.proofs.Capacities.{capacity_after-next, in_limit}
pub use Rattle.kpn_history.proofs.EndsOnce.{ended_exactly}
pub use Rattle.kpn_history.proofs.Events.{Some-event, flat_map-same, last_event-other, last_event-own, last_or-push, read_on-grows, read_on-push, read_on-same, talk_of-other, talk_of-push, written_on-push}
pub use Rattle.kpn_history.proofs.Growth.{Some-number, full_where_waited, nothing_can_grow}
pub use Rattle.kpn_history.proofs.Journals.{no_source, none_elsewhere, read_on-got, read_then_unread}
pub use Rattle.kpn_history.proofs.Legality.{Legal-last, Legal-nil, by_events, can_go}
pub use Rattle.kpn_history.proofs.OneMore.{CanSay-grows, Legal-exactly, item_here}
pub use Rattle.kpn_history.proofs.Running.{IsLast}
pub use Rattle.kpn_history.proofs.Waking.{wait_of-then, woken}
pub use Rattle.kpn_history.specs.AfterEvent.{capacity_then, takes_end, takes_reader}
pub use Rattle.kpn_history.specs.Channels.{after_growths, capacity_after, capacity_or_zero, fed, is_close_of, is_closed, is_empty, is_full, is_leave_of, is_left, lives, reaches, read_in, read_on, reader_lives, unread_on, written_in}
pub use Rattle.kpn_history.specs.Ends.{HasFullWait, HasStopped, IsQuiet, IsSettled, IsVerdict}
pub use Rattle.kpn_history.specs.Keeping.{keeps_items}
pub use Rattle.kpn_history.specs.Legal.{CanGo, HasNumbers, IsDue, Legal, OwesCycleGrowth, OwesGrowth, OwesStopGrowth, ending_of, growth_after, waiter, waiter_of_last}
pub use Rattle.kpn_history.specs.OneMore.{IsOldest, KeepsConsistent}
pub use Rattle.kpn_history.specs.Stops.{OwesNoCycleGrowth, OwesNothing}
pub use Rattle.kpn_history.specs.Talks.{has_ended, how_of, is_end_of, is_of, is_of_process, last_event, said_in, talk_of}
pub use Rattle.kpn_history.specs.Waiting.{HasFullCycle, wait_of, wait_of_last, waits_of}
pub use Rattle.kpn_history.specs.WaitsAfter.{wait_made}
pub use Rattle.kpn_history.specs.Waking.{IsWoken, WaitsAsFullFor, is_process, wait_then, wakes}
pub use Rattle.kpn_history.specs.declared.event.Event.{Event}
pub use Rattle.kpn_history.specs.declared.event.Event.TheVariants.{Get, Grow, Take, WaitEmpty, WaitFull}
pub use Rattle.kpn_history.specs.declared.event.How.{How}
pub use Rattle.kpn_history.specs.declared.state.Verdict.{Verdict}
pub use Rattle.kpn_machine.specs.Changes.{Changes, IsChannelAfter, IsChannelAt, IsFrameAfter, PassesRead, PassesWrite, end_then}
pub use Rattle.kpn_machine.specs.Due.{AsksFor, IsDueNow, IsReadAt, IsReady, IsWriteAt, ReadsFrom, Stands, StandsFree, WritesTo, stop_for, stop_of}
pub use Rattle.kpn_machine.specs.EndSoFar.{EndSoFar, IsRetiredAs, is_wait_on_full_among}
pub use Rattle.kpn_machine.specs.Machine.{IsFree, IsMachine, Machine, all_put, are_kept, capacities, channel_in, closed_in, end_in, frame_in, is_empty_wait, is_full_wait, no_frame, wait_in, with_channel, with_closed, with_end, with_frame, with_waits}
pub use Rattle.kpn_machine.specs.Marks.{AreMarked, is_marked}
pub use Rattle.kpn_machine.specs.Owed.{IsAwaitedBelowLimit, IsOwed, IsOwedAtStop, channel_to_grow}
pub use Rattle.kpn_machine.specs.Quiet.{IsQuietNow}
pub use Rattle.kpn_machine.specs.Run.{HoldsChannel, IsEndOf, IsRun, LeadsToMachine, NamesInsBelow, StandsAfter}
pub use Rattle.kpn_machine.specs.Settled.{HasFullCycleNow, HasFullWaitNow, IsOutsideDone, IsSettledNow, IsVerdictNow}
pub use Rattle.kpn_machine.specs.Stopped.{awaits_outside, has_stopped, is_quiet_at}
pub use Rattle.kpn_machine.specs.Woken.{AreWoken, ends_by_batch, free_now, is_wait, is_wait_on_empty, is_wait_on_full, waiting_at, waiting_reader, waiting_writer, woken_at}
