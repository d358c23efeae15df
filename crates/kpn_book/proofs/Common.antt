-- The definitions that most proofs cite, passed on from one place. Declares nothing.
pub use Rattle.std.proofs.Common.{Bool, Err, IfOk, IsTrue, List, None, Ok, Option, Result, SFits, Some, [], ap, append-nil, arith, cond, count_by, drop, eqb, false, get_or, if◌then◌else◌, inl, inr, is_ok, is_some, length, length-append, length-drop, map, max, min, nat_eq, not, of_z, pos, refl, replicate, rules, set, slice_get, slice_index, subst, suc, sym, take, to_z, true, w64, zero, ℕ, ℤ, ◌&&◌, ◌*◌, ◌++◌, ◌+◌, ◌-◌, ◌<◌, ◌^◌, ◌||◌, ◌↔◌, ◌∙◌, ◌∷◌, ◌≡◌, ◌≢◌, ◌≤◌, ◌⊎◌}
pub use Rattle.std.proofs.lemmas.Bool.{both_ways, cases_Bool, cases_eq, cases_lt, eqb-true, false_from_ne_true, false≢true, ltb-false, ne_eqb, or_left}
pub use Rattle.std.proofs.lemmas.Int.{to_z-of_z}
pub use Rattle.std.proofs.lemmas.List.{drop_all, drop_more, get_or-map, get_or-replicate, get_or-set_other, get_or-set_same, get_or_default, get_or_past, length-map, length-replicate, length-set, length-take-le, map-append, set-get_or, set-set, take_all, take_more}
pub use Rattle.std.proofs.lemmas.List.Elements.{All-get_or, Contains-append_cases, Contains-append_left, Contains-get_or, Contains-push, Contains-push_cases, filter-append}
pub use Rattle.std.proofs.lemmas.List.Folds.{list_any-append, sum_by-replicate}
pub use Rattle.std.proofs.lemmas.List.FromFn.{get_or-map-range_with_len, get_or-range_with_len, length-map-range_with_len, length-range_with_len}
pub use Rattle.std.proofs.lemmas.List.Sums.{count_by-le-length, get_or-le-sum_by, sum_by-append, sum_by-cons, sum_by-le, sum_by-set}
pub use Rattle.std.proofs.lemmas.Option.{get_or_from_slice_get, slice_get_within}
pub use Rattle.std.proofs.lemmas.Result.{IfOk-weaker}
pub use Rattle.std.specs.List.{filter, flat_map, last_or, list_all, list_any, range_with_len}
pub use Rattle.std.specs.Option.{option_to_list, unwrap_or}
pub use Rattle.std.specs.Prelude.{OnErr, OnOk, nat_lt}
pub use Rattle.kpn_lang.proofs.Prefixes.{IsPrefix-after, IsPrefix-append, IsPrefix-refl, IsPrefix-same, IsPrefix-trans, length_of_prefix, prefixes_of_one, rest_of_prefix, same_from_prefix}
pub use Rattle.kpn_lang.specs.Parts.{Parts}
pub use Rattle.kpn_lang.specs.Prefix.{IsPrefix}
pub use Rattle.kpn_lang.specs.Syntax.{Statement}
pub use Rattle.kpn_net.proofs.Cycles.{Contains-cases, Contains-first, Contains-later, Contains-none, full_at}
pub use Rattle.kpn_net.proofs.Networks.{IsInstance-at, IsInstance-of, IsProgram-of, Reads-reader_of, Writes-writer_of, list_any_fails_at, sizes, source-writer_of, writer_is_no_sink}
pub use Rattle.kpn_net.proofs.PortsApart.{out_is_there}
pub use Rattle.kpn_net.proofs.RoundLemmas.{list_of, source_below}
pub use Rattle.kpn_net.specs.Faults.{IsNetwork, channel_numbers}
pub use Rattle.kpn_net.specs.Iteration.{AgreeOnSources, IsBelowLeast, IsLeast, IsPrefixOnSources, given_by, iterate, lists_of}
pub use Rattle.kpn_net.specs.Process.{Family}
pub use Rattle.kpn_net.specs.Tables.{Tables, any_has_cells, channel_at, instance_at, is_sink, is_source, larger_capacity, program_of, reader_of, writer_of}
pub use Rattle.kpn_net.specs.Waits.{AreDistinct, AreWaits, IsOwnWait, full_channel, full_channels, wait_at}
pub use Rattle.kpn_net.specs.declared.tables.End.{End}
pub use Rattle.kpn_net.specs.declared.tables.End.TheVariants.{Process, Sink, Source}
pub use Rattle.kpn_net.specs.declared.wait.Wait.{Wait}
pub use Rattle.kpn_net.specs.declared.wait.Wait.TheVariants.{Empty, Full, Nobody}
pub use Rattle.kpn_chan.specs.Channel.{ChannelState, has_places_for, is_channel_full, most_after, next_item, readable, roomy, unread, with_room}
pub use Rattle.kpn_step.proofs.StepCases.{Steps-append}
pub use Rattle.kpn_step.specs.Frame.{Frame, start_frame}
pub use Rattle.kpn_step.specs.Step.{Faults, Goes, Step, Steps, Stops, step_of, step_on}
pub use Rattle.kpn_step.specs.Stops.{Advanced, IsAdvance, IsAtPort, IsBetween, IsWithinQuota, StandsAt, advanced_of, stop_at}
pub use Rattle.kpn_step.specs.declared.stop.Stop.{Stop}
pub use Rattle.kpn_history.proofs.Above.{all_read}
pub use Rattle.kpn_history.proofs.AfterEvent.{is_closed-next, is_left-next, process_events-next}
pub use Rattle.kpn_history.proofs.Below.{fed-source}
pub use Rattle.kpn_history.proofs.CompleteWalks.{Walked, complete_if_ended, complete_source, incomplete_if_neither, walk_long, walk_more, walk_starts}
pub use Rattle.kpn_history.proofs.EndsOnce.{ended_by}
pub use Rattle.kpn_history.proofs.Events.{Some-event, flat_map-same, last_event-other, last_event-own, last_or-push, read_on-push, read_on-same, talk_of-push, written_on-push, written_on-same}
pub use Rattle.kpn_history.proofs.Growth.{Some-number, no_cycle_owed_after, none_owed_at_first, nothing_can_grow}
pub use Rattle.kpn_history.proofs.Journals.{no_source, none_elsewhere, reads_begin_writes}
pub use Rattle.kpn_history.proofs.Kahn.{below_least, first_items, least_if_quiet_given, one_iterate, take-prefix}
pub use Rattle.kpn_history.proofs.Legality.{Legal-last, Legal-prefix}
pub use Rattle.kpn_history.proofs.OneEnd.{end_alike, made_no_more}
pub use Rattle.kpn_history.proofs.OneMore.{Legal-exactly, item_here, unread_length}
pub use Rattle.kpn_history.proofs.OwedGrowth.{no_stop_owed_after, no_wait_left}
pub use Rattle.kpn_history.proofs.Ownership.{IsOwn-last}
pub use Rattle.kpn_history.proofs.Progress.{ahead_is_made, made_later, next_is_made, no_more_if_made, one_process, others_are_made, own_below, run_begun}
pub use Rattle.kpn_history.proofs.States.{stopped_state}
pub use Rattle.kpn_history.proofs.Stops.{jammed_at_limit, one_verdict, quiet_where_ended, waits_for_blocked}
pub use Rattle.kpn_history.specs.Channels.{capacity_after, capacity_or_zero, is_close_of, is_closed, is_leave_of, is_left, read_in, read_on, reader_lives, unread_on, written_in, written_on}
pub use Rattle.kpn_history.specs.Complete.{IsComplete, IsFedFrom}
pub use Rattle.kpn_history.specs.Ends.{HasStopped, IsQuiet, IsSettled, IsVerdict, WaitsOnEmpty, WaitsOnFull}
pub use Rattle.kpn_history.specs.Legal.{Legal, MayFollow, OwesCycleGrowth, OwesGrowth, growth_after, waiter, waiter_of_last}
pub use Rattle.kpn_history.specs.OneEnd.{EndAlike, HasMadeNoMore, IsFinalRun, IsRunFrom}
pub use Rattle.kpn_history.specs.Progress.{HasGone, HasMade, IsCaughtUp, IsHalt}
pub use Rattle.kpn_history.specs.Recorded.{Recorded}
pub use Rattle.kpn_history.specs.Stops.{IsJammedAtLimit, OwesNoCycleGrowth, OwesNoStopGrowth, OwesNothing, WaitsForBlocked, lets_go_on}
pub use Rattle.kpn_history.specs.Talks.{has_ended, is_of, is_of_process, last_event, process_events, said_in, talk_of}
pub use Rattle.kpn_history.specs.Views.{Agrees, AreCounts, IsStateOf, is_ended, is_held, is_ready, waits_empty, waits_full}
pub use Rattle.kpn_history.specs.Waiting.{wait_of, waits_of}
pub use Rattle.kpn_history.specs.Waking.{IsWoken, wait_then, wakes}
pub use Rattle.kpn_history.specs.declared.event.Event.{Event}
pub use Rattle.kpn_history.specs.declared.event.Event.TheVariants.{Close, Feed, Grow, Put, Take}
pub use Rattle.kpn_history.specs.declared.event.How.{How}
pub use Rattle.kpn_history.specs.declared.state.Counts.{Counts}
pub use Rattle.kpn_history.specs.declared.state.State.{State}
pub use Rattle.kpn_history.specs.declared.state.State.TheVariants.{Held, Ready}
pub use Rattle.kpn_history.specs.declared.state.Verdict.{Verdict}
pub use Rattle.kpn_history.specs.declared.state.View.{View}
pub use Rattle.kpn_machine.proofs.Due.{Legal-due, stop_of-fault}
pub use Rattle.kpn_machine.proofs.Growing.{Legal-grown, owed_below, owed_by_history, same_waits}
pub use Rattle.kpn_machine.proofs.Moments.{ended_waits_for_nobody, within_capacity}
pub use Rattle.kpn_machine.proofs.Moving.{IsRun-moved, advanced_as}
pub use Rattle.kpn_machine.proofs.Numbered.{by_number}
pub use Rattle.kpn_machine.proofs.Ports.{reads_below, writes_below}
pub use Rattle.kpn_machine.proofs.Waking.{who_reads, who_writes, woken_at_end, woken_once}
pub use Rattle.kpn_machine.specs.Changes.{Changes, IsChannelAfter, IsChannelAt, IsFrameAfter, end_then}
pub use Rattle.kpn_machine.specs.Due.{ReadsFrom, Stands, WritesTo, stop_of}
pub use Rattle.kpn_machine.specs.Machine.{AreKept, IsFree, IsMachine, Machine, channel_in, closed_in, end_in, frame_in, is_empty_wait, is_full_wait, no_frame, wait_in, with_channel, with_frame}
pub use Rattle.kpn_machine.specs.Run.{IsEndOf, IsRun}
pub use Rattle.kpn_machine.specs.Woken.{is_wait_on_empty, is_wait_on_full, waiting_at, waiting_reader, waiting_writer}
pub use Rattle.kpn_region.specs.Batch.{Batch, IsBatch, IsFresh, stop_in, with_process}
pub use Rattle.kpn_region.specs.Joining.{AgreesWith, ChannelAgrees, Joins, has_put_items, has_taken, wait_joined}
pub use Rattle.kpn_region.specs.Local.{IsLocal, Local, SideState, frame_at, is_in_region, no_side, side_at}
pub use Rattle.kpn_book.specs.Appending.{AllHappen, Appends, AppendsAll, Happens, IsGrowthOwed, all_made_ready, own_part, schedule_after, woken_by}
pub use Rattle.kpn_book.specs.BatchCommits.{with_batch}
pub use Rattle.kpn_book.specs.Book.{Book, IsClaimed, IsHeld, held_count, put_back, standing_at, with_one_commit}
pub use Rattle.kpn_book.specs.ClaimParts.{HasProcesses, MakesRoom, SeesChannel, SeesChannels, with_process_of}
pub use Rattle.kpn_book.specs.Commits.{Commits, HandlesStop, HasToWait, IsAnswer, IsOwnAdvance, IsReadFrom, IsWriteTo, ready_if_paused}
pub use Rattle.kpn_book.specs.GoingOn.{AnyOrderInVain, IsReordered, RunsInAnyOrder, TurnsInAnyOrder}
pub use Rattle.kpn_book.specs.InARow.{IsStepInRow, RunsInRow, RunsInVain, StepsUncommitted}
pub use Rattle.kpn_book.specs.Kept.{IsBook, IsInStep, IsKept, IsStateBy}
pub use Rattle.kpn_book.specs.Open.{Answered, AnsweredFirst, Follows, GoesFurther, GrowsIfOwed, HandlesAhead, HandlesFirst, IsHeldBy, IsSound, IsTurnAhead, MayBeReady, MayCommit, book_of, first_claimed, held_by, holding, is_but_reserved, reserved_on, sink_by, with_ready}
pub use Rattle.kpn_book.specs.Outcomes.{IsEnough, IsOutcome, verdict_of}
pub use Rattle.kpn_book.specs.Progress.{ComesAfter, PassesStop, Says, TakesRounds, tried_at}
pub use Rattle.kpn_book.specs.Queue.{waiting}
pub use Rattle.kpn_book.specs.Refusals.{AcceptsItem, Closes, Feeds, IsAtBound, Leaves, RefusesCommit, Takes, closes_by, leaves_by, takes_item}
pub use Rattle.kpn_book.specs.RegionCalls.{CanCount, CommitsAtStops, CommitsRegion, RefusesRegion, is_at_stop}
pub use Rattle.kpn_book.specs.RegionClaims.{ClaimsRegion, IsRoomyToWrite, IsSameBook, IsSameButMemory, RefusesClaim, at_most_half, drains_claimed, free_room, is_end_within, items_claimed, may_claim, room_claimed, side_by, side_claimed}
pub use Rattle.kpn_book.specs.Regions.{SettleBelow, all_held, all_put_back, all_woken, batch_held, batch_put_back, is_woken, put_back_if, region_held, region_woken, turned_if, woken_if}
pub use Rattle.kpn_book.specs.Releasing.{IsNoneHeldBelow, Releases}
pub use Rattle.kpn_book.specs.Remembering.{Remembers, RemembersAsMuch}
pub use Rattle.kpn_book.specs.Reports.{AreSupplied, IsReport, IsWrittenFrom, events_of, journal_of, read_of_sinks, sink_numbers, taken_of}
pub use Rattle.kpn_book.specs.RunHere.{IsBeforeTurn, Turns, supplies, supply_of, takes_from_sinks, takes_of}
pub use Rattle.kpn_book.specs.Running.{AreStepped, ComesToOutcome, HasPut, HasPutOn, IsCommitted, IsFedBelow, IsFrontStepped, IsLater, IsLeftToItself, IsStepped, IsSupplied, KeepsSinks, ReadsOneMore, ReadsWithin, first_read, has_put, sinks_after}
pub use Rattle.kpn_book.specs.Schedule.{AreAllStopped, HoldsFirst, IsSchedule, Schedule, all_ready, first_held, made_ready, state_at, with_state}
pub use Rattle.kpn_book.specs.Stepping.{ClaimsAndSteps, ClaimsNobody, IsStep, StepsInVain, StepsNext}
pub use Rattle.kpn_book.specs.declared.answers.Done.{Done}
pub use Rattle.kpn_book.specs.declared.outcome.Limits.{Limits}
pub use Rattle.kpn_book.specs.declared.outcome.Outcome.{Outcome}
pub use Rattle.kpn_book.specs.declared.outcome.Outcome.TheVariants.{Enough, Stopped}
pub use Rattle.kpn_book.specs.declared.report.Report.{Report}
