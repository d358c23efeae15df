-- The definitions that most proofs cite, passed on from one place. Declares nothing.
pub use Rattle.std.proofs.Common.{Err, IfNone, IfSome, List, None, Ok, Option, Result, SFits, Some, [], ap, arith, cond, eqb, false, get_or, inl, inr, length, pos, refl, rules, subst, sym, take, true, w64, ℕ, ℤ, ◌<◌, ◌∙◌, ◌∷◌, ◌≡◌, ◌≢◌, ◌≤◌}
pub use Rattle.std.proofs.lemmas.Bool.{both_ways, cases_eq, cases_lt, eq-eqb, eqb-true, false≢true, ne_eqb, or_left, or_right}
pub use Rattle.std.proofs.lemmas.Int.{to_z-of_z}
pub use Rattle.std.proofs.lemmas.List.{get_or_default, map-append, same_from_push, take_more}
pub use Rattle.std.specs.List.{filter, range_with_len}
pub use Rattle.std.specs.Prelude.{map}
pub use Rattle.kpn_lang.proofs.Prefixes.{IsPrefix-from_rest, IsPrefix-refl, IsPrefix-same, IsPrefix-trans, prefix_of_push, same_from_prefix}
pub use Rattle.kpn_lang.specs.Prefix.{IsPrefix}
pub use Rattle.kpn_net.specs.Faults.{IsNetwork, channel_numbers}
pub use Rattle.kpn_net.specs.Tables.{Tables, channel_at, is_sink, is_source}
pub use Rattle.kpn_chan.specs.Channel.{ChannelState, next_item, unread}
pub use Rattle.kpn_history.proofs.AfterEvent.{is_closed-next, is_left-next}
pub use Rattle.kpn_history.proofs.Events.{read_on-push, read_on-same, written_on-push, written_on-same}
pub use Rattle.kpn_history.proofs.Journals.{no_sink, no_source, none_elsewhere, reads_begin_writes}
pub use Rattle.kpn_history.proofs.OneMore.{unread_length, unread_length-push}
pub use Rattle.kpn_history.specs.Channels.{is_close_of, is_closed, is_leave_of, is_left, lives, read_in, read_on, unread_on, written_in, written_on}
pub use Rattle.kpn_history.specs.Ends.{HaveStopped}
pub use Rattle.kpn_history.specs.declared.event.Event.{Event}
pub use Rattle.kpn_history.specs.declared.event.Event.TheVariants.{Close, Feed, WaitEmpty}
pub use Rattle.kpn_book.proofs.Committing.{source_there}
pub use Rattle.kpn_book.proofs.Ends.{AddNothing, closed_next}
pub use Rattle.kpn_book.proofs.Happening.{happens_alone, happens_commits, happens_history, happens_read, happens_tables, happens_written}
pub use Rattle.kpn_book.specs.Appending.{Appends, Happens, IsGrowthOwed}
pub use Rattle.kpn_book.specs.Book.{Book, standing_at}
pub use Rattle.kpn_book.specs.Kept.{IsBook}
pub use Rattle.kpn_book.specs.Refusals.{Closes, Leaves, Takes, closes_by, leaves_by}
pub use Rattle.kpn_book.specs.Schedule.{Schedule, state_at}
pub use Rattle.kpn_book.specs.declared.outcome.Limits.{Limits}
pub use Rattle.kpn_machine.specs.Machine.{channel_in, closed_in}
pub use Rattle.kpn_stream.specs.Closing.{AreClosedBelow, is_no_close}
pub use Rattle.kpn_stream.specs.Devices.{AreFlushed, AreFlushedLast, AreLookedAt, Called, EndsFlushed, Fed, HasGiven, IsAnswered, IsAwaited, IsFlushed, IsStuckUnderAll, MayRead, MayReadItem, MayTell, NoneIs, Served, ServedSince, answered, at_first, at_start, by_end, by_fault, by_item, by_look, by_no_memory, by_others, by_process, by_sinks, flushed, flushed_not, had_enough, had_enough_not, is_elsewhere, is_no_growth, is_of_outside, is_of_sink, is_of_source, left, left_not, looked, meanwhile, none_yet, not_yet, once_more, read_at_once, took, took_in_vain, took_not, waited_for}
pub use Rattle.kpn_stream.specs.Ending.{AreLeft, AreTaken, IsSinkTaken, IsUnwanted, end_numbers, failed_sink, failed_source, is_halted}
pub use Rattle.kpn_stream.specs.Lists.{Gave, GiveInTurn, GivesList, Took, WasGiven, WasTaken, another_gave, another_took, any_flushed, any_looked, gave, gave_not, nothing_given, nothing_taken, told_end, took_item, took_none}
pub use Rattle.kpn_stream.specs.Streaming.{HappensBesides, IsHandled, IsLeaving, IsStepless, IsUnfed, MayEnd, MayEndWell, MayFail, MayHalt, ReadsAtHand, ReadsInTurn, ReadsSource, Serves, ServesOrHalts, StepsWithinLimits, StreamGoesOn, WasRead, is_over, is_read, leaves, none_yet_read, not_read, once_more_read, serves_them, stays}
pub use Rattle.kpn_stream.specs.Watching.{Watched, Watches, by_reads, by_steps, not_yet_seen, seen}
pub use Rattle.kpn_stream.specs.declared.ending.StreamEnding.{StreamEnding}
pub use Rattle.kpn_stream.specs.declared.ending.StreamEnding.TheVariants.{Halted, SinkFailed, SourceFailed}
pub use Rattle.kpn_stream.specs.declared.faults.SinkFault.{SinkFault}
pub use Rattle.kpn_stream.specs.declared.faults.SourceFault.{SourceFault}
pub use Rattle.kpn_stream.specs.declared.reading.TheConstants.{MOST_AT_ONCE}
