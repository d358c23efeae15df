-- The definitions that most proofs cite, passed on from one place. Declares nothing.
pub use Rattle.std.proofs.Common.{Bool, IsTrue, List, None, Option, SFits, Some, [], add-zero, ap, append-nil, append_assoc, arith, cond, drop, eqb, false, get_or, inl, inr, is_ok, is_some, length, length-append, ltb, map, max, not, of_z, refl, replicate, rules, slice_get, slice_set, subst, suc, sym, take, to_z, true, vec_capacity, vec_len, w64, zero, ℕ, ℤ, ◌&&◌, ◌++◌, ◌+◌, ◌-◌, ◌<◌, ◌^◌, ◌||◌, ◌∙◌, ◌∷◌, ◌≡◌, ◌≤◌}
pub use Rattle.std.proofs.Math.Seq.{drop-append_seam, take-append-add, take-append_seam}
pub use Rattle.std.proofs.lemmas.Bool.{and_parts, both_ways, cases_eq, cases_lt, false≢true, lt-leb, or_cases}
pub use Rattle.std.proofs.lemmas.Bool.Decides.{Decides-int_eq, nat_tests}
pub use Rattle.std.proofs.lemmas.List.{ext_get_or, get_or-map, get_or-set_other, get_or-set_same, get_or_past, get_or_read, length-map, length-replicate, length-take, map-set, nil_from_length, set-get_or, set-set, take_all}
pub use Rattle.std.proofs.lemmas.List.Sums.{sum_by-append}
pub use Rattle.std.proofs.lemmas.Option.{get_or_from_slice_get, slice_get-get_or, slice_get_within}
pub use Rattle.kpn_lang.proofs.Prefixes.{IsPrefix-from_rest, length_of_prefix, rest_of_prefix, same_from_prefix}
pub use Rattle.kpn_net.proofs.Networks.{IsInstance-of, sizes}
pub use Rattle.kpn_net.specs.Faults.{IsNetwork}
pub use Rattle.kpn_net.specs.Tables.{Tables, channel_at, instance_at, is_sink, program_of, reader_of, writer_of}
pub use Rattle.kpn_net.specs.Waits.{AreWaits, IsOwnWait, wait_at}
pub use Rattle.kpn_net.specs.declared.wait.Wait.{Wait}
pub use Rattle.kpn_net.specs.declared.wait.Wait.TheVariants.{Empty, Full, Nobody}
pub use Rattle.kpn_chan.specs.Channel.{ChannelState, MayJoin, after_get, after_put, batch_joined, fills, has_places_for, is_channel_full, most_after_put, next_item, opened, readable, unread}
pub use Rattle.kpn_step.specs.Frame.{Frame, fits}
pub use Rattle.kpn_step.specs.Stops.{IsAdvance, IsAtPort, IsGiven, StandsAt, StandsAtRead, advanced_of}
pub use Rattle.kpn_step.specs.declared.stop.Stop.{Stop}
pub use Rattle.kpn_history.specs.Stops.{OwesNothing}
pub use Rattle.kpn_history.specs.Talks.{is_of, is_of_process, process_events}
pub use Rattle.kpn_history.specs.declared.event.Event.{Event}
pub use Rattle.kpn_history.specs.declared.event.Event.TheVariants.{Get, Put, Take}
pub use Rattle.kpn_machine.proofs.Calls.{Made, Made-got, Made-put, Made-taken, same_size}
pub use Rattle.kpn_machine.specs.Changes.{IsChannelAt, PassesRead, PassesWrite}
pub use Rattle.kpn_machine.specs.Machine.{IsFree, Machine, channel_in, end_in, frame_in, no_frame, wait_in, with_channel, with_frame}
pub use Rattle.kpn_machine.specs.Run.{IsEndOf, IsRun, StandsAfter}
pub use Rattle.kpn_machine.specs.Woken.{AreWoken, ends_by_batch, is_wait, woken_at}
pub use Rattle.kpn_region.specs.Batch.{Batch, IsBatch, IsEmpty, IsFresh, IsStuckAt, batch_of}
pub use Rattle.kpn_region.specs.Joining.{AgreesWith, ChannelAgrees, IsChannelJoined, IsClaimOf, IsUnclaimedSink, Joins, ProcessAgrees, TakesInOrder, has_put_items, has_taken, items_put, most_joined, most_with, wait_joined}
pub use Rattle.kpn_region.specs.JoiningParts.{JoinsChannel, JoinsChannels, JoinsFrames, most_seen, wait_joined_below}
pub use Rattle.kpn_region.specs.Local.{Advances, IsLocal, Local, LocalStep, Plays, RegionGets, RegionPuts, RegionTakes, SideState, as_claimed, claimed_with, frame_at, is_in_region, next_of, no_event, no_side, one_event_more, side_at, steps_on, untaken, with_item_put, with_local_frame, with_next_taken, with_side}
pub use Rattle.kpn_region.specs.Turn.{HasPart, IsGot, IsPutOn, IsTaken, MakesEvents, side_in, with_part}
