-- The definitions that most proofs cite, passed on from one place. Declares nothing.
pub use Rattle.std.proofs.Common.{Bool, Err, IfOk, IfSome, List, None, Ok, Option, Result, Some, [], ap, append_assoc, arith, cond, drop, eq-eqb, eqb, false, get_or, inl, inr, length, map, max, min, refl, replicate, rules, set, slice_get, subst, suc, sym, take, true, zero, ℕ, ℤ, ◌++◌, ◌+◌, ◌<◌, ◌||◌, ◌↔◌, ◌∙◌, ◌∷◌, ◌≡◌, ◌≢◌, ◌≤◌, ◌⊎◌}
pub use Rattle.std.proofs.lemmas.Bool.{both_ways, cases_Bool, cases_eq, cases_lt, false≢true, ne_eqb}
pub use Rattle.std.proofs.lemmas.List.{append-nil, get_or-map, get_or-set_other, get_or-set_same, get_or_default, get_or_past, length-map, length-replicate, length-set, length-take, map-append, take_all, take_more}
pub use Rattle.std.proofs.lemmas.List.Concat.{flat_map-append}
pub use Rattle.std.specs.List.{filter, flat_map, last_or, list_any}
pub use Rattle.std.specs.Option.{option_map}
pub use Rattle.kpn_lang.proofs.Prefixes.{IsPrefix-antisym, IsPrefix-append, IsPrefix-from_rest, IsPrefix-refl, IsPrefix-same, IsPrefix-trans, length_of_prefix, nil_from_prefix, prefix_of_push, prefixes_of_one, rest_of_prefix, same_from_prefix}
pub use Rattle.kpn_lang.specs.Prefix.{IsPrefix}
pub use Rattle.kpn_lang.specs.declared.talk.Said.{Said}
pub use Rattle.kpn_net.proofs.Monotone.{IsPrefixOnSources-agree, IsPrefixOnSources-refl, closed_below-IsLeast, iterate-grows, map-prefix, round-depends_on_sources}
pub use Rattle.kpn_net.proofs.Networks.{Reads, Reads-below, Reads-reader_of, StandsAt, Writes, Writes-below, Writes-writer_of, reader_is_no_source, reader_of-Reads, reader_of-sink, sink-reader_of, sink_there, source-writer_of, source_if_not_written, source_there, writer_is_no_sink, writer_of-Writes}
pub use Rattle.kpn_net.proofs.OwnIns.{CanSay-own_ins, ran_on-own_ins}
pub use Rattle.kpn_net.specs.Faults.{IsNetwork}
pub use Rattle.kpn_net.specs.Iteration.{AgreeOnSources, IsBelowLeast, IsLeast, IsPrefixOnSources, iterate}
pub use Rattle.kpn_net.specs.Process.{AgreeOnIns, Family, IsFamilyPrefix, ProcessCanSay, at_channel, ran_on, talk_on}
pub use Rattle.kpn_net.specs.Tables.{Tables, channel_at, instance_at, is_sink, is_source, program_of, reader_of, writer_of}
pub use Rattle.kpn_net.specs.declared.tables.End.{End}
pub use Rattle.kpn_net.specs.declared.tables.End.TheVariants.{Process, Sink, Source}
pub use Rattle.kpn_history.proofs.Above.{HasSaidAll, HasSaidAll-ended, IsClosed-quiet, IsStarved, IsStarved-last, SaysAll, empty_wait}
pub use Rattle.kpn_history.proofs.Below.{IsBelowIterate, fed_on_sources, one_more}
pub use Rattle.kpn_history.proofs.Journals.{IsSpoken, none_elsewhere, read_on-outside, reads_begin_writes}
pub use Rattle.kpn_history.proofs.Legality.{Legal-consistent, Legal-prefix}
pub use Rattle.kpn_history.proofs.Ownership.{AreOwn, AreOwn-append, Owns, Owns-last}
pub use Rattle.kpn_history.proofs.Rests.{reads_if_contained}
pub use Rattle.kpn_history.specs.Channels.{fed, is_empty, read_in, read_on, written_in, written_on}
pub use Rattle.kpn_history.specs.Ends.{IsQuiet, WaitsOnEmpty}
pub use Rattle.kpn_history.specs.Legal.{Legal}
pub use Rattle.kpn_history.specs.Talks.{has_ended, is_end_of, is_of, last_event, said_in, talk_of}
pub use Rattle.kpn_history.specs.declared.event.Event.{Event}
pub use Rattle.kpn_parts.specs.Cut.{AreOnce, HasHome, IsCut, IsCutSource, IsPart, IsSameProcess, Part, empty_part, part_at, whole_channel, whole_process}
pub use Rattle.kpn_parts.specs.Homes.{IsHome, IsWrittenIn}
pub use Rattle.kpn_parts.specs.Joined.{AreAtRest, AreLegal, AreQuiet, HasAll, IsDelivered, IsJoined, IsSent, counted, event_of, events_of_part, in_whole, is_of_whole, whole_event, whole_history}
pub use Rattle.kpn_parts.specs.Links.{AreCarried, AreLinks, AreSent, CarryMore, CarryNothing, ComesInNone, EndsIn, FedAtMost, FeedsNext, HasLink, IsCarried, IsCarriedOn, IsJoinOf, IsNext, IsSentOn, IsStuck, MayCome, SoFar, StandsStill, UsesAll, fed_on, history_at, items_of, items_on, put_on_link}
pub use Rattle.kpn_parts.specs.declared.joining.Carried.{Carried}
pub use Rattle.kpn_parts.specs.declared.link.PartLink.{PartLink}
pub use Rattle.kpn_parts.specs.declared.order.PartEvent.{PartEvent}
