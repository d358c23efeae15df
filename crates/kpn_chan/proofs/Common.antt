-- The definitions that most proofs cite, passed on from one place. Declares nothing.
pub use Rattle.std.proofs.Common.{ap, arith, eqb, inl, inr, leb, length-drop, rules, subst, sym, ◌∙◌}
pub use Rattle.std.proofs.Math.Seq.{drop-append-add, drop-cons, drop-length, take-append_seam, take-length, take-suc}
pub use Rattle.std.proofs.lemmas.Bool.{and_parts, both_ways, cases_lt, eqb-true, false≢true, leb-true, or_cases}
pub use Rattle.std.proofs.lemmas.List.{append-nil, append_assoc, drop-append-le, drop-drop, get_or-drop, length-append, length-take-le, take-append-drop, take_all}
pub use Rattle.std.proofs.lemmas.Option.{get_or_from_slice_get, slice_get-get_or, slice_get_within}
pub use Rattle.std.specs.Bool.{Decides}
pub use Rattle.std.specs.Option.{is_none, unwrap_or}
pub use Rattle.circular_buffer.specs.Buffer.{Buffer, buffer, keep_last}
pub use Rattle.kpn_chan.specs.Channel.{ChannelState, MayJoin, after_put, batch_joined, has_places_for}
pub use Rattle.kpn_chan.specs.Chunks.{AreFull, HasNext, HasPlacesFor, IsChunks, IsCounted, all_of, has_room, items_of}
pub use Rattle.kpn_chan.specs.Ring.{HasPlaces, IsLaidOut, IsRoomy, MayPass, has_place, made_for, passed_through}
pub use Rattle.kpn_chan.specs.declared.chunks.TheConstants.{CHUNK, MAX_CHUNKS, MOST_GONE}
