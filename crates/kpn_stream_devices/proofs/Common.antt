-- The definitions that most proofs cite, passed on from one place. Declares nothing.
pub use Rattle.std.proofs.Common.{Err, SFits, ap, arith, length, refl, rules, subst, sym, w64, ℕ, ◌*◌, ◌+◌, ◌-◌, ◌<◌, ◌^◌, ◌∙◌, ◌≡◌, ◌≤◌}
pub use Rattle.std.proofs.KnownBytes.{Appends-kept, Appends-nil, Appends-trans, Keeps-refl, Keeps-trans, append_known-grown}
pub use Rattle.std.proofs.Math.Dec.{leb→le}
pub use Rattle.std.proofs.Math.Nat.{div-add-mod, div-eq_of_lt, div-le_self, div-lt_iff_lt-mul, mod-eq_of_lt, mod-lt, mul-div-mul_right, mul-le-mul, mul-lt-mul_of_pos_right, mul_assoc, pow-le-pow_right, pow-suc, ℕ_set}
pub use Rattle.std.proofs.lemmas.Bool.{cases_eq, cases_lt, eq-eqb, eqb-true, false≢true, le-ltb, lt-ltb, ltb-true, true≢false}
pub use Rattle.std.proofs.lemmas.Bool.Decides.{nat_tests}
pub use Rattle.std.proofs.lemmas.Grind.{common_steps, flat_map-append}
pub use Rattle.std.proofs.lemmas.Int.{ints, to_z-of_z}
pub use Rattle.std.proofs.lemmas.List.{drop-append-le, get_or-set_other, get_or-set_same, get_or_default, length-set, set-get_or, take_rest}
pub use Rattle.std.proofs.lemmas.List.Quantifiers.{position-Some}
pub use Rattle.std.proofs.lemmas.List.Sums.{fails_before_first}
pub use Rattle.std.proofs.lemmas.Nat.{and_mask, le-div, leading_top, mod-mul-add, one_shl, pow-add, pow_pos}
pub use Rattle.std.specs.Int.Count.{count_leading_zeros}
pub use Rattle.std.specs.Io.KnownBytes.{Appends, Consumes, Keeps, append_known, prepend_known}
pub use Rattle.std.specs.List.{All, list_any, position, position_or_len}
pub use Rattle.std.specs.Prelude.{MatchOption, bit_and, if◌then◌else◌}
pub use Rattle.std.specs.Str.Lines.{lines, strip_carriage_return}
pub use Rattle.kpn_net.specs.Faults.{IsNetwork}
pub use Rattle.kpn_net.specs.Tables.{Tables, channel_at, is_sink, is_source}
pub use Rattle.kpn_history.proofs.Events.{flat_map-push, read_on-push, read_on-same, written_on-push, written_on-same}
pub use Rattle.kpn_history.proofs.Journals.{no_sink, no_source, none_elsewhere}
pub use Rattle.kpn_history.proofs.Legality.{Legal-before}
pub use Rattle.kpn_history.proofs.OneMore.{item_here}
pub use Rattle.kpn_history.proofs.Ownership.{IsOwn-last}
pub use Rattle.kpn_history.specs.Channels.{is_leave_of, is_left, read_in, read_on, written_in, written_on}
pub use Rattle.kpn_history.specs.Legal.{Legal}
pub use Rattle.kpn_history.specs.declared.event.Event.{Event}
pub use Rattle.byteorder.specs.Endian.{little_number, low_bytes, twos_complement}
pub use Rattle.byteorder.specs.Numbers.{little_from-append, little_number-reads_back}
pub use Rattle.kpn_stream.specs.Devices.{AreFlushed, AreFlushedLast, Fed, IsFlushed, NoneIs, Served, at_first, by_end, by_fault, by_item, by_look, by_no_memory, by_others, flushed, flushed_not, had_enough, had_enough_not, is_no_growth, is_of_sink, is_of_source, left, left_not, meanwhile, none_yet, took, took_in_vain, took_not}
pub use Rattle.kpn_stream.specs.declared.faults.SinkFault.{SinkFault}
pub use Rattle.kpn_stream.specs.declared.faults.SourceFault.{SourceFault}
pub use Rattle.kpn_stream.specs.declared.faults.SourceFault.TheVariants.{BadHead, BadItem, CutSample}
pub use Rattle.kpn_text_items.specs.ItemLine.{SpellsItem}
pub use Rattle.kpn_stream_devices.specs.Floats.{float_bits, float_item, rounded, significand_of, size_bits, size_of, with_sign}
pub use Rattle.kpn_stream_devices.specs.Formats.{FormatHolds, HasText, IsExact, item_bytes, number_bytes, sample_bytes, sample_value, sample_width, signed_value, text_of, written_item}
pub use Rattle.kpn_stream_devices.specs.Head.{chunks_after, chunks_from, head_at, head_of, least_unknown}
pub use Rattle.kpn_stream_devices.specs.Out.{HasOwnDevice, IsServed, text_of_all}
pub use Rattle.kpn_stream_devices.specs.SinkOutputs.{Flushes, HandsOn, KeepsFew, OutputRel, OutputsDo, OutputsFlush, OutputsTake, Takes, TakesItem, by_output, device_holds, output_of, was_put}
pub use Rattle.kpn_stream_devices.specs.SourceInputs.{FailsToRead, HasReadOn, HaveMoved, InputGives, IsInputAsked, IsSparing, ReadsOnly, WaitsForDevice, at_input, by_input, device_left, input_of, kept_fault, most_read}
pub use Rattle.kpn_stream_devices.specs.Window.{CountsUsed, FormatGives, HeadNeedsMore, IfKnown, IsEndKnown, IsRightOf, IsRightOfWav, LineGives, NeedsMore, SampleGives, SpellsNone, WavGives, Window, WindowGives, WindowTells, answer_of, end_told, fresh, left_of, one_after, used_after, with_one}
pub use Rattle.kpn_stream_devices.specs.declared.formats.ItemFormat.TheVariants.{Lines, Samples}
pub use Rattle.kpn_stream_devices.specs.declared.formats.OutputFormat.{OutputFormat}
pub use Rattle.kpn_stream_devices.specs.declared.formats.SampleFormat.{SampleFormat}
pub use Rattle.kpn_stream_devices.specs.declared.formats.SampleFormat.TheVariants.{F32, S16, S24, S32, S64, S8, U8}
pub use Rattle.kpn_stream_devices.specs.declared.head.Head.{Head}
pub use Rattle.kpn_stream_devices.specs.declared.head.Head.TheVariants.{Bad, Open, Whole}
pub use Rattle.kpn_stream_devices.specs.declared.inputs.SourceInput.{SourceInput}
pub use Rattle.kpn_stream_devices.specs.declared.inputs.SourceInputs.{SourceInputs}
pub use Rattle.kpn_stream_devices.specs.declared.outputs.SinkOutput.{SinkOutput}
pub use Rattle.kpn_stream_devices.specs.declared.outputs.SinkOutputs.{SinkOutputs}
pub use Rattle.kpn_stream_devices.specs.declared.window.Told.TheVariants.{One, Other}
