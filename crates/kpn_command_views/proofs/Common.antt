-- The definitions that most proofs cite, passed on from one place. Declares nothing.
pub use Rattle.std.proofs.Common.{Bool, IfOk, List, OnOk, Option, SFits, [], ap, append_assoc, ap₂, arith, codes, cond, count_by, drop, drop_of_length-le, false, get_or, if◌then◌else◌, length, map, max, min, nat_eq, refl, rules, subst, sum, sym, take, true, w64, ℕ, ℤ, ◌*◌, ◌++◌, ◌+◌, ◌-◌, ◌<◌, ◌^◌, ◌∙◌, ◌∷◌, ◌≡◌, ◌≤◌}
pub use Rattle.std.proofs.Math.Nat.{max-le, min-le_right}
pub use Rattle.std.proofs.lemmas.Bool.{cases_lt, ne_eqb}
pub use Rattle.std.proofs.lemmas.Int.{to_z-of_z}
pub use Rattle.std.proofs.lemmas.List.{get_or-replicate, get_or-set_other, get_or-set_same, length-map, length-replicate, length-set, length-take, length_push, take-append-le, take-map, take_all, take_more}
pub use Rattle.std.proofs.lemmas.List.Sums.{sum-map, sum_by_push}
pub use Rattle.std.proofs.lemmas.Result.{on_ok_weaker}
pub use Rattle.std.specs.Io.KnownBytes.{Appends}
pub use Rattle.std.specs.List.{concat, flat_map, fold, range_with_len}
pub use Rattle.std.specs.String.{string_bytes}
pub use Rattle.std.specs.declared.alloc.Global.{Global}
pub use Rattle.kpn_net.proofs.Networks.{IsInstance-of, sizes}
pub use Rattle.kpn_net.specs.Tables.{Tables, under}
pub use Rattle.kpn_net.specs.Waits.{wait_at}
pub use Rattle.kpn_net.specs.declared.tables.Policy.TheVariants.{Cycles}
pub use Rattle.kpn_net.specs.declared.wait.Wait.{Wait}
pub use Rattle.kpn_history.specs.Channels.{is_growth_of, read_in, read_on, unread_on, written_in, written_on}
pub use Rattle.kpn_history.specs.declared.event.Event.{Event}
pub use Rattle.kpn_history.specs.declared.event.Event.TheVariants.{Feed, Get, Grow, Put, Take, WaitEmpty, WaitFull}
pub use Rattle.kpn_history.specs.declared.stored.Trace.{Trace}
pub use Rattle.kpn_history.specs.declared.stored.Version.{Version}
pub use Rattle.kpn_history.specs.declared.stored.Version.TheVariants.{One, Two}
pub use Rattle.kpn_audit.specs.Stored.{history_in, history_of, tables_for, told, told_behind}
pub use Rattle.kpn_command_base.proofs.PieceLemmas.{three_pieces, two_pieces}
pub use Rattle.kpn_command_base.specs.Added.{Adds}
pub use Rattle.kpn_text.specs.Document.{Document}
pub use Rattle.kpn_text_names.specs.Names.{name_at}
pub use Rattle.kpn_ticks.proofs.Counting.{clocks_are, ticks_are_few}
pub use Rattle.kpn_ticks.proofs.Told.{history_clocks, same_after}
pub use Rattle.kpn_ticks.specs.Shown.{AreClocks, shown}
pub use Rattle.kpn_ticks.specs.Ticks.{Clocks, clocks_after, clocks_with_event, get_tick, latest_of, put_tick, start, written_of}
pub use Rattle.kpn_command_views.specs.Figures.{AreFigures, CountChannels, CountProcesses, CountsChannel, CountsProcess, IsMostUnread, changed_at, channel_counts_then, channel_then, channel_total, channels_then, is_get_of, is_put_of, is_wait_empty_of, is_wait_full_of, no_channel, no_process, process_then, process_total, processes_then, unread_behind, waits_for_item, waits_for_room, with_most}
pub use Rattle.kpn_command_views.specs.HistoryTimes.{AreTimes, is_move}
pub use Rattle.kpn_command_views.specs.PictureAnswers.{IsNoPicture, IsPicture, IsRefusalOfPicture, size_for}
pub use Rattle.kpn_command_views.specs.PictureText.{all_box_count, all_event_boxes, axis_line, bar_between, box_count, box_front, box_name, boxes_in, caption_text, event_boxes, grid_text, item_box, item_title, last_box, last_boxes, last_counts, last_title, last_wait_box, legend, longest_below, move_boxes, picture, picture_head_text, picture_size, picture_with, right_of, row, row_band, row_name_text, row_of_process, row_place, scale_for, scale_of, shown_box, size_text, style_text, tick_width, ticks_in, wait_box, wait_title, whole_box}
pub use Rattle.kpn_command_views.specs.Sent.{IsSentWhole}
pub use Rattle.kpn_command_views.specs.TimelineText.{all_event_lines, channel_counters, counter_label, counter_line, counter_lines, each_below, event_lines, item_slice, last_wait, last_waits, read_lines, timeline, timeline_head, track_line, wait_slice}
pub use Rattle.kpn_command_views.specs.declared.boxes.Bar.{Bar}
pub use Rattle.kpn_command_views.specs.declared.figures.ChannelFigures.{ChannelFigures}
pub use Rattle.kpn_command_views.specs.declared.figures.Figures.{Figures}
pub use Rattle.kpn_command_views.specs.declared.figures.ProcessFigures.{ProcessFigures}
pub use Rattle.kpn_command_views.specs.declared.scale.Scale.{Scale}
