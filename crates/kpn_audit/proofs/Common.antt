-- The definitions that most proofs cite, passed on from one place. Declares nothing.
pub use Rattle.std.proofs.Common.{Bool, Err, IfErr, IfOk, IsTrue, List, None, Ok, Option, Result, Some, [], add-one, ap, append-nil, append_assoc, ap₂, arith, count_by, eqb, false, get_or, inl, inr, length, length-append, map, nat_eq, pos, refl, rules, slice_get, slice_index_or, subst, suc, suc-add, sym, take, true, zero, zero-add, ℕ, ◌++◌, ◌+◌, ◌-◌, ◌<◌, ◌^◌, ◌↔◌, ◌∙◌, ◌∷◌, ◌≡◌, ◌≢◌, ◌≤◌, ◌⊎◌}
pub use Rattle.std.proofs.lemmas.Bool.{both_ways, cases_lt, cases_order, eqb-true, false≢true, lt-ltb, ltb-true}
pub use Rattle.std.proofs.lemmas.List.{get_or_append_left, get_or_push, take_all}
pub use Rattle.std.proofs.lemmas.List.FromFn.{get_or-map-range_with_len, length-map-range_with_len}
pub use Rattle.std.proofs.lemmas.Result.{IfErr-weaker, IfOk-weaker, err_from_is_err_and}
pub use Rattle.std.specs.List.{range_with_len}
pub use Rattle.std.specs.Prelude.{IfSome, if◌then◌else◌, nat_lt}
pub use Rattle.kpn_lang.specs.Prefix.{IsPrefix}
pub use Rattle.kpn_net.specs.Faults.{IsNetwork}
pub use Rattle.kpn_net.specs.Iteration.{IsLeast}
pub use Rattle.kpn_net.specs.Tables.{Tables, capacity, channel_at, grown_capacity, instance_at, larger_capacity, program_of}
pub use Rattle.kpn_chan.specs.Channel.{ChannelState, is_channel_full, next_item}
pub use Rattle.kpn_step.proofs.StepCases.{Steps-append}
pub use Rattle.kpn_step.specs.Frame.{Frame, start_frame}
pub use Rattle.kpn_step.specs.Step.{Faults, Goes, Step, Steps, Stops, step_of}
pub use Rattle.kpn_step.specs.Stops.{IsBetween, StandsAt, stop_at}
pub use Rattle.kpn_step.specs.declared.stop.Stop.{Stop}
pub use Rattle.kpn_step.specs.declared.stop.Stop.TheVariants.{Paused, WantRead, WantWrite}
pub use Rattle.kpn_history.proofs.AfterEvent.{of_process}
pub use Rattle.kpn_history.proofs.Growth.{no_cycle_owed_after, none_owed_at_first}
pub use Rattle.kpn_history.proofs.Legality.{Legal-prefix}
pub use Rattle.kpn_history.specs.Channels.{after_growths, capacity_after, capacity_or_zero, fed, is_growth_of, read_on, written_on}
pub use Rattle.kpn_history.specs.Legal.{CanGo, HasNumbers, Legal, OwesGrowth, OwesStopGrowth, growth_after, waiter}
pub use Rattle.kpn_history.specs.Stops.{OwesNoCycleGrowth, OwesNoStopGrowth, OwesNothing, lets_go_on}
pub use Rattle.kpn_history.specs.Talks.{is_of, is_of_process}
pub use Rattle.kpn_history.specs.declared.event.Event.{Event}
pub use Rattle.kpn_history.specs.declared.event.Event.TheVariants.{Close, Ended, Feed, Get, Grow, Leave, Put, Take, WaitEmpty, WaitFull}
pub use Rattle.kpn_history.specs.declared.stored.Version.{Version}
pub use Rattle.kpn_history.specs.declared.stored.Version.TheVariants.{One, Two}
pub use Rattle.kpn_machine.proofs.Due.{Legal-due, may_go, stop_of-fault}
pub use Rattle.kpn_machine.proofs.Exact.{due_here, due_outside, free_there, must_be_free}
pub use Rattle.kpn_machine.proofs.Numbered.{by_number, one_more}
pub use Rattle.kpn_machine.proofs.Ports.{in_port, out_port, reads_below, writes_below}
pub use Rattle.kpn_machine.specs.Changes.{IsChannelAt, IsFrameAfter}
pub use Rattle.kpn_machine.specs.Due.{IsDueNow, Stands, stop_of}
pub use Rattle.kpn_machine.specs.Machine.{IsFree, IsMachine, Machine, channel_in, end_in, frame_in, wait_in, with_frame}
pub use Rattle.kpn_machine.specs.Run.{IsEndOf, IsRun}
pub use Rattle.kpn_machine.specs.declared.machine.growth.OwedGrowth.{OwedGrowth}
pub use Rattle.kpn_audit.specs.Audit.{AreLeast, AreWithinSteps, ComesInTime, IsAudit, IsBudgetAt, IsFault, IsIllegalAt, IsOutOfSteps, IsRefusal, IsWithinSteps}
pub use Rattle.kpn_audit.specs.Judged.{AllGoBy, ArePlaces, IsFollowed, IsInTime, IsJudged, IsMade, IsMoved, IsStopped, Owes}
pub use Rattle.kpn_audit.specs.Place.{ComesBy, GoesBy, IsPlaceAfter, StopsWithin}
pub use Rattle.kpn_audit.specs.Scene.{IsDoing, IsScene, IsSceneAt}
pub use Rattle.kpn_audit.specs.Stored.{Differs, audited_under, history_in, history_of, one_larger, tables_for, told, told_behind, told_capacity, told_in}
pub use Rattle.kpn_audit.specs.declared.findings.Audit.{Audit}
pub use Rattle.kpn_audit.specs.declared.findings.AuditFault.{AuditFault}
pub use Rattle.kpn_audit.specs.declared.judged.Judged.{Judged}
pub use Rattle.kpn_audit.specs.declared.scene.Doing.TheVariants.{Elsewhere, Reads, Writes}
pub use Rattle.kpn_audit.specs.declared.scene.Scene.{Scene}
