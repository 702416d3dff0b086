-- The names that the proofs of this crate use most, from the library and from the definitions, re-exported by one
-- module.
pub use Rattle.std.proofs.Common.{◌≡◌, true, Result, Ok, Err, refl, sym, subst, ◌≢◌, ◌+◌, ◌≤◌, ◌*◌, ◌++◌, ℕ, zero, suc, Bool, false, Option, None}
pub use Rattle.std.proofs.Common.{Some, List, [], ◌∷◌, length, map, take, drop, get_or, ap, ◌∙◌, arith, append-nil, append_assoc, length-append, ◌↔◌}
pub use Rattle.std.proofs.Common.{◌<◌, ◌-◌, ◌⊎◌, inl, inr, min, ⊎_elim, ◌^◌, cond, zero-le, ◌&&◌, ◌||◌, lit<}
pub use Rattle.std.proofs.lemmas.List.{length-take-le, map-append, length-drop, nil_from_length, length-take}
pub use Rattle.std.proofs.lemmas.Option.{slice_get_within, get_or_from_slice_get}
pub use Rattle.std.specs.Option.{option_map_or}
pub use Rattle.std.specs.Prelude.{IsOk, OnOk, ◌==◌, slice_get, if◌then◌else◌, slice_index, is_none, IsTrue, OnErr}
pub use Rattle.std.specs.Prelude.{vec_capacity}
pub use Rattle.tl_burst.specs.Begun.{heads, left}
pub use Rattle.tl_burst.specs.Handing.{IsHanded, fault_after, Handed, rest_of, with_home, homes_with, ends, fault_in, burst_of}
pub use Rattle.tl_convert.proofs.Comparisons.{equal_true, not_equal, none_past, true_equal}
pub use Rattle.tl_convert.specs.Accepted.{accepted_of, accepted_after}
pub use Rattle.tl_convert.specs.Due.{due, far_beats_of, part, due_after}
pub use Rattle.tl_lanes.specs.Lanes.{IsWidth}
pub use Rattle.tl_msg.specs.Rules.{Rules}
pub use Rattle.tl_msg.specs.Tables.{rules_a, rules_b, rules_c, rules_d, rules_e, is_aligned}
pub use Rattle.tl_msg.specs.declared.beat.BeatOf.{BeatOf}
pub use Rattle.tl_msg.specs.declared.fault.BeatFault.{BeatFault}
pub use Rattle.tl_msg.specs.declared.fault.SideFault.{SideFault}
pub use Rattle.tl_msg.specs.declared.fault.SideFault.TheVariants.{Beat, SourceBusy, NoRequest, SizeMismatch}
pub use Rattle.tl_msg.specs.declared.head.HeadA.{HeadA}
pub use Rattle.tl_msg.specs.declared.head.HeadD.{HeadD}
pub use Rattle.tl_msg.specs.declared.verdict.Verdict.{Verdict}
pub use Rattle.tl_ring.proofs.FieldSizes.{beat_small}
pub use Rattle.tl_ring.specs.Crossing.{World, offered, shut, inbox_room, empty, pushed, popped}
pub use Rattle.tl_ring.specs.Pipe.{Pipe}
pub use Rattle.tl_run.specs.Arrivals.{joined, no_beats, Fit}
pub use Rattle.tl_run.specs.Inner.Arriving.{HasRoom, HaveRoom, beats_of}
pub use Rattle.tl_run.specs.Inner.Going.{GoesAhead, GoesOn, RestsIn, AreOn, AreStopsOf, HasStopped, IsStopOf, all_counts, all_ways}
pub use Rattle.tl_run.specs.Inner.Going.{stop_by, way_in, IsSound}
pub use Rattle.tl_run.specs.Inner.Going.{AllRest}
pub use Rattle.tl_offer.specs.Offering.{OffersNext, Does, refused_by, steps}
pub use Rattle.tl_run.specs.Inner.Running.{Stops, IsSent, IsHomed, under_way, progress, stop_verdict, IsStopped, emptied, AreStopped}
pub use Rattle.tl_run.specs.Inner.Running.{IsNew, IsUnderWay, counted, all_progress, all_under_way, standing_count, all_standing, all_stopped}
pub use Rattle.tl_run.specs.Inner.Running.{IsRunning, CanAdd, HaveRoomToCount, arriving, inboxes, lengths, IsAt, AllStop, HasRound, HasEnded}
pub use Rattle.tl_run.specs.Inner.Running.{after_take_all, added, HasOffered}
pub use Rattle.tl_run.specs.Running.{as_counts}
pub use Rattle.tl_parts.specs.Parts.{IsPart, AreEnd, ArePart, IsEnd, none_counted, AreBetween, IsBetween, IsShort, near_beats, HasShortLists}
pub use Rattle.tl_run.specs.Scripts.{near_count, far_count}
pub use Rattle.tl_offer.specs.declared.offered.Offered.{Offered}
pub use Rattle.tl_offer.specs.declared.offered.Offered.TheVariants.{Stopped, Accepted, NotReady}
pub use Rattle.tl_offer.specs.declared.offered.Stop.{Stop}
pub use Rattle.tl_offer.specs.declared.offered.Stop.TheVariants.{Done, Cut, Refused}
pub use Rattle.tl_settle.specs.Histories.{Ask, Answer, client_answer, manager_answer, manager_home, Event, asked, answered, manager_homes}
pub use Rattle.tl_settle.specs.Outcomes.{verdict_of, far_alone, verdict_alone, Beats, far_beats, verdicts, verdict_a, verdict_d}
pub use Rattle.tl_settle.specs.Rounds.{round, client_rests, manager_rests, Run, ClientMoves, ManagerMoves, client_accepts}
pub use Rattle.tl_settle.specs.Rounds.{manager_accepts, IsOver, IsSettledRun}
pub use Rattle.tl_sides.proofs.BridgeSize.{bridge_small}
pub use Rattle.tl_sides.specs.Bridges.{bridge_client, bridge_manager}
pub use Rattle.tl_sides.specs.Ports.{sends_a, sends_b, sends_c, sends_d, sends_e}
pub use Rattle.tl_sides.specs.Calls.{SendingChannel}
pub use Rattle.tl_sides.specs.Bridges.{Bridge, Past, StandsFor, IsStanding, nothing_yet, fetch_count, pump_count, after_fetch, after_pump}
pub use Rattle.tl_sides.specs.ChannelCalls.{again_count, out_count, passed_on}
pub use Rattle.tl_sides.specs.Crossings.{stops_alone}
pub use Rattle.tl_sides.specs.declared.per_channel.PerChannel.{PerChannel}
