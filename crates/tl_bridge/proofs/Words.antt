-- The words and lemmas of the crates below that the proofs of this crate use.
pub use Rattle.tl_burst.specs.Handing.{fault_after}
pub use Rattle.tl_lanes.specs.Lanes.{IsWidth}
pub use Rattle.tl_msg.specs.Rules.{Rules}
pub use Rattle.tl_msg.specs.Tables.{rules_a, rules_b, rules_c, rules_d, rules_e}
pub use Rattle.tl_msg.specs.declared.beat.BeatOf.{BeatOf}
pub use Rattle.tl_msg.specs.declared.fault.SideFault.{SideFault}
pub use Rattle.tl_msg.specs.declared.head.HeadA.{HeadA}
pub use Rattle.tl_msg.specs.declared.head.HeadB.{HeadB}
pub use Rattle.tl_msg.specs.declared.head.HeadC.{HeadC}
pub use Rattle.tl_msg.specs.declared.head.HeadD.{HeadD}
pub use Rattle.tl_msg.specs.declared.head.HeadE.{HeadE}
pub use Rattle.tl_ring.proofs.FieldSizes.{beat_small}
pub use Rattle.tl_ring.proofs.Same.{same_send, same_take}
pub use Rattle.tl_ring.specs.Crossing.{World, inbox_room}
pub use Rattle.tl_ring.specs.Ends.{Meets, Met, SameSend, SameTake, Sending, Sends, Takes, Taking, known_free, known_items, received, room, seen_by}
pub use Rattle.tl_ring.specs.Ends.{sent}
pub use Rattle.tl_ring.specs.Laws.{Crosses}
pub use Rattle.tl_ring.specs.declared.queue.TheConstants.{STAGE_CAPACITY}
pub use Rattle.tl_ring.specs.declared.standing.Standing.{Standing}
pub use Rattle.tl_run.proofs.ChannelEnd.{inbox-due, room-for}
pub use Rattle.tl_run.proofs.ChannelOffer.{answered-all, asked-all, homed-offer, sent-offer, sent-passed, stops-offer}
pub use Rattle.tl_run.proofs.ChannelRound.{stage-full}
pub use Rattle.tl_run.proofs.Counting.{counts-on, few-enough, last-one, nearer, none-more, one-round-more, same-sums}
pub use Rattle.tl_run.proofs.Ended.{begins, end-few, progress-ends, progress-is, run_end}
pub use Rattle.tl_parts.proofs.Lives.{lives-long}
pub use Rattle.tl_offer.proofs.NextOffers.{of-list}
pub use Rattle.tl_run.proofs.OnlyMemory.{not-ok, only-memory, stalled-never}
pub use Rattle.tl_run.proofs.Round.{alone-own, client-own, counts-fit, manager-own, none-accepted, stops-same}
pub use Rattle.tl_run.proofs.RoundMoves.{client-offers, manager-offers}
pub use Rattle.tl_parts.proofs.Takes.{client-takes-all, manager-takes-all}
pub use Rattle.tl_run.proofs.RunRound.{due-a, due-d}
pub use Rattle.tl_run.specs.Arrivals.{no_beats}
pub use Rattle.tl_run.specs.Inner.Arriving.{HasRoom, HasRoomFor, beats_of}
pub use Rattle.tl_run.specs.Inner.Running.{AllStop, AreStopped, HasEnded, HaveRoomToCount, IsAt, IsSent, IsStopped, all_progress, all_standing}
pub use Rattle.tl_run.specs.Inner.Running.{all_steps, all_stopped, all_under_way, counted, of_both, progress, standing_count, under_way}
pub use Rattle.tl_parts.specs.Parts.{IsShort, near_beats}
pub use Rattle.tl_offer.specs.Offering.{Does, steps}
pub use Rattle.tl_offer.specs.declared.offered.Offered.{Offered}
pub use Rattle.tl_offer.specs.declared.offered.Offered.TheVariants.{Accepted, NotReady, Stopped}
pub use Rattle.tl_offer.specs.declared.offered.Stop.{Stop}
pub use Rattle.tl_run.specs.declared.turn.Turn.{Turn}
pub use Rattle.tl_settle.specs.Histories.{Answer, Ask, Event, answered, asked, client_answer, manager_answer, manager_home}
pub use Rattle.tl_settle.specs.Outcomes.{Beats}
pub use Rattle.tl_settle.specs.Rounds.{ClientMoves, ManagerMoves, client_rests, manager_rests, round}
pub use Rattle.tl_settle.specs.Settling.{far_a, far_d}
pub use Rattle.tl_sides.proofs.BridgeSize.{client_small, manager_small, small_at_widths}
pub use Rattle.tl_sides.proofs.BridgeSteps.{answered_asks, asked_answers}
pub use Rattle.tl_sides.proofs.SameSides.{same_client_then, same_manager_then, still_sides}
pub use Rattle.tl_sides.specs.Bridges.{Bridge, Past, StandsFor}
pub use Rattle.tl_sides.specs.Crossings.{stops_alone}
pub use Rattle.tl_sides.specs.Ends.{AreStanding, Fetches, Pumps, fetch_count, pump_count}
pub use Rattle.tl_sides.specs.Sides.{client_side, manager_side}
pub use Rattle.tl_sides.specs.Ports.{sends_a, sends_b, sends_c, sends_d, sends_e}
pub use Rattle.tl_sides.specs.Sides.{AreSides, ClientPast, ClientStandsFor, ClientState, ManagerPast, ManagerStandsFor, ManagerState, SameClient}
pub use Rattle.tl_sides.specs.Sides.{SameManager, SidesMeet, client_pumps, client_takes_b, client_takes_d, manager_pumps, manager_takes_a}
pub use Rattle.tl_sides.specs.Sides.{manager_takes_c, manager_takes_e, new_client, new_manager}
pub use Rattle.tl_sides.specs.declared.per_channel.PerChannel.{PerChannel}
pub use Rattle.tl_trace.specs.declared.script.Script.{Script}
