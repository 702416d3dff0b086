-- The words and lemmas of the crates below that the proofs of this crate use.
pub use Rattle.circular_buffer.specs.Buffer.{Buffer, buffer}
pub use Rattle.tl_burst.proofs.BegunMessages.{left-zero}
pub use Rattle.tl_burst.specs.Begun.{left}
pub use Rattle.tl_burst.specs.Handing.{fault_after, fault_in, homes_with, rest_of, with_home}
pub use Rattle.tl_burst.specs.Tracking.{IsPlaceOf}
pub use Rattle.tl_burst.specs.declared.place.Place.{Place}
pub use Rattle.tl_convert.proofs.Comparisons.{equal_true, not_equal, true_less}
pub use Rattle.tl_convert.specs.Due.{due}
pub use Rattle.tl_lanes.proofs.Widths.{at_widths, each_width}
pub use Rattle.tl_lanes.specs.Lanes.{IsWidth}
pub use Rattle.tl_msg.proofs.Firsts.{first_none}
pub use Rattle.tl_msg.specs.Faults.{IsLawfulBeat, is_clean, mask_fits}
pub use Rattle.tl_msg.specs.Laws.{partial_not_c, partial_not_d}
pub use Rattle.tl_msg.specs.Rules.{Rules}
pub use Rattle.tl_msg.specs.Tables.{rules_a, rules_b, rules_c, rules_d, rules_e}
pub use Rattle.tl_msg.specs.declared.beat.BeatOf.{BeatOf}
pub use Rattle.tl_msg.specs.declared.channel.ChA.{ChA}
pub use Rattle.tl_msg.specs.declared.channel.ChB.{ChB}
pub use Rattle.tl_msg.specs.declared.channel.ChC.{ChC}
pub use Rattle.tl_msg.specs.declared.channel.ChD.{ChD}
pub use Rattle.tl_msg.specs.declared.channel.ChE.{ChE}
pub use Rattle.tl_msg.specs.declared.fault.BeatFault.{BeatFault}
pub use Rattle.tl_msg.specs.declared.fault.BeatFault.TheVariants.{Corrupt, Mask}
pub use Rattle.tl_msg.specs.declared.fault.SideFault.{SideFault}
pub use Rattle.tl_msg.specs.declared.fault.SideFault.TheVariants.{Beat}
pub use Rattle.tl_msg.specs.declared.head.HeadA.{HeadA}
pub use Rattle.tl_msg.specs.declared.head.HeadB.{HeadB}
pub use Rattle.tl_msg.specs.declared.head.HeadC.{HeadC}
pub use Rattle.tl_msg.specs.declared.head.HeadD.{HeadD}
pub use Rattle.tl_msg.specs.declared.head.HeadE.{HeadE}
pub use Rattle.tl_ring.proofs.Answered.{on_err, on_ok}
pub use Rattle.tl_ring.proofs.EndSteps.{meets_of, met_of, sends_new, sends_offered, sends_shut}
pub use Rattle.tl_ring.proofs.FieldSizes.{beat_small}
pub use Rattle.tl_ring.proofs.Names.{drop-append_seam}
pub use Rattle.tl_ring.proofs.Moves.{cut_moves, want_of_memory}
pub use Rattle.tl_ring.proofs.PipeSteps.{stands_emptied, stands_new, stands_offered, stands_popped, stands_pushed, stands_shut, stands_took}
pub use Rattle.tl_ring.proofs.Same.{same_send, same_send_then, same_take_then, still_pair}
pub use Rattle.tl_ring.specs.Boxes.{HasSent, HasTaken, IsOpen, Outgoing, as_sent}
pub use Rattle.tl_ring.specs.Crossing.{World, inbox_room, offered, popped, pushed, shut, took}
pub use Rattle.tl_ring.specs.Ends.{Fetched, Meets, Met, Pushed, SameSend, SameTake, Sending, Sends, Takes, Taking, known_free, known_items, passed}
pub use Rattle.tl_ring.specs.Ends.{clock, received, received_times, seen_by, sending_of, sent, sent_times, taking_of}
pub use Rattle.tl_ring.specs.Pipe.{Pipe}
pub use Rattle.tl_ring.specs.declared.fault.EndFault.{EndFault}
pub use Rattle.tl_ring.specs.declared.queue.TheConstants.{STAGE_CAPACITY}
pub use Rattle.tl_ring.specs.declared.standing.Standing.{Standing}
pub use Rattle.tl_settle.proofs.Homes.{from_answer, from_ask}
pub use Rattle.tl_settle.proofs.Marks.{answered_answer, answered_ask, asked_answer, asked_ask}
pub use Rattle.tl_settle.specs.Histories.{Answer, Answers, Ask, Asks, Event, Mark, answered, asked, home_after, homes_from}
pub use Rattle.tl_settle.specs.Histories.{manager_home, manager_homes, marks}
