-- Definitions of the crates below that those of this crate use.
pub use Rattle.circular_buffer.specs.Buffer.{Buffer}
pub use Rattle.tl_burst.specs.Handing.{fault_after, rest_of}
pub use Rattle.tl_msg.specs.Faults.{IsLawfulBeat}
pub use Rattle.tl_msg.specs.Rules.{Rules}
pub use Rattle.tl_msg.specs.Tables.{rules_a, rules_b, rules_c, rules_d, rules_e}
pub use Rattle.tl_msg.specs.declared.beat.BeatOf.{BeatOf}
pub use Rattle.tl_msg.specs.declared.channel.ChA.{ChA}
pub use Rattle.tl_msg.specs.declared.channel.ChB.{ChB}
pub use Rattle.tl_msg.specs.declared.channel.ChC.{ChC}
pub use Rattle.tl_msg.specs.declared.channel.ChD.{ChD}
pub use Rattle.tl_msg.specs.declared.channel.ChE.{ChE}
pub use Rattle.tl_msg.specs.declared.fault.SideFault.{SideFault}
pub use Rattle.tl_msg.specs.declared.fault.SideFault.TheVariants.{Beat}
pub use Rattle.tl_msg.specs.declared.head.HeadA.{HeadA}
pub use Rattle.tl_msg.specs.declared.head.HeadB.{HeadB}
pub use Rattle.tl_msg.specs.declared.head.HeadC.{HeadC}
pub use Rattle.tl_msg.specs.declared.head.HeadD.{HeadD}
pub use Rattle.tl_msg.specs.declared.head.HeadE.{HeadE}
pub use Rattle.tl_ring.specs.Boxes.{HasSent, HasTaken, Outgoing, as_sent}
pub use Rattle.tl_ring.specs.Crossing.{World, empty, inbox_room, offered, popped, pushed, shut, took}
pub use Rattle.tl_ring.specs.Ends.{ArePair, Fetched, Meets, Pushed, SameSend, SameTake, SendHalf, Sending, Sends, TakeHalf, Takes, Taking, as_pipe, closing}
pub use Rattle.tl_ring.specs.Ends.{clock, known_free, known_items, passed, received_times, sending_of, sent_times, taking_of, took_first}
pub use Rattle.tl_ring.specs.Pipe.{Pipe, outbox_of}
pub use Rattle.tl_ring.specs.declared.fault.EndFault.{EndFault}
pub use Rattle.tl_ring.specs.declared.queue.TheConstants.{STAGE_CAPACITY}
pub use Rattle.tl_ring.specs.declared.standing.Standing.{Standing}
pub use Rattle.tl_settle.specs.Histories.{Answer, Ask, Event, answered, asked, client_answer, manager_answer, manager_home, manager_homes}
