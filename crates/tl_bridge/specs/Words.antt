-- Definitions of the crates below that those of this crate use.
pub use Rattle.tl_msg.specs.Tables.{rules_a, rules_b, rules_c, rules_d, rules_e}
pub use Rattle.tl_msg.specs.declared.beat.BeatOf.{BeatOf}
pub use Rattle.tl_msg.specs.declared.head.HeadA.{HeadA}
pub use Rattle.tl_msg.specs.declared.head.HeadB.{HeadB}
pub use Rattle.tl_msg.specs.declared.head.HeadC.{HeadC}
pub use Rattle.tl_msg.specs.declared.head.HeadD.{HeadD}
pub use Rattle.tl_msg.specs.declared.head.HeadE.{HeadE}
pub use Rattle.tl_ring.specs.Ends.{Sending, Taking, known_free, known_items, received, room, seen_by, sent}
pub use Rattle.tl_ring.specs.Pipe.{Pipe}
pub use Rattle.tl_ring.specs.declared.standing.Standing.{Standing}
pub use Rattle.tl_run.specs.Inner.Running.{AllStop, AreStopped, HaveRoomToCount, IsAt, IsHomed, IsSent, IsStopped, Stops, all_standing}
pub use Rattle.tl_run.specs.Inner.Running.{all_steps, all_under_way}
pub use Rattle.tl_offer.specs.Offering.{Does, steps}
pub use Rattle.tl_offer.specs.declared.offered.Offered.{Offered}
pub use Rattle.tl_offer.specs.declared.offered.Offered.TheVariants.{NotReady}
pub use Rattle.tl_run.specs.declared.turn.Turn.{Turn}
pub use Rattle.tl_settle.specs.Histories.{Answer, Ask, Event, answered, asked, client_answer, manager_answer, manager_home}
pub use Rattle.tl_settle.specs.Outcomes.{Beats}
pub use Rattle.tl_settle.specs.Rounds.{ClientMoves, ManagerMoves}
pub use Rattle.tl_settle.specs.Settling.{far_a, far_d}
pub use Rattle.tl_sides.specs.Bridges.{Bridge, Past}
pub use Rattle.tl_sides.specs.Crossings.{stops_alone}
pub use Rattle.tl_sides.specs.Sides.{AreSides, ClientPast, ClientStandsFor, ClientState, ManagerPast, ManagerStandsFor, ManagerState, SameClient}
pub use Rattle.tl_sides.specs.Sides.{SameManager, SidesMeet, new_client, new_manager}
pub use Rattle.tl_sides.specs.declared.per_channel.PerChannel.{PerChannel}
pub use Rattle.tl_trace.specs.declared.script.Script.{Script}
