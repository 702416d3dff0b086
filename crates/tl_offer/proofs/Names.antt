-- The words of other modules that the proofs here use.
pub use Rattle.std.proofs.Common.{◌≡◌, true, Result, Ok, Err, refl, sym, subst, ◌≢◌, ℕ, Bool, false, Option, None, Some, List, [], ◌∷◌, ap}
pub use Rattle.std.proofs.Common.{◌∙◌, arith, ◌↔◌, ◌⊎◌, inl, inr, ⊎_elim}
pub use Rattle.std.proofs.lemmas.Option.{slice_get_read, slice_get_past}
pub use Rattle.std.specs.Prelude.{slice_get, IsTrue}
pub use Rattle.tl_convert.proofs.Comparisons.{there_is}
pub use Rattle.tl_msg.specs.Rules.{Rules}
pub use Rattle.tl_msg.specs.declared.beat.BeatOf.{BeatOf}
pub use Rattle.tl_msg.specs.declared.fault.SideFault.{SideFault}
pub use Rattle.tl_ring.specs.Crossing.{World, offered, shut}
pub use Rattle.tl_ring.specs.Pipe.{Pipe, IsReady}
pub use Rattle.tl_offer.specs.Offering.{OffersNext, Does, steps, offer_outcome, close_outcome}
pub use Rattle.tl_offer.specs.declared.offered.Offered.{Offered}
pub use Rattle.tl_offer.specs.declared.offered.Offered.TheVariants.{Stopped, Accepted, NotReady}
pub use Rattle.tl_offer.specs.declared.offered.Stop.TheVariants.{Done, Cut, Refused}
pub use Rattle.tl_sides.proofs.BridgeSize.{bridge_small, client_small, manager_small}
pub use Rattle.tl_sides.specs.Bridges.{bridge_client, bridge_manager}
pub use Rattle.tl_sides.specs.Ports.{sends_a, sends_b, sends_c, sends_d, sends_e}
pub use Rattle.tl_sides.specs.Calls.{SendingChannel, OffersBeat, ClosesChannel}
pub use Rattle.tl_sides.specs.Sides.{client_side, manager_side}
