-- The names that the proofs of this crate use most, from the library and from the definitions, re-exported by one
-- module.
pub use Rattle.std.proofs.Common.{◌≡◌, ◌≤◌, ◌<◌, ◌∷◌, ◌++◌, Option, None, Some, List, [], length, drop, ◌⊎◌, ◌||◌, Bool, true, false, inl, inr}
pub use Rattle.std.proofs.Common.{get_or, subst, refl, sym, ap, arith, ◌^◌, ℕ, zero, suc, take, ◌∙◌, append_assoc, append-nil, ◌+◌, ◌-◌, min}
pub use Rattle.std.proofs.Common.{length-append, ⊎_elim, ◌*◌, max, ◌↔◌, ◌==◌, ◌&&◌, cond, map, slice_index, replicate, rules, lit<, not}
pub use Rattle.std.proofs.Math.Seq.{take-append_seam, drop-append_seam, take-append-add, take-length}
pub use Rattle.std.proofs.lemmas.Bool.{cases_lt, and_parts, or_parts, not-true}
pub use Rattle.std.proofs.lemmas.List.{length-take, length-drop, take-append-le, nil_from_length, take-append-drop, length-map, take_all, drop_all}
pub use Rattle.std.proofs.lemmas.List.{drop-append-le, take_rest, drop-drop}
pub use Rattle.std.proofs.lemmas.List.Elements.{All-take, All-drop, All-append, All-replicate, All-nil, All-cons, All-head, All-tail}
pub use Rattle.std.specs.Prelude.{Result, Ok, Err, IsOk, OnOk, OnErr, All, slice_get}
pub use Rattle.tl_burst.proofs.FaultsExact.{ChannelLaws, none-handed, admitted-none, faults-exact, laws-of}
pub use Rattle.tl_burst.proofs.RestOf.{RestIs}
pub use Rattle.tl_burst.specs.Handing.{IsAdmitted, rest_of, homes_with, Handed, nothing, IsHandedWith, IsHanded, with_home, fault_after}
pub use Rattle.tl_convert.specs.Due.{due, layouts, part}
pub use Rattle.tl_lanes.specs.Lanes.{IsWidth}
pub use Rattle.tl_msg.specs.Beats.{IsBeat}
pub use Rattle.tl_msg.specs.Faults.{IsLawfulBeat}
pub use Rattle.tl_msg.specs.Rules.{Rules}
pub use Rattle.tl_msg.specs.declared.beat.BeatOf.{BeatOf}
pub use Rattle.tl_ring.specs.Boxes.{Outgoing, HasSent, as_sent}
pub use Rattle.tl_ring.specs.Crossing.{World, empty, inbox_room, IsReached, Event, offer, push, pop, take_one, close, offered, pushed, popped, took}
pub use Rattle.tl_ring.specs.Crossing.{shut, effect, IsPossible, Run, done, happens, fails}
pub use Rattle.tl_ring.specs.Laws.{Crosses}
pub use Rattle.tl_ring.specs.contracts.pipe.SyncPipe.{the_row}
pub use Rattle.tl_ring.specs.declared.queue.TheConstants.{STAGE_CAPACITY}
