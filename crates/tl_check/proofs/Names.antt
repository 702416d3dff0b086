-- The names that the proofs of this crate use most, from the library and from the definitions, re-exported by one
-- module.
pub use Rattle.std.proofs.Common.{◌≡◌, ◌≤◌, ℕ, false, Option, None, Some, List, [], length, map, take, refl, sym, ap, subst, ◌∙◌, ◌<◌, ◌+◌, ◌++◌}
pub use Rattle.std.proofs.Common.{zero, suc, Bool, true, cond, ◌∷◌, drop, arith, append-nil, length-append, ◌-◌, ◌*◌, ◌≢◌, get_or, zero-le}
pub use Rattle.std.proofs.Common.{append_assoc, lit<}
pub use Rattle.std.proofs.lemmas.Option.{slice_get_past, get_or_from_slice_get, slice_get_within}
pub use Rattle.std.specs.Option.{option_map_or, is_none}
pub use Rattle.std.specs.Prelude.{slice_get, slice_index, nat_lt, ◌==◌, ◌↔◌, if◌then◌else◌, Result, Ok, Err, IsOk, IfOk, IfErr}
pub use Rattle.tl_burst.specs.Begun.{heads, left}
pub use Rattle.tl_burst.specs.Handing.{ends, rest_of, fault_after, IsHanded, nothing, burst_of, burst_after, fault_in}
pub use Rattle.tl_burst.specs.Tracking.{IsPlace}
pub use Rattle.tl_check.specs.Inner.Passing.{AreAt, HasCome, HaveHead, IsWithin}
pub use Rattle.tl_convert.specs.Due.{due, part, far_beats_of}
pub use Rattle.tl_lanes.specs.Lanes.{IsWidth}
pub use Rattle.tl_msg.specs.Rules.{Rules}
pub use Rattle.tl_msg.specs.Tables.{rules_a, rules_d}
pub use Rattle.tl_msg.specs.declared.beat.BeatOf.{BeatOf}
pub use Rattle.tl_msg.specs.declared.fault.SideFault.{SideFault}
pub use Rattle.tl_msg.specs.declared.head.HeadA.{HeadA}
pub use Rattle.tl_msg.specs.declared.head.HeadD.{HeadD}
pub use Rattle.tl_parts.proofs.Parts.{end-past, part-get, part-of, are-part, all-held}
pub use Rattle.tl_parts.specs.Parts.{IsPart}
pub use Rattle.tl_settle.specs.Histories.{Ask, Answer, asked, answered, client_answer, manager_answer, Event}
pub use Rattle.tl_settle.specs.Outcomes.{verdict_of, verdict_a, verdict_d, far_alone, verdict_alone}
pub use Rattle.tl_settle.specs.Settling.{requests, responses, far_a, far_d, goes_a, goes_d, settled_state, stops_a, stops_d}
pub use Rattle.tl_settle.specs.Books.{Client, Manager, KnowsClient, KnowsManager, IsChecked}
