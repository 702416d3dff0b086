-- The names that the proofs of this crate use most, from the library and from the definitions, re-exported by one module.
pub use Rattle.std.proofs.Common.{◌≡◌, ◌≤◌, ◌<◌, ◌+◌, ◌^◌, ◌≢◌, ◌⊎◌, ℕ, true, Option, None, Some, List, [], ◌∷◌, ◌++◌, length, slice_get, refl, sym}
pub use Rattle.std.proofs.Common.{ap, subst, ◌∙◌, arith, inl, inr, ⊎_elim, append_assoc, append-nil, length-append, ◌-◌, ◌↔◌, zero, suc, map, ◌/◌}
pub use Rattle.std.proofs.Common.{Bool, false, cond, rules, replicate, take, not, if◌then◌else◌, ◌%◌, ◌==◌, min, eq-eqb, bit_and, ◌*◌, get_or, ◌&&◌}
pub use Rattle.std.proofs.Common.{find, Result, Ok, Err, IsOk, IfOk, slice_index}
pub use Rattle.std.proofs.Math.Arith.{digits_div, digits_mod}
pub use Rattle.std.proofs.Math.Nat.{div-le_self, mod-add-mod, mod-eq_of_lt, mul-div_cancel, mod-add-div, mod-lt, mul-le-mul_right, div-mul-le_self}
pub use Rattle.std.proofs.lemmas.Bool.{eqb-true, cases_Bool, true≢false}
pub use Rattle.std.proofs.lemmas.Bool.Decides.{leb_tells, eqb_tells}
pub use Rattle.std.proofs.lemmas.List.{length_push, same_from_push}
pub use Rattle.std.proofs.lemmas.List.Elements.{All-get_or, All-from_get_or}
pub use Rattle.std.proofs.lemmas.Option.{slice_get_within, get_or_from_slice_get, slice_get-get_or, slice_get_past}
pub use Rattle.std.specs.Int.{bit_at}
pub use Rattle.std.specs.List.{range_with_len}
pub use Rattle.std.specs.Option.{option_map_or}
pub use Rattle.std.specs.Prelude.{All, ◌||◌}
pub use Rattle.tl_burst.specs.Begun.{heads_from, heads, left_from, left, rest_heads}
pub use Rattle.tl_burst.specs.Handing.{Handed, nothing, begun, whole, IsHandedWith, rest_of, with_home, ends, rest_after, burst_after, fault_after}
pub use Rattle.tl_burst.specs.Handing.{IsHanded, IsAdmitted, burst_of, fault_in, homes_with}
pub use Rattle.tl_burst.specs.Inner.Holding.{IsHeld, IsHeldIn}
pub use Rattle.tl_burst.specs.Messages.{Message, IsLawful, beats_of, Cell, layout, byte_on, per_beat, lane_value, beat_at, some_of, is_bad, lane_on}
pub use Rattle.tl_burst.specs.Messages.{mask_at}
pub use Rattle.tl_burst.specs.Reading.{message_of, cell_of}
pub use Rattle.tl_burst.specs.Spelling.{Spells, SpellsBeat}
pub use Rattle.tl_burst.specs.Tracking.{IsOpen, IsPlace, burst_with, count_in, IsPlaceOf}
pub use Rattle.tl_burst.specs.declared.place.Place.{Place}
pub use Rattle.tl_lanes.proofs.ActiveLanes.{IsActive, bit_at-active_mask}
pub use Rattle.tl_lanes.proofs.Widths.{lane-lt, width_bounds, lane-plain, lanes_differ, lane_cases, lane-shift}
pub use Rattle.tl_lanes.specs.Lanes.{IsWidth, lane_of, bytes_per_beat, beats_per_message, active_mask, mask_of}
pub use Rattle.tl_msg.proofs.Firsts.{first_none, second_none, both_none, unless_none, unless_true, second_answers, unless_false, first_some}
pub use Rattle.tl_msg.specs.Firsts.{unless, ◌or_else◌}
pub use Rattle.tl_msg.specs.Rules.{Rules}
pub use Rattle.tl_msg.specs.Tables.{rules_a, rules_b, rules_c, rules_d, rules_e}
pub use Rattle.tl_msg.specs.declared.beat.BeatOf.{BeatOf}
pub use Rattle.tl_msg.specs.declared.fault.BeatFault.TheVariants.{Opcode, Param, Size, Unaligned, Mask, Corrupt, HeadChanged}
pub use Rattle.tl_msg.specs.declared.head.HeadA.{HeadA}
