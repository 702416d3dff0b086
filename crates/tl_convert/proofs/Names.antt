-- The names that the proofs of this crate use most, from the library and from the definitions, re-exported by one module.
pub use Rattle.std.proofs.Common.{◌≡◌, ◌⊎◌, ◌++◌, ℕ, suc, cond, Option, None, Some, List, [], ◌∷◌, slice_get, refl, sym, ap, subst, ◌∙◌, ⊎_elim, inl}
pub use Rattle.std.proofs.Common.{inr, append_assoc, append-nil, ◌↔◌, zero, take, arith, All, ◌≤◌, ◌<◌, ◌+◌, ◌-◌, ◌*◌, ◌/◌, ◌^◌, Bool, true, false}
pub use Rattle.std.proofs.Common.{length, map, length-take, ◌≢◌, zero-le, ◌==◌, drop, slice_index, get_or, length-append, min, ◌&&◌, not}
pub use Rattle.std.proofs.Common.{rules, ◌%◌, ◌||◌, replicate, max}
pub use Rattle.std.proofs.Math.ListN.{drop_of_length-le, set}
pub use Rattle.std.proofs.Math.Nat.{mul-le-mul_right, div-mul-le_self, le_trans, min-eq_left, min-le_left, min-le_right, mul-le-mul_left, div_self}
pub use Rattle.std.proofs.Math.Nat.{div-eq_of_lt, mod-lt, add-mul-mod_self_right, div-eq_of_eq-mul_left, mul-mod_left, mod-eq_of_lt}
pub use Rattle.std.proofs.Math.Nat.{div-lt_iff_lt-mul, lt-div-mul-add, mul-le-mul, add-mul-div_right, mul-div_cancel, div-le_self}
pub use Rattle.std.proofs.Math.Pow.{pow_pos, pow_mono}
pub use Rattle.std.proofs.lemmas.Bool.{cases_Bool, and_parts, false≢true}
pub use Rattle.std.proofs.lemmas.Bool.Decides.{nat_tests, eqb_tells, leb_tells}
pub use Rattle.std.proofs.lemmas.List.{length_push, nil_from_length, take_more, take-take, take-append-drop}
pub use Rattle.std.proofs.lemmas.List.FromFn.{length-map-range_with_len, take-map-range_with_len, fill_by_all, map-range_with_len_more}
pub use Rattle.std.proofs.lemmas.Nat.{le-div, and_mask}
pub use Rattle.std.proofs.lemmas.Option.{slice_get_within, get_or_from_slice_get, same_Some, slice_get-get_or, none-some}
pub use Rattle.std.specs.List.{range_with_len, count_by, enumerate_from, refill}
pub use Rattle.std.specs.Option.{option_map_or, is_some}
pub use Rattle.std.specs.Prelude.{is_none, nat_lt, bit_and, Result, Ok, Err, IsOk, IsTrue}
pub use Rattle.tl_burst.proofs.Burst.{rest-snoc, more-carries}
pub use Rattle.tl_burst.proofs.FaultsExact.{ChannelLaws, faults-exact, admitted-none, none-accepts, none-admitted, none-held, begun-lawful}
pub use Rattle.tl_burst.proofs.FaultsExact.{accepts-none, laws-of}
pub use Rattle.tl_burst.proofs.Fits.{FitsMask, head_of}
pub use Rattle.tl_burst.proofs.Numbers.{div-up, slice_get-left, zeros, per-power, powers-divide}
pub use Rattle.tl_burst.proofs.Places.{per-pos, byte_on-some}
pub use Rattle.tl_burst.proofs.RestOf.{RestIs, rest-unique}
pub use Rattle.tl_burst.proofs.Runs.{of_cells, near-fill, far-fill, map-parts, mask_of-same, cell_at, run_cells, run-is, whole-same, some_of-none}
pub use Rattle.tl_burst.proofs.Runs.{some_of-same, run-length, run-cell, cells-same}
pub use Rattle.tl_burst.specs.Begun.{heads, heads_from, left_from, left, rest_heads}
pub use Rattle.tl_burst.specs.Handing.{IsHanded, nothing, fault_after, IsAdmitted, Handed, IsHandedWith, ends, rest_of, burst_of, burst_after}
pub use Rattle.tl_burst.specs.Handing.{with_home, homes_with, rest_after, begun, whole, fault_in}
pub use Rattle.tl_burst.specs.Messages.{Message, beats_of, per_beat, beat_at, layout, IsLawful, Cell, byte_on, lane_value, lane_on, some_of, is_bad}
pub use Rattle.tl_burst.specs.Messages.{mask_at}
pub use Rattle.tl_burst.specs.Reading.{message_of, cell_of}
pub use Rattle.tl_burst.specs.Spelling.{Spells, SpellsBeat}
pub use Rattle.tl_burst.specs.Tracking.{IsPlace, IsPlaceOf, count_in}
pub use Rattle.tl_convert.specs.Accepted.{accepted_after, IsLongest, accepted_of}
pub use Rattle.tl_convert.specs.Converting.{Progress, StandsFor, IsFed}
pub use Rattle.tl_convert.specs.Due.{far_beats_of, due, due_after, part, layouts, Begins, DueOf, between, within}
pub use Rattle.tl_convert.specs.Inner.Giving.{Run, Given, GivenData, of_head}
pub use Rattle.tl_convert.specs.Inner.Pouring.{Brings, Poured, Source, Pours, IsBlank, far_beats}
pub use Rattle.tl_convert.specs.Partial.{Filled}
pub use Rattle.tl_lanes.proofs.Widths.{lane-lt, lane-lt_widest, width_bounds, lane-shift}
pub use Rattle.tl_lanes.specs.Lanes.{IsWidth, bytes_per_beat, beats_per_message, lane_of, mask_of, is_active, active_mask}
pub use Rattle.tl_lanes.specs.declared.limits.TheConstants.{WIDEST, MAX_SIZE}
pub use Rattle.tl_msg.specs.Beats.{IsBeat}
pub use Rattle.tl_msg.specs.Faults.{mask_fits, continuing_fault, IsLawfulBeat}
pub use Rattle.tl_msg.specs.Rules.{Rules}
pub use Rattle.tl_msg.specs.declared.beat.BeatOf.{BeatOf}
