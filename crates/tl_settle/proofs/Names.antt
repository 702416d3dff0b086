-- The names that the proofs of this crate use most, from the library and from the definitions, re-exported by one
-- module.
pub use Rattle.std.proofs.Common.{◌≡◌, ◌<◌, ◌↔◌, ℕ, None, List, ◌≢◌, ◌≤◌, ◌+◌, ◌^◌, suc, Bool, true, false, cond, Option, Some, [], ◌∷◌, ◌++◌, length}
pub use Rattle.std.proofs.Common.{map, take, drop, refl, sym, ap, subst, ◌∙◌, arith, length-append, ◌-◌, zero, zero-le, append_assoc, append-nil, ◌⊎◌}
pub use Rattle.std.proofs.Common.{inl, inr, ⊎_elim}
pub use Rattle.std.proofs.lemmas.Bool.{not-true, and_parts, true≢false}
pub use Rattle.std.proofs.lemmas.Bool.Decides.{nat_tests, eqb_tells}
pub use Rattle.std.proofs.lemmas.List.{take-append-drop, length-map, map-append}
pub use Rattle.std.proofs.lemmas.List.Sums.{length-filter}
pub use Rattle.std.proofs.lemmas.Option.{slice_get_within, same_Some, slice_get_past}
pub use Rattle.std.specs.List.{filter, list_all, range_with_len}
pub use Rattle.std.specs.Option.{option_map_or, is_none, is_some}
pub use Rattle.std.specs.Prelude.{All, ◌==◌, slice_get, ◌&&◌, not, nat_lt}
pub use Rattle.tl_burst.proofs.BegunMessages.{left-zero}
pub use Rattle.tl_burst.specs.Begun.{heads, left, rest_heads, heads_from, left_from}
pub use Rattle.tl_burst.specs.Handing.{IsHanded, IsAdmitted, fault_after, Handed, nothing, begun, whole, IsHandedWith, homes_with}
pub use Rattle.tl_burst.specs.Handing.{rest_of, with_home, burst_of}
pub use Rattle.tl_burst.specs.Messages.{Message, beats_of}
pub use Rattle.tl_burst.specs.Tracking.{count_in}
pub use Rattle.tl_burst.specs.declared.place.Place.{Place}
pub use Rattle.tl_convert.proofs.Begins.{some_beats, heads_open, heads_inside_one, heads_extend, heads_grow}
pub use Rattle.tl_convert.proofs.Comparisons.{true_equal, false_apart, none_past, equal_true, map_true, there_is, less_true, not_less_false}
pub use Rattle.tl_convert.proofs.Comparisons.{true_less, map_imp, not_equal, some_not_none, is_there}
pub use Rattle.tl_convert.proofs.Extends.{take-next, Extends, take-past, count_by-append, more, take-grows, extends-on, count-grows, of_prefix}
pub use Rattle.tl_convert.proofs.FarHeads.{reads, opens_is, NoFaults, no-faults-less, no-faults-start, no-faults-next, due_behind, due_grows}
pub use Rattle.tl_lanes.proofs.Widths.{width_bounds}
pub use Rattle.tl_msg.specs.Beats.{IsBeat}
pub use Rattle.tl_msg.specs.Rules.{Rules}
pub use Rattle.tl_msg.specs.Tables.{rules_a, rules_d, rules_b, rules_c, rules_e}
pub use Rattle.tl_msg.specs.declared.beat.BeatOf.{BeatOf}
pub use Rattle.tl_msg.specs.declared.fault.BeatFault.{BeatFault}
pub use Rattle.tl_msg.specs.declared.fault.SideFault.{SideFault}
pub use Rattle.tl_msg.specs.declared.fault.SideFault.TheVariants.{Beat, SourceBusy, NoRequest, SizeMismatch}
pub use Rattle.tl_msg.specs.declared.head.HeadA.{HeadA}
pub use Rattle.tl_msg.specs.declared.head.HeadD.{HeadD}
pub use Rattle.tl_settle.specs.Histories.{Event, asked, answered, Mark, Asks, Answers, marks, open_request, home_after, homes_from, manager_homes}
pub use Rattle.tl_settle.specs.Histories.{open_after, open_from, Answer, Ask, manager_answer, manager_home, to_request, marks_from, client_answer}
pub use Rattle.tl_settle.specs.Outcomes.{verdict_of, far_alone, verdict_alone, Beats, verdict_a, verdict_d}
pub use Rattle.tl_settle.specs.Requests.{homes_after, home_of, is_release_ack, is_request_of, is_response_to, partner, requests_of, responses_to}
pub use Rattle.tl_settle.specs.Settling.{goes_a, goes_d, IsSettledState, far_a, far_d, held_request, held_response, is_free, requests, responses}
pub use Rattle.tl_settle.specs.Settling.{settled_state, stops_a, stops_d}
pub use Rattle.tl_settle.specs.Steps.{Reaches, Settled, State, by_a, by_d, start, IsTheSettled, next, settle}
