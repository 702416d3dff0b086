-- The names that the proofs of this crate use most, from the library and from the definitions, re-exported by one module.
pub use Rattle.std.proofs.Common.{ℕ, ◌+◌, ◌*◌, ◌≤◌, ◌<◌, arith, ◌≡◌, ◌≢◌, zero, suc, ◌-◌, Bool, true, false, nat_eq, ◌||◌, List, [], ◌∷◌, ◌++◌}
pub use Rattle.std.proofs.Common.{length, get_or, drop, refl, sym, ap, ◌∙◌, drop-cons, append_assoc, append-nil, add-one, eq-eqb, ◌/◌, ◌%◌, ◌^◌}
pub use Rattle.std.proofs.Common.{length-append, cond, ◌&&◌, map, replicate, Option, None, Some, is_none, take, subst, set, nat_lt, not, bit_or, ◌⊎◌}
pub use Rattle.std.proofs.Common.{inl, inr, Result, Ok, Err, lit≤, nat_le, bit_and, rules, lit<}
pub use Rattle.std.proofs.Math.Nat.{div-lt_iff_lt-mul, mod-lt, pow-suc, pow-le-pow_right, mul_comm, div-div-eq-div-mul}
pub use Rattle.std.proofs.Math.Seq.{take-append_seam, take-add, get_or-append_seam, drop-append_seam}
pub use Rattle.std.proofs.lemmas.Bool.{eqb-true, or_from, and_parts, or_parts, ltb-true, cases_eq, lt-ltb, and_from, or_left, or_right, false≢true}
pub use Rattle.std.proofs.lemmas.Bool.{leb-true, not-true, ltb-false, cases_lt, and_left, and_right}
pub use Rattle.std.proofs.lemmas.Bool.Decides.{nat_tests}
pub use Rattle.std.proofs.lemmas.Fmt.{decimal_digit, decimal_step, length-decimal-le, decimal_is_IsNumeral}
pub use Rattle.std.proofs.lemmas.Grind.{flat_map-append}
pub use Rattle.std.proofs.lemmas.List.{length-take-le, length-drop, get_or-take, get_or-drop, drop_all, take_all, length-map, get_or-map, drop_more}
pub use Rattle.std.proofs.lemmas.List.{take_more, take-append-drop, length-set, take_more_set, drop-set, take-take, drop-take, map-append}
pub use Rattle.std.proofs.lemmas.List.{take-append-le, length-replicate, append_cancel_left, get_or_at, get_or-append-add, get_or_append_left}
pub use Rattle.std.proofs.lemmas.List.{length-take, drop-drop, nil_from_length, with_items_is, take_rest}
pub use Rattle.std.proofs.lemmas.List.Folds.{drop_split, list_any-append, find-append, list_all_more, list_all_at, list_all-append, Any-from_list_any}
pub use Rattle.std.proofs.lemmas.Nat.{div-add-mod', or_lt, pow_pos, pow-add, le_or_l, le_or_r, le_bytes_8, and_le_r}
pub use Rattle.std.specs.Char.{digit_value, digit_char}
pub use Rattle.std.specs.Int.{w64, from_le_bytes, to_le_bytes}
pub use Rattle.std.specs.List.{list_all, list_any, flat_map, slice_range, slice_index, filter_map, cons_option, range_with_len, Any}
pub use Rattle.std.specs.Option.{option_or, option_to_list, option_map_or}
pub use Rattle.std.specs.Prelude.{decimal, codes, find, ◌==◌, slice_get, All, IfSome, OnOk, OnErr, if◌then◌else◌, MatchOption, is_some, bytes_eq}
pub use Rattle.std.specs.Prelude.{MatchResult, Vec}
pub use Rattle.std.specs.Result.{is_err, is_ok}
pub use Rattle.std.specs.Str.Parse.{digits_value, digits_value_after}
pub use Rattle.tl_lanes.proofs.Widths.{each_width, width_bounds}
pub use Rattle.tl_lanes.specs.declared.limits.TheConstants.{WIDEST, WIDEST_POWER}
pub use Rattle.tl_msg.specs.Firsts.{unless, ◌or_else◌}
pub use Rattle.tl_msg.specs.declared.beat.BeatOf.{BeatOf}
pub use Rattle.tl_msg.specs.declared.head.HeadA.{HeadA}
pub use Rattle.tl_msg.specs.declared.head.HeadB.{HeadB}
pub use Rattle.tl_msg.specs.declared.head.HeadC.{HeadC}
pub use Rattle.tl_msg.specs.declared.head.HeadD.{HeadD}
pub use Rattle.tl_msg.specs.declared.head.HeadE.{HeadE}
pub use Rattle.tl_trace.specs.Faults.{is_newline, cut, headers, is_header_of, body_fault, later_fault, faults_after, faults_of_lines, faults}
pub use Rattle.tl_trace.specs.Faults.{is_readable, headers_of, onto_first, body, form_fault, end_fault, HasHeader, IsFirstFault, IsReadableTo}
unfoldable pub use Rattle.tl_trace.specs.Faults.{header_of}
pub use Rattle.tl_trace.specs.Fields.{Field, Form, digit_count, length_of, fields, form_a, form_b, form_c, form_d, form_e, number_of_lanes, id_digits}
pub use Rattle.tl_trace.specs.Fields.{address, mask, value_of, values, bit, mask_fields, data_fields, line_length, data_lanes, corrupt, is_id_short}
pub use Rattle.tl_trace.specs.Fields.{opcode, param, size, source, sink, denied, common}
pub use Rattle.tl_trace.specs.Inner.KnownHeads.{head_length, HasHead, IsKnown, AreKnown, IsSameAt}
pub use Rattle.tl_trace.specs.Inner.Reading.{digit_of, IsSmall, fields_from, is_head_field, is_head_in_range, IsPart, IsHead, IsRead, Takes}
pub use Rattle.tl_trace.specs.Inner.Reading.{mask_values, data_values, read_value, IsNumber, IsHeadOf, IsReadLine, IsLinePushed, IsNextPushed}
pub use Rattle.tl_trace.specs.Inner.Reading.{ArePushed, AreLinesPushed, AreBehind, AreNextPushed}
pub use Rattle.tl_trace.specs.Inner.Reading.{IsPieceRead, IsSameScript, IsPushed, IsFaultyAt, IsReadableAt, LineAt, IsPair, IsSpelt}
unfoldable pub use Rattle.tl_trace.specs.Inner.Reading.{number_of, field_at}
pub use Rattle.tl_trace.specs.Lines.{FieldPlace, places_from, places, is_hex, digits_at, is_shaped_at, IsLine, hex, is_kept, is_lanes, is_plain}
pub use Rattle.tl_trace.specs.Lines.{head_text, line_text, beats_text, is_shaped, is_in_range, is_writable, value_at}
pub use Rattle.tl_trace.specs.Scripts.{HasBeats, on_lanes, beat_of_a, beat_of_b, beat_of_c, beat_of_d, beat_of_e, Discarded, GoesOn, HasGrown, IsScriptOf}
pub use Rattle.tl_trace.specs.Scripts.{TellsScript, IsHeaderLine, HasRemoved, HasRead, HasReadPast, IsUnfinished, more_discarded, IsRestOf}
pub use Rattle.tl_trace.specs.Scripts.{none_gone}
pub use Rattle.tl_trace.specs.Texts.{SaysLine, versions, widths, is_version, is_width, newline, header_text, is_kept_line, TellsLines, Tells}
pub use Rattle.tl_trace.specs.Texts.{widest_power, IsTrace, text_of_line, lines_text, trace_text}
pub use Rattle.tl_trace.specs.declared.digits.TheConstants.{DIGIT_VALUES, HIGH_VALUES, LOW_VALUES, SPACE_VALUES}
pub use Rattle.tl_trace.specs.declared.fault.TraceKind.{TraceKind}
pub use Rattle.tl_trace.specs.declared.fault.TraceKind.TheVariants.{Channel, Length, Shape, Range, NoEnd, OutOfMemory}
pub use Rattle.tl_trace.specs.declared.head_reader.HeadFields.{HeadFields}
pub use Rattle.tl_trace.specs.declared.header.Header.{Header}
pub use Rattle.tl_trace.specs.declared.line.Line.{Line}
pub use Rattle.tl_trace.specs.declared.line.Line.TheVariants.{A, B, C, D, E}
pub use Rattle.tl_trace.specs.declared.places.TheConstants.{LONGEST_LINE}
pub use Rattle.tl_trace.specs.declared.script.Script.{Script}
pub use Rattle.tl_trace.specs.declared.script_reader.ParsedLines.{ParsedLines}
