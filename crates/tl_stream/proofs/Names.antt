-- The names that the proofs of this crate use most, from the library and from the definitions, re-exported by one module.
pub use Rattle.std.proofs.Common.{Ok, ◌≡◌, ℕ, Bool, true, false, List, [], ◌∷◌, ◌++◌, length, refl, sym, ap, subst, ◌∙◌, append-nil, arith, ◌≢◌, ◌+◌}
pub use Rattle.std.proofs.Common.{◌-◌, ◌≤◌, take, drop, Option, None, Some, length-append, length-drop, append_assoc, take-append-drop, ◌<◌, ◌^◌, suc}
pub use Rattle.std.proofs.Common.{cond, nat_eq, nat_le, eq-eqb, rules, lit<}
pub use Rattle.std.proofs.KnownBytes.{Consumes-trans, Appends-trans, Appends-kept}
pub use Rattle.std.proofs.lemmas.Bool.{eqb-true, leb-true}
pub use Rattle.std.proofs.lemmas.List.{drop-drop, drop-take, length-take-le, take-append-le, take_rest, with_items_is}
pub use Rattle.std.proofs.lemmas.Result.{on_ok_weaker}
pub use Rattle.std.specs.Io.KnownBytes.{Consumes, IsAtEnd, Appends}
pub use Rattle.std.specs.List.{list_all, slice_range, copy_within, filter_map, cons_option, list_any}
pub use Rattle.std.specs.Prelude.{Result, Err, IfOk, IfSome, IsErrOf, IfErr}
pub use Rattle.tl_lanes.proofs.Widths.{width_bounds}
pub use Rattle.tl_lanes.specs.Lanes.{IsWidth}
pub use Rattle.tl_stream.specs.Inner.Lines.{HasReadHeld, HasUsedHeader, IsBetweenPast, IsReading}
pub use Rattle.tl_stream.specs.Inputs.{HasTaken, IsRefused, held, IsFresh, ReadsScript, unread_of, most_bytes}
pub use Rattle.tl_stream.specs.Consuming.{IsNew, IsReadThrough, AreFew}
pub use Rattle.tl_stream.specs.declared.fault.TextFault.{TextFault}
pub use Rattle.tl_stream.specs.declared.input.Input.{Input}
pub use Rattle.tl_trace.specs.Faults.{IsFirstFault, is_newline, header_of, HasHeader}
pub use Rattle.tl_trace.specs.Scripts.{Discarded, HasReadPast, more_discarded, beat_of_a, beat_of_b, beat_of_c, beat_of_d, beat_of_e, IsRestOf}
pub use Rattle.tl_trace.specs.Scripts.{none_gone, HasGrown, HasRead, IsHeaderLine, IsUnfinished}
pub use Rattle.tl_trace.specs.Texts.{Tells, TellsLines, newline, header_text, versions, widths, is_version, is_width}
pub use Rattle.tl_trace.specs.declared.header.Header.{Header}
pub use Rattle.tl_trace.specs.declared.line.Line.{Line}
pub use Rattle.tl_trace.specs.declared.script.Script.{Script}
pub use Rattle.tl_trace.specs.declared.script_reader.ScriptReader.{ScriptReader}
