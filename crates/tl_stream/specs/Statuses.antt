-- The end of a program (this project's choice).
use Rattle.std.specs.Prelude.{◌++◌, ℕ, List, [], Option, None, Some, Bool, true, false, Result, Ok, Err, codes, decimal}
use Rattle.tl_msg.specs.Names.{numbered}
use Rattle.tl_trace.specs.Texts.{newline}
use Rattle.tl_stream.specs.Faults.{text_fault_line, text_fault_number, text_fault_name}
use Rattle.tl_stream.specs.declared.fault.TextFault.{TextFault}
use Rattle.tl_stream.specs.declared.fault.TextFault.TheVariants as faults

-- 3 if the text is not a valid trace, 4 for any other fault
abbrev pub fault_status : TextFault → ℕ
fault_status (faults.Trace fault) = 3
fault_status faults.Stalled = 4
fault_status faults.Read = 4
fault_status faults.Write = 4
fault_status faults.TooLong = 4
fault_status faults.OutOfMemory = 4

-- 0 if all channels are done, 1 if one is not
abbrev pub status_of : Result Bool TextFault → ℕ
status_of (Ok true) = 0
status_of (Ok false) = 1
status_of (Err fault) = fault_status fault

-- the text before the fault's number
abbrev pub place_text : (line : Option ℕ) → List ℕ
place_text (Some line) = codes "line " ++ decimal line ++ codes ": "
place_text None = []

-- a fault as it is printed: its line, if it has one, its number and its name
abbrev pub fault_words : TextFault → List ℕ
fault_words fault = place_text (text_fault_line fault) ++ numbered (text_fault_number fault) (text_fault_name fault)

-- the line on standard error, with its end: the program's name, and the fault as it is printed
abbrev pub fault_text : (program : List ℕ) → TextFault → List ℕ
fault_text program fault = program ++ (codes ": " ++ fault_words fault ++ newline)
