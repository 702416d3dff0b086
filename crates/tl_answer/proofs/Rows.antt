-- Whole answers, computed.
use Rattle.tl_answer.proofs.Names.{◌≡◌, ◌∷◌, ◌++◌, ℕ, true, false, List, [], map, replicate, refl, codes, flat_map, newline, Line, answer_of}
use Rattle.tl_answer.proofs.Names.{are_done}
use Rattle.std.specs.Fmt.{digits}
use Rattle.tl_lanes.specs.declared.limits.TheConstants.{WIDEST}
use Rattle.tl_trace.specs.declared.line.Line.TheVariants as line
use Rattle.tl_order.specs.declared.TheConstants as order
use Rattle.tl_ring.specs.declared.pipe.TheConstants as ring
use Rattle.tl_stream.specs.Statuses.{fault_words}
use Rattle.tl_stream.specs.declared.fault.TextFault.TheVariants as fault
use Rattle.tl_trace.specs.declared.fault.TraceKind.TheVariants.{Header}

-- the largest ring that an order may ask for is the largest that there is
largest_ring : order.MAX_RING ≡ ring.MAX_RING
largest_ring = refl

-- lines, each with its end
abbrev lines_of : List (List ℕ) → List ℕ
lines_of lines = flat_map (λ l. l ++ newline) lines

-- a Get of 4 bytes at 0x1004 on a bus of 8, whose inactive lanes hold something
abbrev get : List Line
get = line.A (record {
  head = record { opcode = 4; param = 0; size = 2; source = 7; address = 0x1004 };
  mask = 0xf0;
  lanes = 0x88 ∷ 0x77 ∷ 0x66 ∷ 0x55 ∷ 0x44 ∷ 0x33 ∷ 0x22 ∷ 0x11 ∷ replicate 56 0;
  corrupt = false;
}) ∷ []

-- three of the four beats of a put of 16 bytes, on a bus of 4
abbrev put : (first : ℕ) → Line
put first = line.A (record {
  head = record { opcode = 0; param = 0; size = 4; source = 1; address = 0x20 };
  mask = 0xf;
  lanes = first ∷ first ∷ first ∷ first ∷ replicate 60 0;
  corrupt = false;
})

abbrev three : List Line
three = put 3 ∷ put 7 ∷ put 0xb ∷ []

get_to_a_narrower_bus : answer_of 1 8 4 get false ≡ lines_of
    (codes "tilelink-far 1 client 8 manager 4" ∷ codes "A 4 0 2 07 0000000000001004 f 00000000 0" ∷
    codes "= A done 1 1" ∷ codes "= B done 0 0" ∷ codes "= C done 0 0" ∷ codes "= D done 0 0" ∷ codes "= E done 0 0" ∷ [])
unfolding digits
get_to_a_narrower_bus = refl

get_checked : answer_of 1 8 4 get true ≡ lines_of
    (codes "tilelink-far 1 client 8 manager 4" ∷
    codes "= A done 1 1" ∷ codes "= B done 0 0" ∷ codes "= C done 0 0" ∷ codes "= D done 0 0" ∷ codes "= E done 0 0" ∷ [])
unfolding digits
get_checked = refl

get_is_done : are_done 8 4 get ≡ true
get_is_done = refl

no_beats : answer_of 1 8 8 [] false ≡ lines_of
    (codes "tilelink-far 1 client 8 manager 8" ∷
    codes "= A done 0 0" ∷ codes "= B done 0 0" ∷ codes "= C done 0 0" ∷ codes "= D done 0 0" ∷ codes "= E done 0 0" ∷ [])
unfolding digits
no_beats = refl

-- a far beat is given when its last byte has come, and the burst is cut
cut_burst : answer_of 1 4 8 three false ≡ lines_of
    (codes "tilelink-far 1 client 4 manager 8" ∷ codes "A 0 0 4 01 0000000000000020 ff 0707070703030303 0" ∷
    codes "= A cut 3 1" ∷ codes "= B done 0 0" ∷ codes "= C done 0 0" ∷ codes "= D done 0 0" ∷ codes "= E done 0 0" ∷ [])
unfolding digits
cut_burst = refl

cut_is_not_done : are_done 4 8 three ≡ false
cut_is_not_done = refl

-- ---- both sides

-- the response to a Get at 0x1004, from a bus of 8 bytes: its data is on the upper four lanes
abbrev reply : (sink : ℕ) → Line
reply sink = line.D (record {
  head = record { opcode = 1; param = 0; size = 2; source = 7; sink = sink; denied = false };
  mask = 0;
  lanes = 0x88 ∷ 0x77 ∷ 0x66 ∷ 0x55 ∷ 0x44 ∷ 0x33 ∷ 0x22 ∷ 0x11 ∷ replicate 56 0;
  corrupt = false;
})

-- the Get is answered, though its line comes last
get_answered : answer_of 1 8 8 (reply 3 ∷ get) false ≡ lines_of
    (codes "tilelink-far 1 client 8 manager 8" ∷
    codes "A 4 0 2 07 0000000000001004 f0 0000000000000000 0" ∷ codes "D 1 0 2 07 03 0 1122334400000000 0" ∷
    codes "= A done 1 1" ∷ codes "= B done 0 0" ∷ codes "= C done 0 0" ∷ codes "= D done 1 1" ∷ codes "= E done 0 0" ∷ [])
unfolding digits
get_answered = refl

-- a second response to it has no request
get_answered_twice : answer_of 1 8 8 (get ++ reply 3 ∷ reply 4 ∷ []) true ≡ lines_of
    (codes "tilelink-far 1 client 8 manager 8" ∷
    codes "= A done 1 1" ∷ codes "= B done 0 0" ∷ codes "= C done 0 0" ∷ codes "= D waiting 1 NoRequest" ∷ codes "= E done 0 0" ∷ [])
unfolding digits
get_answered_twice = refl

waiting_is_not_done : are_done 8 8 (get ++ reply 3 ∷ reply 4 ∷ []) ≡ false
waiting_is_not_done = refl

-- a beat on each channel: rights to a block are asked for and granted, and another block is probed
abbrev five : List Line
five =
    line.E (record { head = record { sink = 7 }; mask = 0; lanes = replicate WIDEST 0; corrupt = false }) ∷
    line.D (record {
      head = record { opcode = 4; param = 0; size = 6; source = 1; sink = 7; denied = false };
      mask = 0;
      lanes = replicate WIDEST 0;
      corrupt = false;
    }) ∷
    line.C (record {
      head = record { opcode = 4; param = 1; size = 6; source = 0; address = 0x80 };
      mask = 0;
      lanes = replicate WIDEST 0;
      corrupt = false;
    }) ∷
    line.B (record {
      head = record { opcode = 7; param = 2; size = 6; source = 0; address = 0x80 };
      mask = 0xff;
      lanes = replicate WIDEST 0;
      corrupt = false;
    }) ∷
    line.A (record {
      head = record { opcode = 7; param = 2; size = 6; source = 1; address = 0x40 };
      mask = 0xf;
      lanes = replicate WIDEST 0;
      corrupt = false;
    }) ∷ []

five_cross : answer_of 1 4 8 five false ≡ lines_of
    (codes "tilelink-far 1 client 4 manager 8" ∷
    codes "A 7 2 6 01 0000000000000040 ff 0000000000000000 0" ∷ codes "B 7 2 6 00 0000000000000080 f 00000000 0" ∷
    codes "C 4 1 6 00 0000000000000080 0000000000000000 0" ∷ codes "D 4 0 6 01 07 0 00000000 0" ∷ codes "E 07" ∷
    codes "= A done 1 1" ∷ codes "= B done 1 1" ∷ codes "= C done 1 1" ∷ codes "= D done 1 1" ∷ codes "= E done 1 1" ∷ [])
unfolding digits
five_cross = refl

five_are_done : are_done 4 8 five ≡ true
five_are_done = refl

-- ---- version 2

-- a Get of 4 bytes at 0x1004 on a bus of 8, from a source of 16 bits
abbrev get_of : (source : ℕ) → Line
get_of source = line.A (record {
  head = record { opcode = 4; param = 0; size = 2; source = source; address = 0x1004 };
  mask = 0xf0;
  lanes = 0x88 ∷ 0x77 ∷ 0x66 ∷ 0x55 ∷ 0x44 ∷ 0x33 ∷ 0x22 ∷ 0x11 ∷ replicate 56 0;
  corrupt = false;
})

wide_source : answer_of 2 8 4 (get_of 0x0107 ∷ []) false ≡ lines_of
    (codes "tilelink-far 2 client 8 manager 4" ∷ codes "A 4 0 2 0107 0000000000001004 f 00000000 0" ∷
    codes "= A done 1 1" ∷ codes "= B done 0 0" ∷ codes "= C done 0 0" ∷ codes "= D done 0 0" ∷ codes "= E done 0 0" ∷ [])
unfolding digits
wide_source = refl

-- two sources that differ only above the eighth bit are two sources
two_wide_sources : answer_of 2 8 4 (get_of 0x0107 ∷ get_of 0x0007 ∷ []) false ≡ lines_of
    (codes "tilelink-far 2 client 8 manager 4" ∷
    codes "A 4 0 2 0107 0000000000001004 f 00000000 0" ∷ codes "A 4 0 2 0007 0000000000001004 f 00000000 0" ∷
    codes "= A done 2 2" ∷ codes "= B done 0 0" ∷ codes "= C done 0 0" ∷ codes "= D done 0 0" ∷ codes "= E done 0 0" ∷ [])
unfolding digits
two_wide_sources = refl

-- a source used twice is busy
wide_source_used_twice : answer_of 2 8 4 (get_of 0x0107 ∷ get_of 0x0107 ∷ []) true ≡ lines_of
    (codes "tilelink-far 2 client 8 manager 4" ∷
    codes "= A waiting 1 SourceBusy" ∷ codes "= B done 0 0" ∷ codes "= C done 0 0" ∷ codes "= D done 0 0" ∷ codes "= E done 0 0" ∷ [])
unfolding digits
wide_source_used_twice = refl

-- sinks have four digits as well
five_cross_in_version_2 : answer_of 2 4 8 five false ≡ lines_of
    (codes "tilelink-far 2 client 4 manager 8" ∷
    codes "A 7 2 6 0001 0000000000000040 ff 0000000000000000 0" ∷ codes "B 7 2 6 0000 0000000000000080 f 00000000 0" ∷
    codes "C 4 1 6 0000 0000000000000080 0000000000000000 0" ∷ codes "D 4 0 6 0001 0007 0 00000000 0" ∷ codes "E 0007" ∷
    codes "= A done 1 1" ∷ codes "= B done 1 1" ∷ codes "= C done 1 1" ∷ codes "= D done 1 1" ∷ codes "= E done 1 1" ∷ [])
unfolding digits
five_cross_in_version_2 = refl

-- ---- the words of each fault

header_words : fault_words (fault.Trace (record { line = 7; kind = Header })) ≡ codes "line 7: 14 Header"
unfolding digits
header_words = refl

other_words : map fault_words (fault.Stalled ∷ fault.Read ∷ fault.Write ∷ fault.TooLong ∷ fault.OutOfMemory ∷ []) ≡
    codes "20 Stalled" ∷ codes "21 Read" ∷ codes "22 Write" ∷ codes "23 TooLong" ∷ codes "13 OutOfMemory" ∷ []
unfolding digits
other_words = refl
