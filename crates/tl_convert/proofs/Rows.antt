-- Worked examples of far beats.
use Rattle.tl_convert.proofs.Names.{◌≡◌, ◌-◌, ◌^◌, ℕ, Bool, true, false, List, [], ◌∷◌, ◌++◌, refl, replicate, length, range_with_len, BeatOf, Cell}
use Rattle.tl_convert.proofs.Names.{Message, layout, accepted_of, due, far_beats_of, layouts, map, take}
use Rattle.tl_msg.specs.declared.head.HeadA.{HeadA}
use Rattle.tl_msg.specs.declared.head.HeadD.{HeadD}
use Rattle.tl_msg.specs.Tables.{rules_a, rules_d}
use Rattle.tl_msg.specs.declared.head.HeadC.{HeadC}
use Rattle.tl_msg.specs.Tables.{rules_c}
use Rattle.tl_convert.specs.Laws.{gathered as gathered_over}
use Rattle.tl_convert.specs.Series.{due_in_series}

abbrev a : (opcode param size source address : ℕ) → HeadA
a opcode param size source address = record { opcode = opcode; param = param; size = size; source = source; address = address }

abbrev d : (opcode param size source sink : ℕ) → HeadD
d opcode param size source sink = record { opcode = opcode; param = param; size = size; source = source; sink = sink; denied = false }

-- a beat with its lanes, lane 0 first
abbrev on : {H : Type 0} (W : ℕ) → H → (mask : ℕ) → (lanes : List ℕ) → (corrupt : Bool) → BeatOf H W
on W head mask lanes corrupt = record { head = head; mask = mask; lanes = lanes; corrupt = corrupt }

-- the bytes from one number on
abbrev from : (first count : ℕ) → List ℕ
from = range_with_len

abbrev zeros : (count : ℕ) → List ℕ
zeros count = replicate count 0

-- two beats of 4 bytes make one of 8
abbrev two : (address : ℕ) → List (BeatOf HeadA 4)
two address = on 4 (a 0 0 3 1 address) 15 (from 0 4) false ∷ on 4 (a 0 0 3 1 address) 15 (from 4 4) false ∷ []

widened : due rules_a 4 8 (two 0x10) (0x10 ∷ []) ≡ on 8 (a 0 0 3 1 0x10) 0xff (from 0 8) false ∷ []
widened = refl

-- the far beat is smaller than its bus
upper_half : due rules_a 4 16 (two 0x18) (0x18 ∷ []) ≡ on 16 (a 0 0 3 1 0x18) 0xff00 (zeros 8 ++ from 0 8) false ∷ []
upper_half = refl

-- PutPartialData with a beat of mask 0: each lane keeps its own mask bit
partial : due rules_a 4 8
    (on 4 (a 1 0 4 2 0x40) 5 (from 0 4) false ∷ on 4 (a 1 0 4 2 0x40) 0 (from 4 4) false ∷
    on 4 (a 1 0 4 2 0x40) 15 (from 8 4) false ∷ on 4 (a 1 0 4 2 0x40) 8 (from 12 4) false ∷ []) (0x40 ∷ []) ≡
    on 8 (a 1 0 4 2 0x40) 0x05 (from 0 8) false ∷ on 8 (a 1 0 4 2 0x40) 0x8f (from 8 8) false ∷ []
partial = refl

-- a Get is one beat, even if it asks for 4,096 bytes
large_get : due rules_a 64 1 (on 64 (a 4 0 12 0 0x2000) (2 ^ 64 - 1) (zeros 64) false ∷ []) (0x2000 ∷ []) ≡
    on 1 (a 4 0 12 0 0x2000) 1 (0 ∷ []) false ∷ []
large_get = refl

-- a response of 64 bytes, widened: corrupt is gathered
abbrev grant : HeadD
grant = d 5 0 6 5 9

abbrev near_eight : List (BeatOf HeadD 8)
near_eight = on 8 grant 0 (from 0 8) false ∷ on 8 grant 0 (from 8 8) false ∷ on 8 grant 0 (from 16 8) true ∷ on 8 grant 0 (from 24 8) false ∷
    on 8 grant 0 (from 32 8) false ∷ on 8 grant 0 (from 40 8) false ∷ on 8 grant 0 (from 48 8) false ∷ on 8 grant 0 (from 56 8) false ∷ []

abbrev far_two : List (BeatOf HeadD 32)
far_two = on 32 grant 0 (from 0 32) true ∷ on 32 grant 0 (from 32 32) false ∷ []

gathered : due rules_d 8 32 near_eight (0x100 ∷ []) ≡ far_two
gathered = refl

-- each of the two once its last byte has come
gathered_in_turn : map (λ n. due rules_d 8 32 (take n near_eight) (0x100 ∷ [])) (1 ∷ 2 ∷ 3 ∷ 4 ∷ 5 ∷ 6 ∷ 7 ∷ []) ≡
    [] ∷ [] ∷ [] ∷ take 1 far_two ∷ take 1 far_two ∷ take 1 far_two ∷ take 1 far_two ∷ []
gathered_in_turn = refl

-- the same narrowed: corrupt is copied
copied : due rules_d 32 8 far_two (0x100 ∷ []) ≡
    on 8 grant 0 (from 0 8) true ∷ on 8 grant 0 (from 8 8) true ∷ on 8 grant 0 (from 16 8) true ∷ on 8 grant 0 (from 24 8) true ∷
    on 8 grant 0 (from 32 8) false ∷ on 8 grant 0 (from 40 8) false ∷ on 8 grant 0 (from 48 8) false ∷ on 8 grant 0 (from 56 8) false ∷ []
copied = refl

-- half of it is there after the first beat
copied_half : due rules_d 32 8 (take 1 far_two) (0x100 ∷ []) ≡
    on 8 grant 0 (from 0 8) true ∷ on 8 grant 0 (from 8 8) true ∷ on 8 grant 0 (from 16 8) true ∷ on 8 grant 0 (from 24 8) true ∷ []
copied_half = refl

-- a request of 4 bytes on 16 lanes, and its response, whose bytes are on the lanes of the request's address
request : due rules_a 4 16 (on 4 (a 4 0 2 17 0x100c) 15 (zeros 4) false ∷ []) (0x100c ∷ []) ≡ on 16 (a 4 0 2 17 0x100c) 0xf000 (zeros 16) false ∷ []
request = refl

response : due rules_d 16 4 (on 16 (d 1 0 2 17 0) 0
    (0x88 ∷ 0x99 ∷ 0x00 ∷ 0x11 ∷ 0x22 ∷ 0x33 ∷ 0x44 ∷ 0x55 ∷ 0x66 ∷ 0x77 ∷ 0x88 ∷ 0x99 ∷ 0xaa ∷ 0xbb ∷ 0xcc ∷ 0xdd ∷ []) false ∷ []) (0x100c ∷ []) ≡
    on 4 (d 1 0 2 17 0) 0 (0xaa ∷ 0xbb ∷ 0xcc ∷ 0xdd ∷ []) false ∷ []
response = refl

-- three of four beats: one far beat of 8 bytes, three of 4, and twelve of 1
abbrev three : List (BeatOf HeadA 4)
three = on 4 (a 0 0 4 1 0x20) 15 (from 0 4) false ∷ on 4 (a 0 0 4 1 0x20) 15 (from 4 4) false ∷ on 4 (a 0 0 4 1 0x20) 15 (from 8 4) false ∷ []

cut : due rules_a 4 8 three (0x20 ∷ []) ≡ on 8 (a 0 0 4 1 0x20) 0xff (from 0 8) false ∷ []
cut = refl

cut_same : due rules_a 4 4 three (0x20 ∷ []) ≡ three
cut_same = refl

cut_bytes : length (due rules_a 4 1 three (0x20 ∷ [])) ≡ 12
cut_bytes = refl

-- all four, in turn
abbrev four_quarters : List (BeatOf HeadA 4)
four_quarters = three ++ on 4 (a 0 0 4 1 0x20) 15 (from 12 4) false ∷ []

in_turn : map (λ n. length (due rules_a 4 8 (take n four_quarters) (0x20 ∷ []))) (1 ∷ 2 ∷ 3 ∷ 4 ∷ []) ≡ 0 ∷ 1 ∷ 1 ∷ 2 ∷ []
in_turn = refl

both : due rules_a 4 8 four_quarters (0x20 ∷ []) ≡ on 8 (a 0 0 4 1 0x20) 0xff (from 0 8) false ∷ on 8 (a 0 0 4 1 0x20) 0xff (from 8 8) false ∷ []
both = refl

none : due rules_a 4 8 [] [] ≡ []
none = refl

-- the last address
last : due rules_a 4 8 (on 4 (a 4 0 2 0 (2 ^ 64 - 4)) 15 (zeros 4) false ∷ []) ((2 ^ 64 - 4) ∷ []) ≡ on 8 (a 4 0 2 0 (2 ^ 64 - 4)) 0xf0 (zeros 8)
    false ∷ []
last = refl

-- one corrupt beat of 8 bytes makes two of 4
narrowed : due rules_a 8 4 (on 8 (a 0 0 3 1 0x10) 0xff (from 0 8) true ∷ []) (0x10 ∷ []) ≡
    on 4 (a 0 0 3 1 0x10) 15 (from 0 4) true ∷ on 4 (a 0 0 3 1 0x10) 15 (from 4 4) true ∷ []
narrowed = refl

-- at equal widths lanes without a byte become 0
cleared : due rules_a 8 8 (on 8 (a 0 0 2 1 0x1004) 0xf0 (0x88 ∷ 0x77 ∷ 0x66 ∷ 0x55 ∷ 0x44 ∷ 0x33 ∷ 0x22 ∷ 0x11 ∷ []) false ∷ []) (0x1004 ∷ []) ≡
    on 8 (a 0 0 2 1 0x1004) 0xf0 (0 ∷ 0 ∷ 0 ∷ 0 ∷ 0x44 ∷ 0x33 ∷ 0x22 ∷ 0x11 ∷ []) false ∷ []
cleared = refl

-- the same by whole messages: a message of no width, laid out at each width
abbrev cell : ℕ → Cell
cell byte = record { byte = byte; on = true; bad = false }

abbrev put : Message HeadA
put = record { head = a 0 0 3 1 0x10; home = 0x10; cells = map cell (from 0 8) }

brought : layout rules_a put 4 ≡ two 0x10
brought = refl

both_ways : due rules_a 4 8 (two 0x10) (0x10 ∷ []) ≡ layouts rules_a 8 (put ∷ [])
both_ways = refl

half : due rules_a 4 2 (take 1 (two 0x10)) (0x10 ∷ []) ≡ take (far_beats_of rules_a put.head 4 2 1) (layout rules_a put 2)
half = refl

counts : map (λ w. length (layout rules_a put w)) (1 ∷ 2 ∷ 4 ∷ 8 ∷ 16 ∷ 32 ∷ 64 ∷ 128 ∷ []) ≡ 8 ∷ 4 ∷ 2 ∷ 1 ∷ 1 ∷ 1 ∷ 1 ∷ 1 ∷ []
counts = refl

-- corrupt in one beat of 4 bytes is corrupt in all of the 8
abbrev bad_put : Message HeadA
bad_put = record {
  head = a 0 0 3 1 0x10;
  home = 0x10;
  cells = map cell (from 0 4) ++ map (λ byte. record { byte = byte; on = true; bad = true }) (from 4 4);
}

gathered_put : gathered_over rules_a 8 bad_put ≡ record {
  head = a 0 0 3 1 0x10;
  home = 0x10;
  cells = map (λ byte. record { byte = byte; on = true; bad = true }) (from 0 8);
}
gathered_put = refl

-- a release of 64 bytes, from 64 lanes to 1
abbrev c : HeadC
c = record { opcode = 7; param = 1; size = 6; source = 3; address = 0x80 }

bytes_alone : due rules_c 64 1 (on 64 c 0 (from 0 64) false ∷ []) (0x80 ∷ []) ≡ map (λ byte. on 1 c 0 (byte ∷ []) false) (from 0 64)
bytes_alone = refl

-- a list of three messages, the last one unfinished
three_messages : due rules_a 4 8 (on 4 (a 4 0 2 1 0) 15 (zeros 4) false ∷ two 0x18 ++ take 1 (two 0x20)) (0 ∷ 0x18 ∷ 0x20 ∷ []) ≡
    on 8 (a 4 0 2 1 0) 15 (zeros 8) false ∷ on 8 (a 0 0 3 1 0x18) 0xff (from 0 8) false ∷ []
three_messages = refl

-- a response whose home is not a multiple of its size: its bytes wrap around the end of the bus, on both sides
abbrev near_round : List (BeatOf HeadD 4)
near_round = on 4 (d 1 0 3 17 0) 0 (3 ∷ 0 ∷ 1 ∷ 2 ∷ []) false ∷ on 4 (d 1 0 3 17 0) 0 (7 ∷ 4 ∷ 5 ∷ 6 ∷ []) false ∷ []

widened_half_round : due rules_d 4 8 (take 1 near_round) (0x1005 ∷ []) ≡ []
widened_half_round = refl

widened_round : due rules_d 4 8 near_round (0x1005 ∷ []) ≡ on 8 (d 1 0 3 17 0) 0 (3 ∷ 4 ∷ 5 ∷ 6 ∷ 7 ∷ 0 ∷ 1 ∷ 2 ∷ []) false ∷ []
widened_round = refl

-- and round the end of the addresses: lanes without a byte are not read
narrowed_round : due rules_d 8 2 (on 8 (d 1 0 2 17 0) 0 (0x22 ∷ 0x33 ∷ 0x55 ∷ 0x55 ∷ 0x55 ∷ 0x55 ∷ 0x00 ∷ 0x11 ∷ []) false ∷ []) ((2 ^ 64 - 2) ∷ []) ≡
    on 2 (d 1 0 2 17 0) 0 (0x00 ∷ 0x11 ∷ []) false ∷ on 2 (d 1 0 2 17 0) 0 (0x22 ∷ 0x33 ∷ []) false ∷ []
narrowed_round = refl

-- each message has its own home: the same response with another home is on other lanes
other_home : due rules_d 16 4 (on 16 (d 1 0 2 17 0) 0 (from 0 16) false ∷ []) (0x1004 ∷ []) ≡ on 4 (d 1 0 2 17 0) 0 (from 4 4) false ∷ []
other_home = refl

-- a corrupt byte makes the bytes of its far beat corrupt, and no other
abbrev good : ℕ → Cell
good byte = record { byte = byte; on = true; bad = false }

abbrev bad : ℕ → Cell
bad byte = record { byte = byte; on = true; bad = true }

abbrev four : List Cell → Message HeadA
four cells = record { head = a 0 0 2 1 0x10; home = 0x10; cells = cells }

gathered_by_one : gathered_over rules_a 1 (four (good 1 ∷ good 2 ∷ bad 3 ∷ good 4 ∷ [])) ≡ four (good 1 ∷ good 2 ∷ bad 3 ∷ good 4 ∷ [])
gathered_by_one = refl

gathered_by_two : gathered_over rules_a 2 (four (good 1 ∷ good 2 ∷ bad 3 ∷ good 4 ∷ [])) ≡ four (good 1 ∷ good 2 ∷ bad 3 ∷ bad 4 ∷ [])
gathered_by_two = refl

gathered_by_eight : gathered_over rules_a 8 (four (good 1 ∷ good 2 ∷ bad 3 ∷ good 4 ∷ [])) ≡ four (bad 1 ∷ bad 2 ∷ bad 3 ∷ bad 4 ∷ [])
gathered_by_eight = refl

-- a list is accepted up to the first beat with a fault: here one with another head inside a burst
changed_head : accepted_of rules_a (take 2 three ++ two 0x40) ≡ take 2 three
changed_head = refl

-- and how many far beats that makes, at 8, at 4 and at 1
changed_counts : map (λ v. length (due rules_a 4 v (accepted_of rules_a (take 2 three ++ two 0x40)) (0x20 ∷ []))) (8 ∷ 4 ∷ 1 ∷ []) ≡ 1 ∷ 2 ∷ 8 ∷ []
changed_counts = refl

-- and here a Get whose address is not a multiple of its size
unaligned : accepted_of rules_a (two 0x10 ++ on 4 (a 4 0 2 1 2) 15 (zeros 4) false ∷ two 0x20) ≡ two 0x10
unaligned = refl

-- two bridges in a row: a middle bus that is wider than both others gathers corrupt
in_a_row : due_in_series rules_a 4 8 4 (on 4 (a 0 0 3 1 0x10) 15 (from 0 4) false ∷ on 4 (a 0 0 3 1 0x10) 15 (from 4 4) true ∷ []) (0x10 ∷ []) ≡
    on 4 (a 0 0 3 1 0x10) 15 (from 0 4) true ∷ on 4 (a 0 0 3 1 0x10) 15 (from 4 4) true ∷ []
in_a_row = refl

-- and it keeps back a beat that doesn't fill a middle one
in_a_row_cut : due_in_series rules_a 4 8 4 three (0x20 ∷ []) ≡ take 2 three
in_a_row_cut = refl
