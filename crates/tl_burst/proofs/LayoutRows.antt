-- Worked examples of the layout of a message at several widths.
use Rattle.tl_burst.proofs.Names.{◌≡◌, ◌+◌, ◌-◌, ◌^◌, ℕ, Bool, true, false, List, [], ◌∷◌, ◌++◌, map, replicate, refl, range_with_len, HeadA, BeatOf}
use Rattle.tl_burst.proofs.Names.{rules_a, rules_d, Cell, Message, layout}
use Rattle.tl_msg.specs.declared.head.HeadD.{HeadD}

abbrev a : (opcode size address : ℕ) → HeadA
a opcode size address = record { opcode = opcode; param = 0; size = size; source = 1; address = address }

abbrev d : (opcode size : ℕ) → HeadD
d opcode size = record { opcode = opcode; param = 0; size = size; source = 1; sink = 0; denied = false }

abbrev beat : {H : Type 0} → H → (w mask : ℕ) → (lanes : List ℕ) → (corrupt : Bool) → BeatOf H w
beat head w mask lanes corrupt = record { head = head; mask = mask; lanes = lanes; corrupt = corrupt }

abbrev cell : (byte : ℕ) → Cell
cell byte = record { byte = byte; on = true; bad = false }

-- ---- PutFullData of 8 bytes at address 0x18: the upper half of 16 lanes, all of 8, two beats of 4, eight of 1

abbrev put : Message HeadA
put = record { head = a 0 3 0x18; home = 0x18; cells = map cell (range_with_len 0 8) }

put_on_16 : layout rules_a put 16 ≡ beat put.head 16 0xff00 (replicate 8 0 ++ range_with_len 0 8) false ∷ []
put_on_16 = refl

put_on_8 : layout rules_a put 8 ≡ beat put.head 8 0xff (range_with_len 0 8) false ∷ []
put_on_8 = refl

put_on_4 : layout rules_a put 4 ≡ beat put.head 4 0xf (range_with_len 0 4) false ∷ beat put.head 4 0xf (range_with_len 4 4) false ∷ []
put_on_4 = refl

put_on_1 : layout rules_a put 1 ≡ map (λ byte. beat put.head 1 1 (byte ∷ []) false) (range_with_len 0 8)
put_on_1 = refl

-- ---- PutPartialData of 16 bytes, of which 0, 2, 8 to 11 and 15 are on: the bytes that are off are carried too

abbrev cells_of : (first : ℕ) (on : List Bool) → List Cell
cells_of first [] = []
cells_of first (x ∷ on) = record { byte = first; on = x; bad = false } ∷ cells_of (first + 1) on

abbrev part : Message HeadA
part = record {
  head = a 1 4 0x40;
  home = 0x40;
  cells = cells_of 0 (true ∷ false ∷ true ∷ false ∷ false ∷ false ∷ false ∷ false ∷ true ∷ true ∷ true ∷ true ∷ false ∷ false ∷ false ∷ true ∷ []);
}

part_on_4 : layout rules_a part 4 ≡
    beat part.head 4 0x5 (range_with_len 0 4) false ∷ beat part.head 4 0x0 (range_with_len 4 4) false ∷
    beat part.head 4 0xf (range_with_len 8 4) false ∷ beat part.head 4 0x8 (range_with_len 12 4) false ∷ []
part_on_4 = refl

part_on_8 : layout rules_a part 8 ≡ beat part.head 8 0x05 (range_with_len 0 8) false ∷ beat part.head 8 0x8f (range_with_len 8 8) false ∷ []
part_on_8 = refl

-- ---- a Get of 4,096 bytes is one beat at every width

abbrev get : Message HeadA
get = record { head = a 4 12 0x2000; home = 0x2000; cells = [] }

get_on_1 : layout rules_a get 1 ≡ beat get.head 1 1 (0 ∷ []) false ∷ []
get_on_1 = refl

get_on_64 : layout rules_a get 64 ≡ beat get.head 64 (2 ^ 64 - 1) (replicate 64 0) false ∷ []
get_on_64 = refl

-- ---- AccessAckData of 4 bytes whose request was at address 0x100c: by that home the last lanes of 16, and no mask

abbrev answer : Message HeadD
answer = record { head = d 1 2; home = 0x100c; cells = map cell (0xaa ∷ 0xbb ∷ 0xcc ∷ 0xdd ∷ []) }

answer_on_16 : layout rules_d answer 16 ≡ beat answer.head 16 0 (replicate 12 0 ++ 0xaa ∷ 0xbb ∷ 0xcc ∷ 0xdd ∷ []) false ∷ []
answer_on_16 = refl

answer_on_4 : layout rules_d answer 4 ≡ beat answer.head 4 0 (0xaa ∷ 0xbb ∷ 0xcc ∷ 0xdd ∷ []) false ∷ []
answer_on_4 = refl

-- ---- GrantData of 8 bytes, of which byte 5 is corrupt: the beat with it is corrupt

abbrev grant : Message HeadD
grant = record {
  head = d 5 3;
  home = 0x100;
  cells = map cell (range_with_len 0 5) ++ record { byte = 5; on = true; bad = true } ∷ map cell (range_with_len 6 2);
}

grant_on_4 : layout rules_d grant 4 ≡ beat grant.head 4 0 (range_with_len 0 4) false ∷ beat grant.head 4 0 (range_with_len 4 4) true ∷ []
grant_on_4 = refl

grant_on_8 : layout rules_d grant 8 ≡ beat grant.head 8 0 (range_with_len 0 8) true ∷ []
grant_on_8 = refl
