-- Worked examples of the first fault of a beat after accepted beats, on 4 lanes.
use Rattle.tl_burst.proofs.Names.{◌≡◌, ℕ, Bool, true, false, Option, Some, None, List, [], ◌∷◌, refl, replicate, map, take, length, HeadA, BeatOf}
use Rattle.tl_burst.proofs.Names.{Opcode, Param, Size, Unaligned, Mask, Corrupt, HeadChanged, rules_a, rules_b, rules_c, rules_d, rules_e, beats_of}
use Rattle.tl_burst.proofs.Names.{burst_after, fault_after, rest_of}
use Rattle.tl_msg.specs.declared.head.HeadB.{HeadB}
use Rattle.tl_msg.specs.declared.head.HeadC.{HeadC}
use Rattle.tl_msg.specs.declared.head.HeadD.{HeadD}
use Rattle.tl_msg.specs.declared.head.HeadE.{HeadE}
use Rattle.tl_msg.specs.declared.fault.BeatFault.{BeatFault}

abbrev on : {H : Type 0} → H → (mask : ℕ) → (corrupt : Bool) → BeatOf H 4
on head mask corrupt = record { head = head; mask = mask; lanes = replicate 4 0; corrupt = corrupt }

abbrev a : (opcode param size source address : ℕ) → HeadA
a opcode param size source address = record { opcode = opcode; param = param; size = size; source = source; address = address }

abbrev b : (opcode param size address : ℕ) → HeadB
b opcode param size address = record { opcode = opcode; param = param; size = size; source = 0; address = address }

abbrev c : (opcode param size address : ℕ) → HeadC
c opcode param size address = record { opcode = opcode; param = param; size = size; source = 0; address = address }

abbrev d : (opcode param size sink : ℕ) → (denied : Bool) → HeadD
d opcode param size sink denied = record { opcode = opcode; param = param; size = size; source = 1; sink = sink; denied = denied }

abbrev e : (sink : ℕ) → HeadE
e sink = record { sink = sink }

-- ---- outside a burst

abbrev get : (param size address mask : ℕ) → (corrupt : Bool) → Option BeatFault
get param size address mask corrupt = fault_after rules_a [] (on (a 4 param size 0 address) mask corrupt)

-- each fault by itself
opcode_8 : fault_after rules_a [] (on (a 8 0 2 0 0) 15 false) ≡ Some Opcode
opcode_8 = refl

reserved_on_c : fault_after rules_c [] (on (c 3 0 2 0) 0 false) ≡ Some Opcode
reserved_on_c = refl

reserved_on_d : fault_after rules_d [] (on (d 7 0 2 0 false) 0 false) ≡ Some Opcode
reserved_on_d = refl

intent_2 : fault_after rules_b [] (on (b 5 2 2 0) 15 false) ≡ Some Param
intent_2 = refl

size_13 : get 0 13 0 15 false ≡ Some Size
size_13 = refl

at_2 : get 0 2 2 15 false ≡ Some Unaligned
at_2 = refl

mask_7 : get 0 2 0 7 false ≡ Some Mask
mask_7 = refl

corrupt_get : get 0 2 0 15 true ≡ Some Corrupt
corrupt_get = refl

fine : get 0 2 0 15 false ≡ None
fine = refl

-- the first of two faults
param_and_size : get 1 13 0 15 false ≡ Some Param
param_and_size = refl

size_and_address : get 0 13 1 15 false ≡ Some Size
size_and_address = refl

address_and_mask : get 0 2 2 7 false ≡ Some Unaligned
address_and_mask = refl

mask_and_corrupt : get 0 2 0 7 true ≡ Some Mask
mask_and_corrupt = refl

-- on C and D the mask is not read, on E corrupt neither
any_mask_on_d : fault_after rules_d [] (on (d 0 0 2 0 false) 9 false) ≡ None
any_mask_on_d = refl

corrupt_on_d : fault_after rules_d [] (on (d 0 0 2 0 false) 9 true) ≡ Some Corrupt
corrupt_on_d = refl

any_beat_on_e : fault_after rules_e [] (on (e 42) 9 true) ≡ None
any_beat_on_e = refl

-- which is a burst of its own
one_beat_on_e : burst_after rules_e (on (e 42) 9 true ∷ []) ≡ None
one_beat_on_e = refl

beats_on_e : beats_of rules_e (e 42) 4 ≡ 1
beats_on_e = refl

-- ---- inside a burst of PutFullData, of 8 bytes at address 16

abbrev put : (mask : ℕ) → (corrupt : Bool) → BeatOf HeadA 4
put mask corrupt = on (a 0 0 3 1 16) mask corrupt

abbrev inside : BeatOf HeadA 4 → Option BeatFault
inside beat = fault_after rules_a (put 15 false ∷ []) beat

one_beat : burst_after rules_a (put 15 false ∷ []) ≡ Some (a 0 0 3 1 16, 1)
one_beat = refl

both_beats : burst_after rules_a (put 15 false ∷ put 15 false ∷ []) ≡ None
both_beats = refl

second_beat : inside (put 15 false) ≡ None
second_beat = refl

-- corrupt is no fault on a message with data, at no beat
corrupt_first : fault_after rules_a [] (put 15 true) ≡ None
corrupt_first = refl

corrupt_second : inside (put 15 true) ≡ None
corrupt_second = refl

short_mask : inside (put 7 false) ≡ Some Mask
short_mask = refl

-- a head that differs comes before the mask, also one of a lawful message, and one with the address of the second beat
other_source : inside (on (a 0 0 3 2 16) 7 false) ≡ Some HeadChanged
other_source = refl

other_message : inside (on (a 4 0 2 2 0) 15 false) ≡ Some HeadChanged
other_message = refl

own_address : inside (on (a 0 0 3 1 20) 15 false) ≡ Some HeadChanged
own_address = refl

-- after the burst another message may begin
after_both : fault_after rules_a (put 15 false ∷ put 15 false ∷ []) (on (a 4 0 2 2 0) 15 false) ≡ None
after_both = refl

-- ---- inside a burst of PutPartialData any of the active lanes may be off at each beat

abbrev part : (mask : ℕ) → BeatOf HeadA 4
part mask = on (a 1 0 3 1 16) mask false

none_on : fault_after rules_a (part 5 ∷ []) (part 0) ≡ None
none_on = refl

past_the_lanes : fault_after rules_a (part 5 ∷ []) (part 0x10) ≡ Some Mask
past_the_lanes = refl

-- ---- inside a burst of GrantData, of 8 bytes: sink and denied are held

abbrev granted : BeatOf HeadD 4 → Option BeatFault
granted beat = fault_after rules_d (on (d 5 0 3 7 false) 0 false ∷ []) beat

same_sink : granted (on (d 5 0 3 7 false) 9 true) ≡ None
same_sink = refl

other_sink : granted (on (d 5 0 3 8 false) 0 false) ≡ Some HeadChanged
other_sink = refl

denied_late : granted (on (d 5 0 3 7 true) 0 false) ≡ Some HeadChanged
denied_late = refl

-- ---- PutFullData of 16 bytes, Get of 16, PutFullData of 4, PutFullData of 8, one after the other

abbrev put_of : (size : ℕ) → BeatOf HeadA 4
put_of size = on (a 0 0 size 1 32) 15 true

abbrev messages : List (BeatOf HeadA 4)
messages = put_of 4 ∷ put_of 4 ∷ put_of 4 ∷ put_of 4 ∷ on (a 4 0 4 1 32) 15 false ∷ put_of 2 ∷ put_of 3 ∷ put_of 3 ∷ []

abbrev counts : List ℕ
counts = 0 ∷ 1 ∷ 2 ∷ 3 ∷ 4 ∷ 5 ∷ 6 ∷ 7 ∷ 8 ∷ []

-- the burst that is open before each beat and at the end
bursts : map (λ n. burst_after rules_a (take n messages)) counts ≡
    None ∷ Some (a 0 0 4 1 32, 1) ∷ Some (a 0 0 4 1 32, 2) ∷ Some (a 0 0 4 1 32, 3) ∷ None ∷ None ∷ None ∷ Some (a 0 0 3 1 32, 1) ∷ None ∷ []
bursts = refl

-- the index of each beat, and how many its message has
indices : map (λ n. length (rest_of rules_a 4 (take n messages))) counts ≡ 0 ∷ 1 ∷ 2 ∷ 3 ∷ 0 ∷ 0 ∷ 0 ∷ 1 ∷ 0 ∷ []
indices = refl

beats_of_each : map (λ beat. beats_of rules_a beat.head 4) messages ≡ 4 ∷ 4 ∷ 4 ∷ 4 ∷ 1 ∷ 1 ∷ 2 ∷ 2 ∷ []
beats_of_each = refl
