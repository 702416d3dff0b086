-- Worked examples of bursts, on 4 lanes.
use Rattle.tl_burst.proofs.Names.{◌≡◌, ℕ, zero, suc, true, false, Some, None, List, [], ◌∷◌, refl, arith, rules, range_with_len, slice_get, HeadA}
use Rattle.tl_burst.proofs.Names.{BeatOf, Mask, HeadChanged, rules_a, Cell, Message, IsLawful, layout, Spells, SpellsBeat, Handed, nothing, whole}
use Rattle.tl_burst.proofs.Names.{rest_of, fault_after, heads, left}

abbrev a : (opcode size source address : ℕ) → HeadA
a opcode size source address = record { opcode = opcode; param = 0; size = size; source = source; address = address }

abbrev on : (head : HeadA) (mask : ℕ) (lanes : List ℕ) → BeatOf HeadA 4
on head mask lanes = record { head = head; mask = mask; lanes = lanes; corrupt = false }

abbrev first : BeatOf HeadA 4
first = on (a 0 3 1 16) 15 (range_with_len 0 4)

abbrev second : BeatOf HeadA 4
second = on (a 0 3 1 16) 15 (range_with_len 4 4)

-- a message of 8 bytes is unfinished after its first beat, and not after its second
unfinished : rest_of rules_a 4 (first ∷ []) ≡ first ∷ []
unfinished = refl

finished : rest_of rules_a 4 (first ∷ second ∷ []) ≡ []
finished = refl

next : rest_of rules_a 4 (first ∷ second ∷ first ∷ []) ≡ first ∷ []
next = refl

-- inside the burst: another source, a mask that is not full, and the second beat
other_source : fault_after rules_a (first ∷ []) (on (a 0 3 2 16) 7 (range_with_len 4 4)) ≡ Some HeadChanged
other_source = refl

short_mask : fault_after rules_a (first ∷ []) (on (a 0 3 1 16) 7 (range_with_len 4 4)) ≡ Some Mask
short_mask = refl

goes_on : fault_after rules_a (first ∷ []) second ≡ None
goes_on = refl

-- outside it another source may begin
begins : fault_after rules_a (first ∷ second ∷ []) (on (a 0 3 2 16) 15 (range_with_len 4 4)) ≡ None
begins = refl

-- the messages that begin in the beats of one message and the first beat of the next, and the number of missing beats
both_heads : heads rules_a 4 (first ∷ second ∷ on (a 0 3 2 16) 15 (range_with_len 0 4) ∷ []) ≡ a 0 3 1 16 ∷ a 0 3 2 16 ∷ []
both_heads = refl

lacks_one : left rules_a 4 (first ∷ second ∷ on (a 0 3 2 16) 15 (range_with_len 0 4) ∷ []) ≡ 1
lacks_one = refl

one_head : heads rules_a 4 (first ∷ second ∷ []) ≡ a 0 3 1 16 ∷ []
one_head = refl

lacks_none : left rules_a 4 (first ∷ second ∷ []) ≡ 0
lacks_none = refl

-- the two beats are the layout of a message
abbrev cell : ℕ → Cell
cell byte = record { byte = byte; on = true; bad = false }

abbrev put : Message HeadA
put = record { head = a 0 3 1 16; home = 16; cells = cell 0 ∷ cell 1 ∷ cell 2 ∷ cell 3 ∷ cell 4 ∷ cell 5 ∷ cell 6 ∷ cell 7 ∷ [] }

laid : layout rules_a put 4 ≡ first ∷ second ∷ []
laid = refl

-- a Get of 4 bytes: a lawful message, and one beat that carries it, whatever its lanes hold
abbrev get : Message HeadA
get = record { head = a 4 2 1 16; home = 16; cells = [] }

abbrev get_beat : BeatOf HeadA 4
get_beat = on (a 4 2 1 16) 15 (9 ∷ 9 ∷ 9 ∷ 9 ∷ [])

lawful : IsLawful rules_a get
lawful = record { fault = refl; home = refl; home_small = omega arith; cells = refl; on = λ e. search rules; bytes = search rules }

no_cell : {X : Type 0} (i : ℕ) (c : Cell) → slice_get [] i ≡ Some c → X
no_cell i c e = absurd (search rules)

spells_beat : SpellsBeat rules_a get 4 0 get_beat
spells_beat = record { head = refl; bytes = λ i c e. no_cell i c e; bad = λ i c e. no_cell i c e; mask = λ e. refl; clean = λ e f. refl }

only : (j : ℕ) (b : BeatOf HeadA 4) → slice_get (get_beat ∷ []) j ≡ Some b → SpellsBeat rules_a get 4 j b
only zero b e = search (rules, spells_beat)
only (suc j) b e = search rules

spells : Spells rules_a get 4 (get_beat ∷ [])
spells = record { count = refl; each = only }

handed : Handed rules_a 4 (get_beat ∷ []) (16 ∷ []) (get ∷ []) []
handed = whole get (get_beat ∷ []) [] [] [] [] lawful spells nothing
