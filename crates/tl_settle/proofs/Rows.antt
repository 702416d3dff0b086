-- Worked examples: the verdicts of A and D at settled states, the far beats, and the result of each side, given its
-- history.
use Rattle.tl_settle.proofs.Names.{◌≡◌, ℕ, false, None, Some, List, [], ◌∷◌, refl, map, range_with_len, HeadA, HeadD, BeatOf, Beat, SourceBusy}
use Rattle.tl_settle.proofs.Names.{NoRequest, SizeMismatch, rules_a, rules_e, far_a, far_d, settled_state, Ask, Answer, client_answer, manager_answer}
use Rattle.tl_settle.proofs.Names.{manager_home, verdict_a, verdict_d, verdict_alone}
use Rattle.tl_msg.specs.declared.head.HeadE.{HeadE}
use Rattle.tl_msg.specs.declared.fault.BeatFault.TheVariants.{Mask, Unaligned, HeadChanged}
use Rattle.tl_msg.specs.declared.verdict.Verdict.{Verdict}
use Rattle.tl_msg.specs.declared.verdict.Verdict.TheVariants.{Done, Cut, Refused, Waiting}

-- a beat of A on w lanes, all of which hold zero
abbrev asks : (w opcode size source address mask : ℕ) → BeatOf HeadA w
asks w opcode size source address mask = record {
  head = record { opcode = opcode; param = 0; size = size; source = source; address = address };
  mask = mask;
  lanes = map (λ l. 0) (range_with_len 0 w);
  corrupt = false;
}

-- a beat of D on w lanes, all of which hold x
abbrev tells : (w opcode param size source x : ℕ) → BeatOf HeadD w
tells w opcode param size source x = record {
  head = record { opcode = opcode; param = param; size = size; source = source; sink = 0; denied = false };
  mask = 0;
  lanes = map (λ l. x) (range_with_len 0 w);
  corrupt = false;
}

abbrev outcome : {C M : ℕ} → List (BeatOf HeadA C) → List (BeatOf HeadD M) → Verdict × Verdict
outcome a d = (verdict_a a d, verdict_d a d)

abbrev get_at : (source address : ℕ) → BeatOf HeadA 4
get_at source address = asks 4 4 2 source address 15

-- a response that nobody asked for
unasked : outcome {C = 4} {M = 4} [] (tells 4 1 0 2 0 0 ∷ []) ≡ (Done 0 0, Waiting 0 NoRequest)
unasked = refl

-- a source that is used twice
twice : outcome {C = 4} {M = 4} (get_at 1 0 ∷ get_at 1 4 ∷ []) (tells 4 1 0 2 1 17 ∷ tells 4 1 0 2 1 34 ∷ []) ≡ (Done 2 2, Done 2 2)
twice = refl

-- the same, if the first response is to a request that never goes out
crossed : outcome {C = 4} {M = 4} (get_at 1 0 ∷ get_at 1 4 ∷ get_at 2 8 ∷ []) (tells 4 1 0 2 2 17 ∷ tells 4 1 0 2 1 34 ∷ []) ≡
    (Waiting 1 SourceBusy, Waiting 0 NoRequest)
crossed = refl

-- a response that is smaller than its bus is on the lanes of its request's address
abbrev wide_reply : BeatOf HeadD 16
wide_reply = record {
  head = record { opcode = 1; param = 0; size = 2; source = 17; sink = 0; denied = false };
  mask = 0;
  lanes = 136 ∷ 153 ∷ 0 ∷ 17 ∷ 34 ∷ 51 ∷ 68 ∷ 85 ∷ 102 ∷ 119 ∷ 136 ∷ 153 ∷ 170 ∷ 187 ∷ 204 ∷ 221 ∷ [];
  corrupt = false;
}

placed : far_d {C = 4} {M = 16} (get_at 17 4108 ∷ []) (wide_reply ∷ []) 1 ≡
    record {
      head = record { opcode = 1; param = 0; size = 2; source = 17; sink = 0; denied = false };
      mask = 0;
      lanes = 170 ∷ 187 ∷ 204 ∷ 221 ∷ [];
      corrupt = false;
    } ∷ []
placed = refl

placed_done : outcome {C = 4} {M = 16} (get_at 17 4108 ∷ []) (wide_reply ∷ []) ≡ (Done 1 1, Done 1 1)
placed_done = refl

-- another size than its request's
another_size : outcome {C = 4} {M = 4} (get_at 0 0 ∷ []) (tells 4 1 0 3 0 0 ∷ []) ≡ (Done 1 1, Refused 0 SizeMismatch)
another_size = refl

-- half a request, which a wider manager does not see yet, and one as wide sees
unseen : outcome {C = 4} {M = 8} (asks 4 0 3 1 16 15 ∷ []) (tells 8 0 0 3 1 0 ∷ []) ≡ (Cut 1 0, Waiting 0 NoRequest)
unseen = refl

seen : outcome {C = 4} {M = 4} (asks 4 0 3 1 16 15 ∷ []) (tells 4 0 0 3 1 0 ∷ []) ≡ (Cut 1 1, Done 1 1)
seen = refl

-- half a response frees its source when the client sees it
freed : outcome {C = 4} {M = 4} (asks 4 6 3 1 0 15 ∷ asks 4 6 3 1 0 15 ∷ []) (tells 4 5 1 3 1 0 ∷ []) ≡ (Done 2 2, Cut 1 1)
freed = refl

not_freed : outcome {C = 8} {M = 4} (asks 8 6 3 1 0 255 ∷ asks 8 6 3 1 0 255 ∷ []) (tells 4 5 1 3 1 0 ∷ []) ≡
    (Waiting 1 SourceBusy, Cut 1 0)
not_freed = refl

-- both at once: a busy source, and a response of another size
stuck : outcome {C = 4} {M = 4} (get_at 1 0 ∷ get_at 1 4 ∷ []) (tells 4 1 0 3 1 0 ∷ []) ≡ (Waiting 1 SourceBusy, Refused 0 SizeMismatch)
stuck = refl

-- a burst that another source breaks into
broken : outcome {C = 4} {M = 4} (asks 4 0 3 1 16 15 ∷ asks 4 0 3 2 16 15 ∷ []) [] ≡ (Refused 1 (Beat HeadChanged), Done 0 0)
broken = refl

broken_wide : outcome {C = 4} {M = 8} (asks 4 0 3 1 16 15 ∷ asks 4 0 3 2 16 15 ∷ []) [] ≡ (Refused 1 (Beat HeadChanged), Done 0 0)
broken_wide = refl

broken_alone : verdict_alone rules_a {w = 4} 4 (asks 4 0 3 1 16 15 ∷ asks 4 0 3 2 16 15 ∷ []) ≡ Refused 1 (Beat HeadChanged)
broken_alone = refl

-- three of four beats at twice the width
cut_short : outcome {C = 4} {M = 8} (asks 4 0 4 1 32 15 ∷ asks 4 0 4 1 32 15 ∷ asks 4 0 4 1 32 15 ∷ []) [] ≡ (Cut 3 1, Done 0 0)
cut_short = refl

-- faults of single beats: an incomplete mask, an unaligned address
masked : outcome {C = 4} {M = 4} (asks 4 4 2 0 0 7 ∷ []) [] ≡ (Refused 0 (Beat Mask), Done 0 0)
masked = refl

unaligned : outcome {C = 4} {M = 4} (asks 4 4 2 0 2 15 ∷ []) [] ≡ (Refused 0 (Beat Unaligned), Done 0 0)
unaligned = refl

-- ---- channels that nothing couples

abbrev acknowledged : (sink : ℕ) → BeatOf HeadE 4
acknowledged sink = record { head = record { sink = sink }; mask = 0; lanes = map (λ l. 0) (range_with_len 0 4); corrupt = false }

two_acknowledged : verdict_alone rules_e {w = 4} 8 (acknowledged 42 ∷ acknowledged 7 ∷ []) ≡ Done 2 2
two_acknowledged = refl

nothing_sent : verdict_alone rules_e {w = 4} 8 [] ≡ Done 0 0
nothing_sent = refl

-- ---- the far beats

abbrev only_far_a : List (BeatOf HeadA 4)
only_far_a = let a = get_at 1 0 ∷ get_at 1 4 ∷ get_at 2 8 ∷ [] in let d = tells 4 1 0 2 2 17 ∷ tells 4 1 0 2 1 34 ∷ [] in
    far_a {C = 4} {M = 4} a d (settled_state a d).a

first_alone : only_far_a ≡ get_at 1 0 ∷ []
first_alone = refl

none_back : let a = get_at 1 0 ∷ get_at 1 4 ∷ get_at 2 8 ∷ [] in let d = tells 4 1 0 2 2 17 ∷ tells 4 1 0 2 1 34 ∷ [] in
    far_d {C = 4} {M = 4} a d (settled_state a d).d ≡ []
none_back = refl

-- a release acknowledged without a request
released : outcome {C = 64} {M = 1} [] (tells 1 6 0 6 3 0 ∷ []) ≡ (Done 0 0, Done 1 1)
released = refl

-- ---- the results of the client's side

-- a source is busy from its request on
in_use : client_answer (Ask (get_at 1 0) ∷ []) (get_at 1 4) ≡ Some SourceBusy
in_use = refl

-- until the first beat of its response was taken
in_use_no_more : client_answer (Ask (get_at 1 0) ∷ Answer (tells 4 1 0 2 1 17) ∷ []) (get_at 1 4) ≡ None
in_use_no_more = refl

free_at_first_beat : client_answer (Ask (asks 4 6 3 1 0 15) ∷ Answer (tells 4 5 1 3 1 0) ∷ []) (get_at 1 4) ≡ None
free_at_first_beat = refl

-- ReleaseAck frees nothing
not_released : client_answer (Ask (get_at 1 0) ∷ Answer (tells 4 6 0 2 1 0) ∷ []) (get_at 1 4) ≡ Some SourceBusy
not_released = refl

-- a beat's own fault is reported before a busy source
fault_first : client_answer (Ask (get_at 1 0) ∷ []) (asks 4 4 2 1 2 15) ≡ Some (Beat Unaligned)
fault_first = refl

-- inside a burst no source is asked for
inside_a_burst : client_answer (Ask (asks 4 0 3 1 16 15) ∷ []) (asks 4 0 3 1 16 15) ≡ None
inside_a_burst = refl

-- ---- the results of the manager's side

unknown : manager_answer {w = 4} [] (tells 4 1 0 2 1 0) ≡ Some NoRequest
unknown = refl

known : manager_answer (Ask (get_at 1 0) ∷ []) (tells 4 1 0 2 1 0) ≡ None
known = refl

of_another_size : manager_answer (Ask (get_at 1 0) ∷ []) (tells 4 1 0 3 1 0) ≡ Some SizeMismatch
of_another_size = refl

answered_already : manager_answer (Ask (get_at 1 0) ∷ Answer (tells 4 1 0 2 1 0) ∷ []) (tells 4 1 0 2 1 0) ≡ Some NoRequest
answered_already = refl

-- ReleaseAck needs no request, of no size, and ends none
released_at_once : manager_answer (Ask (get_at 1 0) ∷ []) (tells 4 6 0 6 1 0) ≡ None
released_at_once = refl

still_known : manager_answer (Ask (get_at 1 0) ∷ Answer (tells 4 6 0 6 1 0) ∷ []) (tells 4 1 0 2 1 0) ≡ None
still_known = refl

-- the home of a response is its request's address, and 0 for ReleaseAck
home_of_reply : manager_home {w = 16} (Ask (asks 16 4 2 17 4108 61440) ∷ []) wide_reply.head ≡ 4108
home_of_reply = refl

home_of_release : manager_home {w = 4} (Ask (get_at 17 4108) ∷ []) (tells 4 6 0 2 17 0).head ≡ 0
home_of_release = refl
