-- The final state of a script, in whole messages: those that each channel accepts, the beats that arrive, and the
-- reason why it stops (TileLink: burst rules, byte lanes, source and size of responses; the moments and the verdicts:
-- this project's choice).
use Rattle.std.specs.Prelude.{◌≡◌, ◌≢◌, ◌≤◌, ◌++◌, ℕ, None, Some, Option, List, [], length, map, take, slice_get, All}
use Rattle.tl_msg.specs.Beats.{IsBeat}
use Rattle.tl_msg.specs.Rules.{Rules}
use Rattle.tl_msg.specs.Tables.{rules_a, rules_b, rules_c, rules_d, rules_e}
use Rattle.tl_msg.specs.declared.beat.BeatOf.{BeatOf}
use Rattle.tl_msg.specs.declared.fault.BeatFault.{BeatFault}
use Rattle.tl_msg.specs.declared.fault.SideFault.{SideFault}
use Rattle.tl_msg.specs.declared.fault.SideFault.TheVariants.{Beat, SizeMismatch}
use Rattle.tl_msg.specs.declared.verdict.Verdict.{Verdict}
use Rattle.tl_msg.specs.declared.verdict.Verdict.TheVariants.{Done, Cut, Refused, Waiting}
use Rattle.tl_burst.specs.Messages.{Message}
use Rattle.tl_burst.specs.Handing.{Handed, IsAdmitted, fault_after}
use Rattle.tl_burst.specs.Begun.{heads, rest_heads}
use Rattle.tl_convert.specs.Due.{DueOf}
use Rattle.tl_convert.specs.Accepted.{accepted_of, IsLongest}
use Rattle.tl_convert.specs.Laws.{FarIsHanded}
use Rattle.tl_settle.specs.Requests.{homes_after}
use Rattle.tl_settle.specs.Steps.{Reaches}
use Rattle.tl_settle.specs.Settling.{IsSettledState, goes_a, goes_d, held_request, held_response, requests, responses, settled_state}
use Rattle.tl_settle.specs.Obeying.{LinksObey}
use Rattle.tl_settle.specs.Outcomes.{Beats, far_beats, verdict_a, verdict_d, verdict_alone}
use Rattle.tl_settle.specs.Laws.{IsAtAdmitted}

module _ {H : Type 0} (r : Rules H) {w : ℕ} where
  -- The reason why only the first n beats of a list are accepted, which leave rest unfinished.
  module _ (near : List (BeatOf H w)) (n : ℕ) (rest : List (BeatOf H w)) where
    -- the next beat is admitted, and opens a message
    pub record NextOpens (b : BeatOf H w) : Type 0 where
      pub next : slice_get near n ≡ Some b
      pub admitted : IsAdmitted r (take n near) b
      pub between : rest ≡ []

    -- The verdict, if n beats make `far` far beats due. All beats were accepted, with or without an unfinished message
    -- at the end, or the next beat is not admitted, or it is the first of a message that is held back. Such a beat
    -- waits, except for a response whose size is not that of its request.
    pub data IsVerdict (far : ℕ) (held : H → Option SideFault) : Verdict → Type 0 where
      all_done : n ≡ length near → rest ≡ [] → IsVerdict far held (Done n far)
      all_cut : n ≡ length near → rest ≢ [] → IsVerdict far held (Cut n far)
      not_admitted : (b : BeatOf H w) (fault : BeatFault) → slice_get near n ≡ Some b →
          (IsAdmitted r (take n near) b → ⊥) → fault_after r (take n near) b ≡ Some fault →
          IsVerdict far held (Refused n (Beat fault))
      another_size : (b : BeatOf H w) → NextOpens b → held b.head ≡ Some SizeMismatch →
          IsVerdict far held (Refused n SizeMismatch)
      waits : (b : BeatOf H w) (fault : SideFault) → NextOpens b → held b.head ≡ Some fault →
          fault ≢ SizeMismatch → IsVerdict far held (Waiting n fault)

  -- One channel. The first n beats of its list are whole messages, one after the other, and then rest, which is empty
  -- or begins one more; homes has the home of each message that has begun. The far beats are the layout of the whole
  -- messages, and of the last one as far as its beats go. They are handed themselves, with the same messages: no burst
  -- of them is interrupted.
  pub record Brings {v : ℕ} (near : List (BeatOf H w)) (far : List (BeatOf H v)) (n : ℕ)
      (homes : List ℕ) (held : H → Option SideFault) (verdict : Verdict) : Type 0 where
    pub messages : List (Message H)
    pub rest : List (BeatOf H w)
    pub within : n ≤ length near
    pub handed : Handed r w (take n near) homes messages rest
    pub arrives : DueOf r w v messages homes rest far
    pub far_handed : FarIsHanded r far homes messages rest
    -- so the heads of the far beats are those of these messages
    pub begun : heads r w (take n near) ≡ map (λ m. m.head) messages ++ rest_heads r w rest
    pub begun_there :
        heads r v far ≡ map (λ m. m.head) messages ++ rest_heads r v far_handed.far_rest
    pub verdict_is : IsVerdict near n rest (length far) held verdict

  -- A channel that does not depend on another channel: nothing is held back, and the longest handed first part of its
  -- list is accepted. The homes are those that the heads determine.
  pub record BringsAlone {v : ℕ} (near : List (BeatOf H w)) (far : List (BeatOf H v))
      (verdict : Verdict) : Type 0 where
    pub longest : IsLongest r near
    pub brings : let n = length (accepted_of r near) in
        let homes = map (λ h. r.lane_address h 0) (heads r w (take n near)) in
        Brings near far n homes (λ h. None) verdict

-- the near beats of a script
module _ {C M : ℕ} (near : Beats C M) where
  -- memory can hold them
  pub record AreBeats : Type 0 where
    pub a : All (λ x. IsBeat rules_a x) near.a
    pub b : All (λ x. IsBeat rules_b x) near.b
    pub c : All (λ x. IsBeat rules_c x) near.c
    pub d : All (λ x. IsBeat rules_d x) near.d
    pub e : All (λ x. IsBeat rules_e x) near.e

  -- They end at the one settled state of A and D, which is reached by steps that accept only admitted beats. There a
  -- request is held back while its source is busy. A response other than ReleaseAck is held back if no request of its
  -- source waits for it, or if that request has another size. The home of a request is its address, and that of a
  -- response the address of its request.
  pub record EndsInMessages : Type 0 where
    pub settled : IsSettledState near.a near.d (settled_state near.a near.d)
    pub admitted : (i j : ℕ) → Reaches (goes_a near.a near.d) (goes_d near.a near.d) i j →
        IsAtAdmitted near.a near.d i j
    pub on_a : let s = settled_state near.a near.d in
        Brings rules_a near.a (far_beats near).a s.a
        (map (λ h. h.address) (requests near.a near.d s.a))
        (held_request near.a near.d s.a s.d) (verdict_a near.a near.d)
    pub on_b : BringsAlone rules_b near.b (far_beats near).b (verdict_alone rules_b C near.b)
    pub on_c : BringsAlone rules_c near.c (far_beats near).c (verdict_alone rules_c M near.c)
    pub on_d : let s = settled_state near.a near.d in
        Brings rules_d near.d (far_beats near).d s.d
        (homes_after (requests near.a near.d s.a) [] (responses near.a near.d s.d))
        (held_response near.a near.d s.a s.d) (verdict_d near.a near.d)
    pub on_e : BringsAlone rules_e near.e (far_beats near).e (verdict_alone rules_e M near.e)
    -- legal in, legal out
    pub links : LinksObey near
