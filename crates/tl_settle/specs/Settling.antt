-- How far a script is accepted: which beats of A and D may be accepted, and the places at which both lists stop.
-- TileLink has the rules on source and size of responses. The moments at which a source is free again and a response may
-- be offered are this project's choice.
use Rattle.std.specs.Prelude.{◌+◌, ◌==◌, ℕ, Bool, false, Option, None, Some, List, [], length, map, take, nat_lt, slice_get, if◌then◌else◌}
use Rattle.std.specs.Option.{option_map_or, is_none}
use Rattle.tl_msg.specs.Firsts.{unless}
use Rattle.tl_msg.specs.Rules.{Rules}
use Rattle.tl_msg.specs.Tables.{rules_a, rules_d}
use Rattle.tl_msg.specs.declared.head.HeadA.{HeadA}
use Rattle.tl_msg.specs.declared.head.HeadD.{HeadD}
use Rattle.tl_msg.specs.declared.beat.BeatOf.{BeatOf}
use Rattle.tl_msg.specs.declared.fault.SideFault.{SideFault}
use Rattle.tl_msg.specs.declared.fault.SideFault.TheVariants.{Beat, SourceBusy, NoRequest, SizeMismatch}
use Rattle.tl_burst.specs.Handing.{fault_after}
use Rattle.tl_burst.specs.Begun.{heads, left}
use Rattle.tl_convert.specs.Due.{due}
use Rattle.tl_settle.specs.Requests.{requests_of, responses_to, is_release_ack, partner, homes_after}
use Rattle.tl_settle.specs.Steps.{State, settle, IsTheSettled}

-- the reason why a beat is refused after the accepted ones: its own fault or, if it is the first of a message, the
-- reason why that is held back
abbrev pub stops : {H : Type 0} (r : Rules H) {w : ℕ} (accepted : List (BeatOf H w)) (held : H → Option SideFault) → BeatOf H w → Option SideFault
stops r {w} accepted held b =
    option_map_or (λ fault. Some (Beat fault)) (fault_after r accepted b) (if left r w accepted == 0 then held b.head else None)

-- the near beats a of channel A, at the client's width C, and d of channel D, at the manager's width M
module _ {C M : ℕ} (a : List (BeatOf HeadA C)) (d : List (BeatOf HeadD M)) where
  -- the requests that begin in the first i beats of A, and the far beats that these make due
  abbrev pub requests : (i : ℕ) → List HeadA
  requests i = heads rules_a C (take i a)

  abbrev pub far_a : (i : ℕ) → List (BeatOf HeadA M)
  far_a i = due rules_a C M (take i a) (map (λ h. h.address) (requests i))

  -- the messages that begin in the first j beats of D, and the far beats that these make due
  abbrev pub responses : (j : ℕ) → List HeadD
  responses j = heads rules_d M (take j d)

  abbrev pub far_d : (j : ℕ) → List (BeatOf HeadD C)
  far_d j = due rules_d M C (take j d) (homes_after (heads rules_a C a) [] (responses j))

  -- a source is free if a response to each of its requests has begun at the client's side
  abbrev pub is_free : (i j s : ℕ) → Bool
  is_free i j s = requests_of s (requests i) == responses_to s (heads rules_d C (far_d j))

  -- the reason why a request that would begin is held back: its source is not free
  abbrev pub held_request : (i j : ℕ) → HeadA → Option SideFault
  held_request i j h = unless (is_free i j h.source) SourceBusy

  -- the reason why a response that would begin is held back. ReleaseAck never is. Any other response waits for a request
  -- of its source at the manager's side, and must have that request's size
  abbrev pub held_response : (i j : ℕ) → HeadD → Option SideFault
  held_response i j h =
      if is_release_ack h then None else
      if nat_lt (responses_to h.source (responses j)) (requests_of h.source (heads rules_a M (far_a i)))
      then unless (option_map_or (λ q. q.size == h.size) (partner (heads rules_a C a) (responses j) h.source) false) SizeMismatch
      else Some NoRequest

  -- the reason why the next beat is refused
  abbrev pub stops_a : (i j : ℕ) → BeatOf HeadA C → Option SideFault
  stops_a i j b = stops rules_a (take i a) (held_request i j) b

  abbrev pub stops_d : (i j : ℕ) → BeatOf HeadD M → Option SideFault
  stops_d i j b = stops rules_d (take j d) (held_response i j) b

  -- whether the next beat is accepted
  abbrev pub goes_a : (i j : ℕ) → Bool
  goes_a i j = option_map_or (λ b. is_none (stops_a i j b)) (slice_get a i) false

  abbrev pub goes_d : (i j : ℕ) → Bool
  goes_d i j = option_map_or (λ b. is_none (stops_d i j b)) (slice_get d j) false

  -- the final state, whatever the order of steps
  abbrev pub settled_state : State
  settled_state = settle goes_a goes_d (length a + length d) (record { a = 0; d = 0 })

  abbrev pub IsSettledState : State → Type 0
  IsSettledState s = IsTheSettled goes_a goes_d s
