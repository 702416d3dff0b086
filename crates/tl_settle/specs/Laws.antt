-- How far a script is accepted, in terms of the link: lists in which no burst is interrupted.
use Rattle.std.specs.Prelude.{◌≡◌, ◌↔◌, ◌++◌, ℕ, Bool, true, false, not, None, Some, List, [], ◌∷◌, take, slice_get}
use Rattle.std.specs.List.{list_all}
use Rattle.std.specs.Option.{is_some}
use Rattle.tl_msg.specs.Tables.{rules_a, rules_d}
use Rattle.tl_msg.specs.declared.head.HeadA.{HeadA}
use Rattle.tl_msg.specs.declared.head.HeadD.{HeadD}
use Rattle.tl_msg.specs.declared.beat.BeatOf.{BeatOf}
use Rattle.tl_burst.specs.Handing.{IsHanded, IsAdmitted, rest_of, fault_after}
use Rattle.tl_burst.specs.Begun.{left}
use Rattle.tl_settle.specs.Histories.{Mark, Asks, Answers, open_request}
use Rattle.tl_settle.specs.Requests.{is_request_of, is_response_to}

-- After i accepted beats of A and j of D, these are handed. The next beat of a list has no fault if and only if it is
-- admitted, and it is the first of a message if and only if nothing is left of the last one. So a step accepts only
-- admitted beats, and a verdict names a beat's fault if and only if the beat is not admitted
pub record IsAtAdmitted {C M : ℕ} (a : List (BeatOf HeadA C)) (d : List (BeatOf HeadD M)) (i j : ℕ) : Type 0 where
  pub a_handed : IsHanded rules_a (take i a)
  pub d_handed : IsHanded rules_d (take j d)
  pub a_next : (b : BeatOf HeadA C) → slice_get a i ≡ Some b → (fault_after rules_a (take i a) b ≡ None) ↔ IsAdmitted rules_a (take i a) b
  pub a_opens : (left rules_a C (take i a) ≡ 0) ↔ (rest_of rules_a C (take i a) ≡ [])
  pub d_next : (b : BeatOf HeadD M) → slice_get d j ≡ Some b → (fault_after rules_d (take j d) b ≡ None) ↔ IsAdmitted rules_d (take j d) b
  pub d_opens : (left rules_d M (take j d) ≡ 0) ↔ (rest_of rules_d M (take j d) ≡ [])

-- Source by source: a request of s, or a response to it other than ReleaseAck, begins
abbrev pub is_of : (s : ℕ) → Mark → Bool
is_of s (Asks h) = is_request_of s h
is_of s (Answers h) = is_response_to s h

-- a response to s other than ReleaseAck begins
abbrev pub answers_to : (s : ℕ) → Mark → Bool
answers_to s (Asks h) = false
answers_to s (Answers h) = is_response_to s h

-- the outstanding request of source s among messages that have begun, in order: the last of them that is of s
pub record IsOpenRequest (s : ℕ) (ms : List Mark) (h : HeadA) : Type 0 where
  pub before : List Mark
  pub after : List Mark
  pub parts : ms ≡ before ++ Asks h ∷ after
  pub is_its : is_request_of s h ≡ true
  pub is_last : list_all (λ m. not (is_of s m)) after ≡ true

-- source s is busy: a request of s has begun, and no response to s other than ReleaseAck after it
pub record IsBusy (s : ℕ) (ms : List Mark) : Type 0 where
  pub request : HeadA
  pub before : List Mark
  pub after : List Mark
  pub parts : ms ≡ before ++ Asks request ∷ after
  pub is_its : is_request_of s request ≡ true
  pub unanswered : list_all (λ m. not (answers_to s m)) after ≡ true

-- the value that a side's calls look up is the same
pub record OpenIsLast : Type 0 where
  pub request : (s : ℕ) (ms : List Mark) (h : HeadA) → (open_request s ms ≡ Some h) ↔ IsOpenRequest s ms h
  pub busy : (s : ℕ) (ms : List Mark) → (is_some (open_request s ms) ≡ true) ↔ IsBusy s ms
