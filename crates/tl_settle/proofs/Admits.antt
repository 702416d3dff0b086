-- In every state that steps reach, the accepted beats are handed, and the next beat has no fault if and only if it is
-- admitted.
use Rattle.tl_settle.proofs.Names.{◌≡◌, ◌<◌, ◌↔◌, ℕ, None, List, All, IsBeat, rules_a, rules_d, HeadA, HeadD, BeatOf, IsHanded, IsAdmitted}
use Rattle.tl_settle.proofs.Names.{fault_after, Reaches, goes_a, goes_d, reads, opens_is}
use Rattle.tl_settle.specs.Laws.{IsAtAdmitted}
use Rattle.tl_settle.proofs.SameHeads.{same_a, same_d}
use Rattle.tl_settle.proofs.Settles.{Good, good}
use Rattle.tl_convert.proofs.Accepting.{each_beat, no_faults_handed}

pub at_admitted : {C M : ℕ} → 0 < C → 0 < M →
    ((bs : List (BeatOf HeadA C)) (b : BeatOf HeadA C) → IsHanded rules_a bs → IsBeat rules_a b →
    (fault_after rules_a bs b ≡ None) ↔ IsAdmitted rules_a bs b) →
    ((bs : List (BeatOf HeadD M)) (b : BeatOf HeadD M) → IsHanded rules_d bs → IsBeat rules_d b →
    (fault_after rules_d bs b ≡ None) ↔ IsAdmitted rules_d bs b) →
    (a : List (BeatOf HeadA C)) (d : List (BeatOf HeadD M)) → All (λ b. IsBeat rules_a b) a → All (λ b. IsBeat rules_d b) d → (i j : ℕ) →
    Reaches (goes_a a d) (goes_d a d) i j → IsAtAdmitted a d i j
at_admitted near far exact_a exact_d a d all_a all_d i j r =
    let g : Good near far a d i j = good near far a d r in
    let handed_a : IsHanded rules_a _ = no_faults_handed rules_a exact_a a (each_beat rules_a exact_a a all_a) i g.a_fine in
    let handed_d : IsHanded rules_d _ = no_faults_handed rules_d exact_d d (each_beat rules_d exact_d d all_d) j g.d_fine in
    record {
      a_handed = handed_a;
      d_handed = handed_d;
      a_next = λ b e. exact_a _ b handed_a (each_beat rules_a exact_a a all_a i b e);
      a_opens = opens_is rules_a same_a _ near _ (reads rules_a same_a _ near a i g.a_fine);
      d_next = λ b e. exact_d _ b handed_d (each_beat rules_d exact_d d all_d j b e);
      d_opens = opens_is rules_d same_d _ far _ (reads rules_d same_d _ far d j g.d_fine);
    }
