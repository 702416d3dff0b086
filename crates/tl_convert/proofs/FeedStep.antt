-- The far beats that a converter returns for a near beat without a fault, and the near beats that it then represents.
use Rattle.tl_convert.proofs.Names.{◌≡◌, ◌≢◌, ◌<◌, ◌^◌, ◌++◌, ℕ, true, None, Some, List, [], ◌∷◌, length, refl, sym, ap, ◌∙◌, Rules, IsBeat, BeatOf}
use Rattle.tl_convert.proofs.Names.{IsWidth, beats_of, IsPlace, IsPlaceOf, IsHanded, IsHandedWith, IsAdmitted, rest_of, burst_after, fault_in}
use Rattle.tl_convert.proofs.Names.{fault_after, homes_with, FitsMask, head_of, RestIs, ChannelLaws, none-accepts, none-admitted, none-held}
use Rattle.tl_convert.proofs.Names.{begun-lawful, due, Run, Given, Progress, StandsFor, IsFed}
use Rattle.tl_burst.specs.declared.place.Place.{Place}
use Rattle.tl_burst.proofs.PlacesExact.{place-after}
use Rattle.tl_convert.proofs.ConvertStep.{run-of, due-grows, stands-more}

-- beats that are handed with some homes are handed
pub is-handed : {H : Type 0} {r : Rules H} {w : ℕ} {bs : List (BeatOf H w)} {homes : List ℕ} → IsHandedWith r bs homes → IsHanded r bs
is-handed {homes = homes} (ms, rest, handed) = record { homes = homes; messages = ms; rest = rest; handed = handed }

-- the place of a beat that may come next is one that the tracker takes
pub place-next : {H K : Type 0} {w v : ℕ} (r : Rules H) → IsWidth w → ChannelLaws r → (state : Progress H v) → IsFed r w state →
    (b : BeatOf H w) (place : Place K H) → IsPlaceOf r w state.burst b place → IsPlace r w state.burst place
place-next {w = w} r ww laws state (bs, homes, stands) b place is = place-after r w ww laws stands.handed.2 state.burst b place stands.burst_is is

-- a converter that has taken a beat
pub record Fed {H : Type 0} {w v : ℕ} (r : Rules H) (new : Progress H v) (bs : List (BeatOf H w)) (homes : List ℕ) (b : BeatOf H w) (home : ℕ)
    (out : List (BeatOf H v)) : Type 0 where
  pub admitted : IsAdmitted r bs b
  pub stands : StandsFor r new (bs ++ b ∷ []) (homes_with r bs homes b home)
  pub due_is : due r w v (bs ++ b ∷ []) (homes_with r bs homes b home) ≡ due r w v bs homes ++ out

module _ {H : Type 0} {w v : ℕ} (r : Rules H) (ww : IsWidth w) (vw : IsWidth v) (laws : ChannelLaws r)
    (partial_masked : (h : H) → r.partial h ≡ true → r.masked ≡ true) (old new : Progress H v)
    (b : BeatOf H w) (beat : IsBeat r b) (none : fault_in r old.burst b ≡ None)
    (home index : ℕ) (small : index ≡ 0 → r.lane_address b.head home < 2 ^ 64) (inside : index < beats_of r b.head w)
    (opened : index ≡ 0 → new.home ≡ r.lane_address b.head home) (kept : index ≢ 0 → new.home ≡ old.home) (out : List (BeatOf H v))
    (bs : List (BeatOf H w)) (homes : List ℕ) (before : StandsFor r old bs homes) (index_is : index ≡ length (rest_of r w bs)) where
  none-after : fault_after r bs b ≡ None
  none-after = ap (λ burst. fault_in r burst b) (sym before.burst_is) ∙ none

  held : (h : H) (count : ℕ) → old.burst ≡ Some (h, count) → b.head ≡ h
  held = none-held r w ww laws old.burst b none

  fits : FitsMask r b
  fits = (none-accepts r w ww laws (rest_of r w bs) b
      (λ h e. begun-lawful r w ww laws before.handed.2 h (ap head_of (RestIs r w before.handed.2) ∙ e)) none-after).mask

  -- the earlier beats of the message
  pub fed-run : Run r index new.home b old.partial (rest_of r w bs)
  fed-run = run-of r ww vw partial_masked laws.masked_address old bs homes before b home new.home index index_is inside held fits opened kept

  pub fed : Given r new.home b new.partial (rest_of r w bs) out → new.burst ≡ burst_after r (bs ++ b ∷ []) → Fed r new bs homes b home out
  fed given burst_now =
      let handed : IsHandedWith r (bs ++ b ∷ []) (homes_with r bs homes b home) =
      none-admitted r w ww laws b (r.lane_address b.head home) before.handed.2 beat none-after (λ _. laws.home_kept b.head home)
      (λ e. small (index_is ∙ ap length e)) in
      record {
        admitted = is-handed handed;
        stands = stands-more r ww vw partial_masked laws.masked_address old bs homes before b home new.home index index_is inside held fits opened
            kept
            new out given refl burst_now handed;
        due_is = due-grows r ww vw partial_masked laws.masked_address old bs homes before b home new.home index index_is inside held fits opened kept
            new.partial out given;
      }
