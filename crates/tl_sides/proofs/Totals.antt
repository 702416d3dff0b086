-- How many beats a side counts, and that as many taken as sent are all of them.
use Rattle.std.proofs.Common.{◌≡◌, ◌++◌, ℕ, List, [], length, take, sym, ap, ◌∙◌, arith, length-append, append-nil}
use Rattle.std.proofs.Math.Seq.{take-append_seam}
use Rattle.std.proofs.lemmas.List.{nil_from_length}
use Rattle.tl_ring.proofs.Times.{items_length}
use Rattle.tl_ring.specs.Counts.{IsNumberOf, counted}
use Rattle.tl_ring.specs.Halves.{items}
use Rattle.tl_ring.specs.declared.stamped.Stamped.{Stamped}
use Rattle.tl_sides.proofs.Words.{Rules, World, BeatOf, Sending, Taking, Meets, known_items}
use Rattle.tl_sides.specs.Receipts.{AllIfAsMany}

-- the number of the beats that a sending end has sent
pub number_sent : {X : Type 0} {n : ℕ} (sent : List (Stamped X)) (beats : List X) → n ≡ counted (length sent) → items sent ≡ beats → IsNumberOf n beats
number_sent sent beats count same small = let size = ap length same in let all = items_length sent in omega (arith, count, size, all, small)

module _ {X : Type 0} where
  none_else : (taken inbox ring sent stage : List X) → (taken ++ inbox ++ ring) ++ stage ≡ sent ++ stage → length taken ≡ length sent →
      (inbox ≡ []) × (ring ≡ [])
  none_else taken inbox ring sent stage all many =
      let size = sym (length-append (taken ++ inbox ++ ring) stage) ∙ ap length all ∙ length-append sent stage in
      let back = length-append (taken ++ inbox) ring in
      let front = length-append taken inbox in
      (nil_from_length inbox (omega (arith, size, front, back, many)), nil_from_length ring (omega (arith, size, front, back, many)))

  same_front : (taken sent stage : List X) → taken ++ stage ≡ sent ++ stage → length taken ≡ length sent → taken ≡ sent
  same_front taken sent stage all many =
      sym (take-append_seam taken stage) ∙ ap (λ l. take (length taken) l) all ∙ ap (λ n. take n (sent ++ stage)) many ∙ take-append_seam sent stage

  alone : (taken inbox ring : List X) → inbox ≡ [] → ring ≡ [] → taken ++ inbox ++ ring ≡ taken
  alone taken inbox ring no_inbox no_ring =
      ap (λ l. taken ++ inbox ++ l) no_ring ∙ append-nil (taken ++ inbox) ∙ ap (λ l. taken ++ l) no_inbox ∙ append-nil taken

  all_of_as_many : (taken inbox ring sent stage : List X) → (taken ++ inbox ++ ring) ++ stage ≡ sent ++ stage → length taken ≡ length sent →
      (taken ≡ sent) × (ring ≡ []) × (inbox ≡ [])
  all_of_as_many taken inbox ring sent stage all many =
      let none = none_else taken inbox ring sent stage all many in
      let only : taken ++ stage ≡ sent ++ stage = ap (λ l. l ++ stage) (sym (alone taken inbox ring none.0 none.1)) ∙ all in
      (same_front taken sent stage only many, none.1, none.0)

module _ {K A H : Type 0} (r : Rules H) {w v : ℕ} where
  pub all_if_as_many : (s : Sending K A H v) (t : Taking K A H v) (x : World H w v) (taken : List (BeatOf H v)) → Meets r s t x taken →
      AllIfAsMany t x.taken taken
  all_if_as_many s t x taken m many =
      let pipe = m.sends.pipe in
      let sent : x.taken ++ x.inbox ++ x.ring ≡ x.taken = alone x.taken x.inbox x.ring (sym pipe.inbox) (sym pipe.ring) in
      let all = m.outbox.beats ∙ sym pipe.outbox.beats ∙ ap (λ l. l ++ s.stage) sent in
      let these = all_of_as_many taken t.inbox (known_items t) x.taken s.stage all many in
      (these.0, (these.1, these.2))
