-- The number of pumps and fetches until a beat can be taken.
use Rattle.tl_ring.proofs.Names.{◌≡◌, ◌≤◌, ◌+◌, ◌*◌, ◌-◌, ◌↔◌, ◌++◌, ℕ, zero, suc, List, [], ◌∷◌, length, take, drop, min, refl, sym, ap, ◌∙◌}
use Rattle.tl_ring.proofs.Names.{arith, ⊎_elim, cases_lt, drop-append_seam, length-drop, drop-drop, drop_all}
use Rattle.tl_ring.proofs.Names.{Rules, BeatOf, homes_with, due, World, offered, inbox_room, slice_get, Some}
use Rattle.tl_ring.specs.Arriving.{first_move}
use Rattle.tl_ring.proofs.Arriving.{rings_hold, fetched}
use Rattle.tl_ring.specs.Soon.{after_pump, after_fetch, IsIdle, AfterPumps, none_yet, one_more, rings_for, HowSoon}

-- the rest of a list, cut by its length too
drop_most : {X : Type 0} (n : ℕ) (xs : List X) → drop (min (length xs) n) xs ≡ drop n xs
drop_most n xs = ⊎_elim
    (λ more. let all : min (length xs) n ≡ length xs = omega (arith, more) in
    ap (λ k. drop k xs) all ∙ drop_all (length xs) xs (omega arith) ∙ sym (drop_all n xs (omega (arith, more))))
    (λ less. let some : min (length xs) n ≡ n = omega (arith, less) in ap (λ k. drop k xs) some)
    (cases_lt (length xs) n)

first_of : {X : Type 0} (n : ℕ) (x : X) (xs : List X) → 1 ≤ n → slice_get (take n (x ∷ xs)) 0 ≡ Some x
first_of zero x xs some = absurd (omega (arith, some))
first_of (suc n) x xs some = refl

module _ {H : Type 0} (r : Rules H) {w v : ℕ} where
  together_of : (x : World H w v) (b : BeatOf H w) (home : ℕ) (far : List (BeatOf H v)) → IsIdle x →
      due r w v (x.accepted ++ b ∷ []) (homes_with r x.accepted x.homes b home) ≡ due r w v x.accepted x.homes ++ far →
      (after_fetch (after_pump (offered r b home x))).inbox ≡ take (min x.room inbox_room) far
  together_of x b home far idle e =
      let y : World H w v = offered r b home x in
      let staged : y.stage ≡ far = ap (λ all. drop (length (due r w v x.accepted x.homes)) all) e ∙ drop-append_seam (due r w v x.accepted x.homes) far in
      let no_ring : length x.ring ≡ 0 = ap length idle.1 in
      let no_inbox : length x.inbox ≡ 0 = ap length idle.2 in
      let most : first_move y ≡ min x.room inbox_room = omega (arith, no_inbox) in
      fetched y (omega (arith, no_ring)) ∙ ap (λ i. i ++ take (first_move y) (x.ring ++ y.stage)) idle.2 ∙
      ap (λ k. take (first_move y) (k ++ y.stage)) idle.1 ∙ ap (λ s. take (first_move y) s) staged ∙ ap (λ n. take n far) most

module _ {H : Type 0} {w v : ℕ} where
  -- each pump takes a ring's worth off the stage
  stage_after : {n : ℕ} {x y : World H w v} → AfterPumps n x y → (y.room ≡ x.room) × (y.stage ≡ drop (n * x.room) x.stage)
  stage_after (none_yet z) =
      let none : 0 * z.room ≡ 0 = grind arith in
      let all : drop (0 * z.room) z.stage ≡ z.stage = ap (λ k. drop k z.stage) none in
      (refl, sym all)
  stage_after (one_more n x y z before room stage ring) =
      let h = stage_after before in
      let all : z.room ≡ x.room = room ∙ h.0 in
      let free : z.room - length z.ring ≡ x.room = ap (λ k. z.room - length k) ring ∙ omega (arith, all) in
      let next : n * x.room + x.room ≡ suc n * x.room = grind arith in (
        all,
        ap (λ k. drop (min (length z.stage) k) z.stage) free ∙ drop_most x.room z.stage ∙ ap (λ s. drop x.room s) (stage ∙ h.1) ∙
            drop-drop x.room (n * x.room) x.stage ∙ ap (λ k. drop k x.stage) next,
      )

  leave_of : (n : ℕ) (x y : World H w v) → 1 ≤ x.room → AfterPumps n x y → (y.stage ≡ []) ↔ (rings_for x.room (length x.stage) ≤ n)
  leave_of n x y some after =
      let left : y.stage ≡ drop (n * x.room) x.stage = (stage_after after).1 in
      let count : length (drop (n * x.room) x.stage) ≡ length x.stage - n * x.room = length-drop (n * x.room) x.stage in (
        λ none.
            let gone : length (drop (n * x.room) x.stage) ≡ 0 = ap length (sym left ∙ none) in
            (rings_hold x.room (length x.stage) n some).0 (omega (arith, gone, count)),
        λ few. left ∙ drop_all (n * x.room) x.stage ((rings_hold x.room (length x.stage) n some).1 few),
      )

pub how_soon : {H : Type 0} (r : Rules H) → HowSoon r
how_soon r = record {
  next = λ w v x b home far others idle some e.
      let most : 1 ≤ min x.room inbox_room = omega (arith, some) in
      ap (λ inbox. slice_get inbox 0) (together_of r x b home (far ∷ others) idle e) ∙ first_of (min x.room inbox_room) far others most;
  together = λ w v x b home far idle e. together_of r x b home far idle e;
  staged_leave = λ w v n x y some after. leave_of n x y some after;
}
