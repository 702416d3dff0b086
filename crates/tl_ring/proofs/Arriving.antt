-- Each beat under way is taken, from every state of a crossing.
use Rattle.tl_ring.proofs.Names.{◌≡◌, ◌≤◌, ◌<◌, ◌+◌, ◌*◌, ◌-◌, ◌↔◌, ◌++◌, ℕ, zero, suc, List, [], ◌∷◌, length, take, drop, min, refl, sym, ap, subst, ◌∙◌}
use Rattle.tl_ring.proofs.Names.{arith, ⊎_elim, cases_lt, length-take, length-drop, nil_from_length, length-append, append_assoc}
use Rattle.tl_ring.proofs.Names.{append-nil, take_all, take-append_seam, take-append-add, drop-append_seam, BeatOf}
use Rattle.tl_ring.proofs.Names.{Rules, World, inbox_room, Event, push, pop, take_one, Run, done, happens}
use Rattle.tl_ring.specs.Soon.{after_pump, after_fetch, IsIdle, rings_for}
use Rattle.tl_ring.specs.Arriving.{emptied, after_cycle, cycles, under_way, first_move, HasDelivered, Arrives}
use Rattle.std.specs.Prelude.{◌/◌}
use Rattle.std.proofs.Math.Nat.{div-lt_iff_lt-mul}
use Rattle.tl_ring.proofs.Moves.{cut_moves, cut_moves_after}

-- the front of a list, cut by its length too
take_most : {X : Type 0} (n : ℕ) (xs : List X) → take (min (length xs) n) xs ≡ take n xs
take_most n xs = ⊎_elim
    (λ more. let all : min (length xs) n ≡ length xs = omega (arith, more) in
    ap (λ k. take k xs) all ∙ take_all (length xs) xs (omega arith) ∙ sym (take_all n xs (omega (arith, more))))
    (λ less. let some : min (length xs) n ≡ n = omega (arith, less) in ap (λ k. take k xs) some)
    (cases_lt (length xs) n)

-- rounded up: a number of rings holds a list if and only if it is no longer than they are together
pub rings_hold : (room count n : ℕ) → 1 ≤ room → (count ≤ n * room) ↔ (rings_for room count ≤ n)
rings_hold room count n some =
    let next : (n + 1) * room ≡ n * room + room = grind arith in (
      λ fits.
          let lt : count + room - 1 < (n + 1) * room = omega (arith, fits, next, some) in
          let le : (count + room - 1) / room < n + 1 = (div-lt_iff_lt-mul some).1 lt in
          omega (arith, le),
      λ le.
          let lt : (count + room - 1) / room < n + 1 = omega (arith, le) in
          let fits : count + room - 1 < (n + 1) * room = (div-lt_iff_lt-mul some).0 lt in
          omega (arith, fits, next, some),
    )

module _ {H : Type 0} {w v : ℕ} where
  -- the beats of a crossing, from the taker's to the sender's
  abbrev beats_of : World H w v → List (BeatOf H v)
  beats_of x = x.taken ++ x.inbox ++ x.ring ++ x.stage

  -- the number of beats behind the inbox
  abbrev behind : World H w v → ℕ
  behind x = length x.ring + length x.stage

  pump_keeps : (x : World H w v) → beats_of (after_pump x) ≡ beats_of x
  pump_keeps x = cut_moves_after (x.taken ++ x.inbox) (min (length x.stage) (x.room - length x.ring)) x.ring x.stage

  fetch_keeps : (x : World H w v) → beats_of (after_fetch x) ≡ beats_of x
  fetch_keeps x = ap (λ t. t ++ x.stage) (cut_moves_after x.taken (min (length x.ring) (inbox_room - length x.inbox)) x.inbox x.ring)

  take_keeps : (x : World H w v) → beats_of (emptied x) ≡ beats_of x
  take_keeps x = ap (λ t. t ++ x.ring ++ x.stage) (append-nil (x.taken ++ x.inbox))

  cycle_keeps : (x : World H w v) → beats_of (after_cycle x) ≡ beats_of x
  cycle_keeps x = take_keeps (after_fetch (after_pump x)) ∙ fetch_keeps (after_pump x) ∙ pump_keeps x

  cycles_keep : (n : ℕ) (x : World H w v) → beats_of (cycles n x) ≡ beats_of x
  cycles_keep zero x = refl
  cycles_keep (suc n) x = cycles_keep n (after_cycle x) ∙ cycle_keeps x

  -- the sizes after a cycle
  record Sizes (x : World H w v) : Type 0 where
    ring_pumped : length (after_pump x).ring ≡ length x.ring + min (length x.stage) (x.room - length x.ring)
    stage : length (after_cycle x).stage ≡ length x.stage - min (length x.stage) (x.room - length x.ring)
    ring : length (after_cycle x).ring ≡ length (after_pump x).ring - min (length (after_pump x).ring) (inbox_room - length x.inbox)

  sizes : (x : World H w v) → Sizes x
  sizes x =
      let k : ℕ = min (length x.stage) (x.room - length x.ring) in
      let both : length (x.ring ++ take k x.stage) ≡ length x.ring + length (take k x.stage) = length-append x.ring (take k x.stage) in
      let sent : length (take k x.stage) ≡ min k (length x.stage) = length-take k x.stage in
      let all : min k (length x.stage) ≡ k = omega arith in record {
        ring_pumped = both ∙ ap (λ n. length x.ring + n) (sent ∙ all);
        stage = length-drop k x.stage;
        ring = length-drop (min (length (after_pump x).ring) (inbox_room - length x.inbox)) (after_pump x).ring;
      }

  step_le : (x : World H w v) → behind (after_cycle x) ≤ behind x - first_move x
  step_le x =
      let s = sizes x in
      let a = s.ring_pumped in
      let b = s.stage in
      let c = s.ring in
      omega (arith, a, b, c)

  step_exact : (x : World H w v) → length x.ring ≤ x.room → behind (after_cycle x) ≡ behind x - first_move x
  step_exact x fits =
      let s = sizes x in
      let a = s.ring_pumped in
      let b = s.stage in
      let c = s.ring in
      omega (arith, a, b, c, fits)

  step_fits : (x : World H w v) → length x.ring ≤ x.room → length (after_cycle x).ring ≤ x.room
  step_fits x fits =
      let s = sizes x in
      let a = s.ring_pumped in
      let c = s.ring in
      omega (arith, a, c, fits)

  -- a cycle begins with beats under way and takes one at least
  all_gone : (n : ℕ) (x : World H w v) → 1 ≤ x.room → under_way x ≤ n → under_way (cycles n x) ≡ 0
  all_gone zero x some few = omega (arith, few)
  all_gone (suc n) x some few =
      let less : behind (after_cycle x) ≤ behind x - first_move x = step_le x in
      let one : behind (after_cycle x) ≤ n = ⊎_elim
      (λ waiting. omega (arith, less, few, waiting))
      (λ none. let more : 1 ≤ first_move x = omega (arith, none, some) in omega (arith, less, few, more))
      (cases_lt 0 (length x.inbox)) in
      all_gone n (after_cycle x) some (omega (arith, one))

  -- from an empty inbox, as many as ring and inbox have room for, at least
  gone_soon : (n : ℕ) (x : World H w v) → x.inbox ≡ [] → behind x ≤ n * min x.room inbox_room → under_way (cycles n x) ≡ 0
  gone_soon zero x empty few =
      let none : length x.inbox ≡ 0 = ap length empty in
      let zero_times : 0 * min x.room inbox_room ≡ 0 = grind arith in
      omega (arith, few, none, zero_times)
  gone_soon (suc n) x empty few =
      let none : length x.inbox ≡ 0 = ap length empty in
      let less : behind (after_cycle x) ≤ behind x - first_move x = step_le x in
      let next : suc n * min x.room inbox_room ≡ n * min x.room inbox_room + min x.room inbox_room = grind arith in
      let all : first_move x ≡ min x.room inbox_room = omega (arith, none) in
      gone_soon n (after_cycle x) refl (omega (arith, less, next, all, few))

  -- and exactly so many, if the ring is within its room
  later_exact : (n : ℕ) (x : World H w v) → x.inbox ≡ [] → length x.ring ≤ x.room →
      behind (cycles n x) ≡ behind x - n * min x.room inbox_room
  later_exact zero x empty fits =
      let zero_times : 0 * min x.room inbox_room ≡ 0 = grind arith in
      omega (arith, zero_times)
  later_exact (suc n) x empty fits =
      let none : length x.inbox ≡ 0 = ap length empty in
      let less : behind (after_cycle x) ≡ behind x - first_move x = step_exact x fits in
      let next : suc n * min x.room inbox_room ≡ n * min x.room inbox_room + min x.room inbox_room = grind arith in
      let all : first_move x ≡ min x.room inbox_room = omega (arith, none) in
      let later : behind (cycles n (after_cycle x)) ≡ behind (after_cycle x) - n * min x.room inbox_room =
      later_exact n (after_cycle x) refl (step_fits x fits) in
      omega (arith, less, next, all, later)

  count_exact : (n : ℕ) (x : World H w v) → length x.ring ≤ x.room →
      behind (cycles (suc n) x) ≡ behind x - (first_move x + n * min x.room inbox_room)
  count_exact n x fits =
      let less : behind (after_cycle x) ≡ behind x - first_move x = step_exact x fits in
      let later : behind (cycles n (after_cycle x)) ≡ behind (after_cycle x) - n * min x.room inbox_room =
      later_exact n (after_cycle x) refl (step_fits x fits) in
      omega (arith, less, later)

  inbox_stays : (n : ℕ) (x : World H w v) → x.inbox ≡ [] → (cycles n x).inbox ≡ []
  inbox_stays zero x empty = empty
  inbox_stays (suc n) x empty = inbox_stays n (after_cycle x) refl

  -- with nothing under way, all beats are taken ones
  taken_alone : (x : World H w v) → IsIdle x → beats_of x ≡ x.taken
  taken_alone x idle =
      ap (λ t. x.taken ++ x.inbox ++ x.ring ++ t) idle.0 ∙ append-nil (x.taken ++ x.inbox ++ x.ring) ∙
      ap (λ t. x.taken ++ x.inbox ++ t) idle.1 ∙ append-nil (x.taken ++ x.inbox) ∙ ap (λ t. x.taken ++ t) idle.2 ∙ append-nil x.taken

  delivered : (n : ℕ) (x : World H w v) → under_way (cycles n x) ≡ 0 → HasDelivered x (cycles n x)
  delivered n x none =
      let idle : IsIdle (cycles n x) = (
        nil_from_length (cycles n x).stage (omega (arith, none)),
        nil_from_length (cycles n x).ring (omega (arith, none)),
        nil_from_length (cycles n x).inbox (omega (arith, none)),
      ) in
      record { taken = sym (taken_alone (cycles n x) idle) ∙ cycles_keep n x; idle = idle }

  taken_exactly : (n : ℕ) (x : World H w v) → length x.ring ≤ x.room →
      (cycles (suc n) x).taken ≡ x.taken ++ x.inbox ++ take (first_move x + n * min x.room inbox_room) (x.ring ++ x.stage)
  taken_exactly n x fits =
      let y : World H w v = cycles (suc n) x in
      let moved : ℕ = first_move x + n * min x.room inbox_room in
      let before : List (BeatOf H v) = x.taken ++ x.inbox in
      let same : y.taken ++ (y.ring ++ y.stage) ≡ before ++ (x.ring ++ x.stage) =
      sym (append_assoc y.taken y.ring y.stage) ∙ ap (λ t. t ++ y.ring ++ y.stage) (sym (append-nil y.taken)) ∙
      ap (λ t. y.taken ++ t ++ y.ring ++ y.stage) (sym (inbox_stays n (after_cycle x) refl)) ∙ cycles_keep (suc n) x ∙
      append_assoc before x.ring x.stage in
      let count : behind y ≡ behind x - moved = count_exact n x fits in
      let here : length (y.taken ++ (y.ring ++ y.stage)) ≡ length y.taken + behind y =
      length-append y.taken (y.ring ++ y.stage) ∙ ap (λ k. length y.taken + k) (length-append y.ring y.stage) in
      let rest : length (x.ring ++ x.stage) ≡ behind x = length-append x.ring x.stage in
      let there : length (before ++ (x.ring ++ x.stage)) ≡ length before + behind x =
      length-append before (x.ring ++ x.stage) ∙ ap (λ k. length before + k) rest in
      let size : length (y.taken ++ (y.ring ++ y.stage)) ≡ length (before ++ (x.ring ++ x.stage)) = ap length same in
      let long : length y.taken ≡ length before + min (length (x.ring ++ x.stage)) moved = omega (arith, count, here, there, size, rest) in
      sym (take-append_seam y.taken (y.ring ++ y.stage)) ∙ ap (λ k. take k (y.taken ++ (y.ring ++ y.stage))) long ∙
      ap (λ t. take (length before + min (length (x.ring ++ x.stage)) moved) t) same ∙
      take-append-add before (x.ring ++ x.stage) (min (length (x.ring ++ x.stage)) moved) ∙
      ap (λ t. before ++ t) (take_most moved (x.ring ++ x.stage))

  -- after one pump and one fetch, the inbox has these beats
  pub fetched : (x : World H w v) → length x.ring ≤ x.room →
      (after_fetch (after_pump x)).inbox ≡ x.inbox ++ take (first_move x) (x.ring ++ x.stage)
  fetched x fits =
      let none : first_move x + 0 * min x.room inbox_room ≡ first_move x = grind arith in
      let taken : x.taken ++ (after_fetch (after_pump x)).inbox ≡ x.taken ++ (x.inbox ++ take (first_move x) (x.ring ++ x.stage)) =
      taken_exactly 0 x fits ∙ ap (λ n. x.taken ++ x.inbox ++ take n (x.ring ++ x.stage)) none ∙
      append_assoc x.taken x.inbox (take (first_move x) (x.ring ++ x.stage)) in
      sym (drop-append_seam x.taken (after_fetch (after_pump x)).inbox) ∙ ap (λ t. drop (length x.taken) t) taken ∙
      drop-append_seam x.taken (x.inbox ++ take (first_move x) (x.ring ++ x.stage))

  soonest_of : (n : ℕ) (x : World H w v) → 1 ≤ x.room → length x.ring ≤ x.room →
      HasDelivered x (cycles (suc n) x) ↔ (rings_for (min x.room inbox_room) (behind x - first_move x) ≤ n)
  soonest_of n x some fits =
      let one : 1 ≤ min x.room inbox_room = omega (arith, some) in
      let hold = rings_hold (min x.room inbox_room) (behind x - first_move x) n one in (
        λ d.
            let no_stage : length (cycles (suc n) x).stage ≡ 0 = ap length d.idle.0 in
            let no_ring : length (cycles (suc n) x).ring ≡ 0 = ap length d.idle.1 in
            let count : behind (cycles (suc n) x) ≡ behind x - (first_move x + n * min x.room inbox_room) = count_exact n x fits in
            hold.0 (omega (arith, no_stage, no_ring, count)),
        λ few.
            let enough : behind x - first_move x ≤ n * min x.room inbox_room = hold.1 few in
            let less : behind (after_cycle x) ≤ behind x - first_move x = step_le x in
            delivered (suc n) x (gone_soon n (after_cycle x) refl (omega (arith, enough, less))),
      )

module _ {H : Type 0} (r : Rules H) {w v : ℕ} where
  -- events lead from one world to another
  abbrev Leads : (x y : World H w v) → Type 0
  Leads x y = (es : List (Event H w)) × Run r x es y

  pump_leads : (x y : World H w v) → Leads (after_pump x) y → Leads x y
  pump_leads x y (es, run) =
      let k : ℕ = min (length x.stage) (x.room - length x.ring) in
      ⊎_elim
      (λ some. (push k ∷ es, happens x y (push k) es (omega (arith, some), omega arith) run))
      (λ few.
      let none : k ≡ 0 = omega (arith, few) in
      let still : after_pump x ≡ x =
      ap (λ n. record x { stage = drop n x.stage; ring = x.ring ++ take n x.stage }) none ∙ ap (λ t. record x { ring = t }) (append-nil x.ring) in
      (es, subst (λ z. Run r z es y) still run))
      (cases_lt 0 k)

  fetch_leads : (x y : World H w v) → Leads (after_fetch x) y → Leads x y
  fetch_leads x y (es, run) =
      let k : ℕ = min (length x.ring) (inbox_room - length x.inbox) in
      ⊎_elim
      (λ some. (pop k ∷ es, happens x y (pop k) es (omega (arith, some), omega arith) run))
      (λ few.
      let none : k ≡ 0 = omega (arith, few) in
      let still : after_fetch x ≡ x =
      ap (λ n. record x { ring = drop n x.ring; inbox = x.inbox ++ take n x.ring }) none ∙ ap (λ t. record x { inbox = t }) (append-nil x.inbox) in
      (es, subst (λ z. Run r z es y) still run))
      (cases_lt 0 k)

  take_leads : (n : ℕ) (x y : World H w v) → length x.inbox ≡ n → Leads (emptied x) y → Leads x y
  take_leads zero x y size (es, run) =
      let none : x.inbox ≡ [] = nil_from_length x.inbox size in
      let still : emptied x ≡ x =
      ap (λ t. record x { inbox = []; taken = t }) (ap (λ t. x.taken ++ t) none ∙ append-nil x.taken) ∙ ap (λ t. record x { inbox = t }) (sym none) in
      (es, subst (λ z. Run r z es y) still run)
  take_leads (suc n) x y size (es, run) =
      let next : World H w v = record x { inbox = drop 1 x.inbox; taken = x.taken ++ take 1 x.inbox } in
      let left : length (drop 1 x.inbox) ≡ length x.inbox - 1 = length-drop 1 x.inbox in
      let same : emptied x ≡ emptied next = ap (λ t. record x { inbox = []; taken = t }) (sym (cut_moves 1 x.taken x.inbox)) in
      let later = take_leads n next y (omega (arith, left, size)) (es, subst (λ z. Run r z es y) same run) in
      (take_one ∷ later.0, happens x y take_one later.0 (omega (arith, size)) later.1)

  cycles_lead : (n : ℕ) (x : World H w v) → Leads x (cycles n x)
  cycles_lead zero x = ([], done x)
  cycles_lead (suc n) x =
      let y : World H w v = cycles n (after_cycle x) in
      pump_leads x y (fetch_leads (after_pump x) y (take_leads (length (after_fetch (after_pump x)).inbox) (after_fetch (after_pump x)) y refl
      (cycles_lead n (after_cycle x))))

pub every_beat_arrives : {H : Type 0} (r : Rules H) → Arrives r
every_beat_arrives r = record {
  delivers = λ w v n x some few. delivered n x (all_gone n x some few);
  exactly = λ w v n x fits. taken_exactly n x fits;
  soonest = λ w v n x some fits. soonest_of n x some fits;
  all_due = λ w v n x c some few. (delivered n x (all_gone n x some few)).taken ∙ c.beats;
  runs = λ w v n x. cycles_lead r n x;
}
