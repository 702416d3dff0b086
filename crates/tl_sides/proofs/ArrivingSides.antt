-- Each beat under way is taken, on every channel of two sides that meet.
use Rattle.std.proofs.Common.{◌≡◌, ◌≤◌, ◌<◌, ◌+◌, ◌-◌, ◌++◌, ℕ, zero, suc, List, [], length, take, drop, min, sym, ap, ◌∙◌, arith, ⊎_elim, append-nil}
use Rattle.std.proofs.Common.{length-append}
use Rattle.std.proofs.lemmas.Bool.{cases_lt}
use Rattle.std.proofs.lemmas.List.{length-drop, length-take, nil_from_length}
use Rattle.tl_convert.specs.Due.{due}
use Rattle.tl_ring.specs.Ends.{Met, Meets, room, sent}
use Rattle.tl_sides.proofs.Words.{Rules, rules_a, rules_b, rules_c, rules_d, rules_e, BeatOf, World, Sending, Taking, Sends, known_free, known_items, received}
use Rattle.tl_sides.proofs.Words.{inbox_room, asked, answered}
use Rattle.tl_sides.specs.ArrivingSides.{IsKnown, EndsRound, under_way, KnownSides, SidesRound, SidesAfter, none_yet, one_more, SidesHaveUnderWay}
use Rattle.tl_sides.specs.ArrivingSides.{AllDueCame, AllBeatsCome}
use Rattle.tl_sides.specs.Ends.{pump_count, fetch_count}
use Rattle.tl_sides.specs.Sides.{ClientState, ManagerState, ClientPast, ManagerPast, ClientStandsFor, ManagerStandsFor, SidesMeet}

module _ {K A H : Type 0} {v : ℕ} where
  -- one round takes one beat at least, if any is under way
  record Less (s : Sending K A H v) (t : Taking K A H v) (s' : Sending K A H v) (t' : Taking K A H v) : Type 0 where
    known : IsKnown s' t'
    same_room : room s' ≡ room s
    fewer : under_way s' t' ≤ under_way s t - 1

  less : {s s' : Sending K A H v} {t t' : Taking K A H v} → IsKnown s t → 1 ≤ room s → EndsRound s t s' t' → Less s t s' t'
  less {s} {s'} {t} {t'} known some r =
      let s1 = r.pumped in
      let s2 = r.met_sending in
      let t2 = r.met_taking in
      let t3 = r.fetched in
      let k : ℕ = pump_count s s1 in
      let m : ℕ = fetch_count t2 t3 in
      let left : length s1.stage ≡ length s.stage - k = ap length r.pump.pushed.stage ∙ length-drop k s.stage in
      let stage_2 : length s2.stage ≡ length s1.stage = ap length r.met.same_stage in
      let stage_3 : length s'.stage ≡ length s2.stage = ap length r.met_again.same_stage in
      let sent_1 : length (sent s1) ≡ length (sent s) + length (take k s.stage) =
      ap length r.pump.pushed.more_sent ∙ length-append (sent s) (take k s.stage) in
      let pushed : length (take k s.stage) ≡ min k (length s.stage) = length-take k s.stage in
      let sent_2 : length (sent s2) ≡ length (sent s1) = ap length r.met.same_sent in
      let sent_3 : length (sent s') ≡ length (sent s2) = ap length r.met_again.same_sent in
      let received_2 : length (received t2) ≡ length (received t) = ap length r.met.same_received in
      let received_3 : length (received t3) ≡ length (received t2) + length r.fetch.fetched.moved =
      ap length r.fetch.fetched.received ∙ length-append (received t2) r.fetch.fetched.moved in
      let received_4 : length (received t') ≡ length (received t3) = ap length r.met_again.same_received in
      let moved : length r.fetch.fetched.moved ≡ m = r.fetch.fetched.count in
      let inbox_2 : length t2.inbox ≡ length t.inbox = ap length r.met.same_inbox in
      let inbox_4 : length t'.inbox ≡ 0 = ap length r.met_again.same_inbox in
      let ring : length (received t) + length (known_items t) ≡ length (sent s) =
      sym (length-append (received t) (known_items t)) ∙ ap length known.ring in
      let ring_2 : length (received t2) + length (known_items t2) ≡ length (sent s2) =
      sym (length-append (received t2) (known_items t2)) ∙ ap length r.met.ring in
      let ring_4 : length (received t') + length (known_items t') ≡ length (sent s') =
      sym (length-append (received t') (known_items t')) ∙ ap length r.met_again.ring in
      let room_2 : room s2 ≡ room s = r.met.send.1 ∙ r.pump.pushed.ring.1 in
      let room_4 : room s' ≡ room s2 = r.met_again.send.1 in
      let free = known.free in
      let least = r.pump.least in
      let least_fetched = r.fetch.least in
      let all_free = r.met_again.all_free in
      -- the beats behind the inbox
      let behind : length (known_items t') + length s'.stage + m ≡ length (known_items t) + length s.stage =
      omega (arith, left, stage_2, stage_3, sent_1, pushed, sent_2, sent_3, received_2, received_3, received_4, moved, ring, ring_4) in
      let ring_now : length (known_items t2) ≡ length (known_items t) + k =
      omega (arith, left, sent_1, pushed, sent_2, received_2, ring, ring_2) in
      record {
        known = record { ring = r.met_again.ring; free = omega (arith, all_free, room_4) };
        same_room = room_4 ∙ room_2;
        fewer = ⊎_elim
            (λ waiting. omega (arith, behind, inbox_4, waiting))
            (λ none. ⊎_elim
            (λ more. let one : 1 ≤ length (known_items t2) = omega (arith, ring_now, least, free, some, more) in
            let two : 1 ≤ m = omega (arith, one, least_fetched, inbox_2, none) in
            omega (arith, behind, inbox_4, two))
            (λ nothing. omega (arith, behind, inbox_4, nothing))
            (cases_lt 0 (length (known_items t) + length s.stage)))
            (cases_lt 0 (length t.inbox));
      }

  -- nothing is under way
  record AllGone (s : Sending K A H v) (t : Taking K A H v) : Type 0 where
    inbox : t.inbox ≡ []
    ring : known_items t ≡ []
    stage : s.stage ≡ []

  gone : (s : Sending K A H v) (t : Taking K A H v) → under_way s t ≤ 0 → AllGone s t
  gone s t none = record {
    inbox = nil_from_length t.inbox (omega (arith, none));
    ring = nil_from_length (known_items t) (omega (arith, none));
    stage = nil_from_length s.stage (omega (arith, none));
  }

-- with nothing under way, the beats taken are all that are due
came : {K A H : Type 0} (r : Rules H) {w v : ℕ} (s : Sending K A H v) (t : Taking K A H v) (x : World H w v) (taken : List (BeatOf H v)) →
    Meets r s t x taken → AllGone s t → taken ≡ due r w v x.accepted x.homes
came r s t x taken m none =
    sym (append-nil taken) ∙ ap (λ l. taken ++ l) (sym none.inbox) ∙ sym (append-nil (taken ++ t.inbox)) ∙
    ap (λ l. taken ++ t.inbox ++ l) (sym none.ring) ∙ sym (append-nil (taken ++ t.inbox ++ known_items t)) ∙
    ap (λ l. taken ++ t.inbox ++ known_items t ++ l) (sym none.stage ∙ m.sends.pipe.stage) ∙ m.crosses.beats

some_room : {K A H : Type 0} (r : Rules H) {w v : ℕ} (s : Sending K A H v) (x : World H w v) → Sends r s x → 1 ≤ room s
some_room r s x h = let same : room s ≡ x.room = h.pipe.room in let one : 1 ≤ x.room = h.some_room in omega (arith, same, one)

less_then : {n p q : ℕ} → p ≤ q - 1 → q ≤ suc n → p ≤ n
less_then fewer few = omega (arith, fewer, few)

still_room : {p q : ℕ} → p ≡ q → 1 ≤ q → 1 ≤ p
still_room same some = omega (arith, same, some)

module _ {A : Type 0} {C M : ℕ} where
  record Rooms (s : ClientState A C M) (t : ManagerState A C M) : Type 0 where
    a : 1 ≤ room s.a
    b : 1 ≤ room t.b
    c : 1 ≤ room s.c
    d : 1 ≤ room t.d
    e : 1 ≤ room s.e

  record AllGones (s : ClientState A C M) (t : ManagerState A C M) : Type 0 where
    a : AllGone s.a t.a
    b : AllGone t.b s.b
    c : AllGone s.c t.c
    d : AllGone t.d s.d
    e : AllGone s.e t.e

  all_gone : {n : ℕ} {s s' : ClientState A C M} {t t' : ManagerState A C M} → SidesAfter n s t s' t' → KnownSides s t → Rooms s t →
      SidesHaveUnderWay s t n → AllGones s' t'
  all_gone (none_yet s t) known rooms few = record {
    a = gone s.a t.a few.a;
    b = gone t.b s.b few.b;
    c = gone s.c t.c few.c;
    d = gone t.d s.d few.d;
    e = gone s.e t.e few.e;
  }
  all_gone (one_more n s s1 s2 t t1 t2 r rest) known rooms few =
      let a = less known.a rooms.a r.a in
      let b = less known.b rooms.b r.b in
      let c = less known.c rooms.c r.c in
      let d = less known.d rooms.d r.d in
      let e = less known.e rooms.e r.e in
      all_gone rest (record { a = a.known; b = b.known; c = c.known; d = d.known; e = e.known })
      (record {
        a = still_room a.same_room rooms.a;
        b = still_room b.same_room rooms.b;
        c = still_room c.same_room rooms.c;
        d = still_room d.same_room rooms.d;
        e = still_room e.same_room rooms.e;
      })
      (record {
        a = less_then a.fewer few.a;
        b = less_then b.fewer few.b;
        c = less_then c.fewer few.c;
        d = less_then d.fewer few.d;
        e = less_then e.fewer few.e;
      })

pub all_beats_come : (A : Type 0) (C M : ℕ) → AllBeatsCome A C M
all_beats_come A C M n s s' t t' x x' y y' h k known few rounds met =
    let rooms : Rooms s t = record {
      a = some_room rules_a s.a x.a h.a;
      b = some_room rules_b t.b y.b k.b;
      c = some_room rules_c s.c x.c h.c;
      d = some_room rules_d t.d y.d k.d;
      e = some_room rules_e s.e x.e h.e;
    } in
    let none : AllGones s' t' = all_gone rounds known rooms few in
    record {
      a = came rules_a s'.a t'.a x'.a (asked y'.history) met.a none.a;
      b = came rules_b t'.b s'.b y'.b x'.b met.b none.b;
      c = came rules_c s'.c t'.c x'.c y'.c met.c none.c;
      d = came rules_d t'.d s'.d y'.d (answered x'.history) met.d none.d;
      e = came rules_e s'.e t'.e x'.e y'.e met.e none.e;
    }
