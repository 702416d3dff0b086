-- Every accepted beat arrives, on every channel of two sides that have settled.
use Rattle.std.proofs.Common.{◌≡◌, ◌≤◌, ◌<◌, ℕ, List, [], ◌++◌, length, sym, ap, ◌∙◌, subst, arith, ⊎_elim, append-nil}
use Rattle.std.proofs.lemmas.Bool.{cases_lt}
use Rattle.std.proofs.lemmas.List.{nil_from_length}
use Rattle.std.specs.Global.{Global}
use Rattle.tl_msg.specs.Rules.{Rules}
use Rattle.tl_msg.specs.Tables.{rules_a, rules_b, rules_c, rules_d, rules_e}
use Rattle.tl_msg.specs.declared.beat.BeatOf.{BeatOf}
use Rattle.tl_convert.specs.Due.{due}
use Rattle.tl_ring.specs.Crossing.{World, inbox_room}
use Rattle.tl_ring.specs.Ends.{Meets, Sending, Taking, known_items, room}
use Rattle.tl_settle.specs.Histories.{asked, answered}
use Rattle.tl_sides.specs.Sides.{ClientState, ManagerState, ClientPast, ManagerPast}
use Rattle.tl_c_beats.specs.Settling.{IsStill, StillSides, SidesSettle}
use Rattle.tl_c.specs.declared.widths.TheConstants.{CLIENT, MANAGER}
use Rattle.tl_c.specs.Settling.{BringsAllDue, BeatsArrive}

-- what waits only behind something that is full does not wait if that is not full
none_waits : {n m k : ℕ} → (0 < n → m ≤ k) → k < m → n ≡ 0
none_waits {n} {m} {k} only_if has_room =
    ⊎_elim (λ some. let full : m ≤ k = only_if some in absurd (omega (arith, full, has_room))) (λ none. omega (arith, none)) (cases_lt 0 n)

-- a channel that is still has nothing behind an inbox that is not full
brings_all : {K A H : Type 0} (r : Rules H) {w v : ℕ} (s : Sending K A H v) (t : Taking K A H v) (x : World H w v) (taken : List (BeatOf H v)) →
    Meets r s t x taken → IsStill s t → BringsAllDue r t x taken
brings_all r s t x taken m still has_room =
    let no_ring : known_items t ≡ [] = nil_from_length (known_items t) (none_waits still.in_ring has_room) in
    let none : length (known_items t) ≡ 0 = ap length no_ring in
    let same : room s ≡ x.room = m.sends.pipe.room in
    let one : 1 ≤ x.room = m.sends.some_room in
    let ring_has_room : length (known_items t) < room s = omega (arith, none, same, one) in
    let no_stage : s.stage ≡ [] = nil_from_length s.stage (none_waits still.staged ring_has_room) in
    sym (append-nil (taken ++ t.inbox)) ∙ ap (λ l. taken ++ t.inbox ++ l) (sym no_ring) ∙ sym (append-nil (taken ++ t.inbox ++ known_items t)) ∙
    ap (λ l. taken ++ t.inbox ++ known_items t ++ l) (sym no_stage ∙ m.sends.pipe.stage) ∙ m.crosses.beats

-- so if its inbox is empty, everything was taken
all_taken : {X : Type 0} (taken inbox all : List X) → (length inbox < inbox_room → taken ++ inbox ≡ all) → inbox ≡ [] → taken ≡ all
all_taken taken inbox all brings none =
    let empty : length inbox ≡ 0 = ap length none in
    sym (append-nil taken) ∙ ap (λ l. taken ++ l) (sym none) ∙ brings (omega (arith, empty))

pub beats_arrive : {s : ClientState Global CLIENT MANAGER} {t : ManagerState Global CLIENT MANAGER}
    {x : ClientPast CLIENT MANAGER} {y : ManagerPast CLIENT MANAGER} → SidesSettle s t x y → StillSides s t → BeatsArrive s t x y
beats_arrive {s} {t} {x} {y} settles still =
    let met = settles.meets in
    let went = settles.client_went.went in
    let manager_went = settles.manager_went.went in
    let x' = settles.client in
    let y' = settles.manager in
    let a : BringsAllDue rules_a t.a x.a (asked y.history) =
    subst (λ q. BringsAllDue rules_a t.a x.a (asked q.history)) manager_went
    (subst (λ q. BringsAllDue rules_a t.a q.a (asked y'.history)) went (brings_all rules_a s.a t.a x'.a (asked y'.history) met.a still.a)) in
    let b : BringsAllDue rules_b s.b y.b x.b =
    subst (λ q. BringsAllDue rules_b s.b q.b x.b) manager_went
    (subst (λ q. BringsAllDue rules_b s.b y'.b q.b) went (brings_all rules_b t.b s.b y'.b x'.b met.b still.b)) in
    let c : BringsAllDue rules_c t.c x.c y.c =
    subst (λ q. BringsAllDue rules_c t.c x.c q.c) manager_went
    (subst (λ q. BringsAllDue rules_c t.c q.c y'.c) went (brings_all rules_c s.c t.c x'.c y'.c met.c still.c)) in
    let d : BringsAllDue rules_d s.d y.d (answered x.history) =
    subst (λ q. BringsAllDue rules_d s.d q.d (answered x.history)) manager_went
    (subst (λ q. BringsAllDue rules_d s.d y'.d (answered q.history)) went
    (brings_all rules_d t.d s.d y'.d (answered x'.history) met.d still.d)) in
    let e : BringsAllDue rules_e t.e x.e y.e =
    subst (λ q. BringsAllDue rules_e t.e x.e q.e) manager_went
    (subst (λ q. BringsAllDue rules_e t.e q.e y'.e) went (brings_all rules_e s.e t.e x'.e y'.e met.e still.e)) in
    record {
      a = a;
      b = b;
      c = c;
      d = d;
      e = e;
      all = λ none. record {
        a = all_taken (asked y.history) t.a.inbox (due rules_a CLIENT MANAGER x.a.accepted x.a.homes) a none.a;
        b = all_taken x.b s.b.inbox (due rules_b MANAGER CLIENT y.b.accepted y.b.homes) b none.b;
        c = all_taken y.c t.c.inbox (due rules_c CLIENT MANAGER x.c.accepted x.c.homes) c none.c;
        d = all_taken (answered x.history) s.d.inbox (due rules_d MANAGER CLIENT y.d.accepted y.d.homes) d none.d;
        e = all_taken y.e t.e.inbox (due rules_e CLIENT MANAGER x.e.accepted x.e.homes) e none.e;
      };
    }
