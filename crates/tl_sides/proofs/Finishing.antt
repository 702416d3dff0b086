-- The facts that receipts show about the channels of a side.
use Rattle.std.proofs.Common.{◌≡◌, ◌↔◌, ◌&&◌, ℕ, Bool, true, Option, None, Some, List, [], refl, subst}
use Rattle.std.specs.Prelude.{IsTrue, IfSome}
use Rattle.std.proofs.lemmas.Bool.{and_parts}
use Rattle.tl_ring.specs.Ends.{Ended, LookedAfter, Shows, Shown}
use Rattle.tl_sides.proofs.Words.{Rules, rules_a, rules_b, rules_c, rules_d, rules_e, ChA, ChB, ChC, ChD, ChE, HeadA, HeadB, HeadC, HeadD, HeadE}
use Rattle.tl_sides.proofs.Words.{BeatOf, World, Taking, Takes, known_items, asked, answered}
use Rattle.tl_settle.specs.Clocks.{client_way, manager_way}
use Rattle.tl_sides.proofs.Times.{same_time}
use Rattle.tl_sides.specs.Ends.{IsIdle}
use Rattle.tl_sides.specs.Sides.{ClientState, ManagerState, ClientPast, ManagerPast, ClientStandsFor, ManagerStandsFor}
use Rattle.tl_sides.specs.Receipts.{ShowsClient, ShowsManager, ClientIsShown, ManagerIsShown}
use Rattle.tl_sides.specs.declared.receipts.ClientReceipt.{ClientReceipt}
use Rattle.tl_sides.specs.declared.receipts.ManagerReceipt.{ManagerReceipt}

-- two results together, and three
pub both : (x y : Bool) {P Q : Type 0} → (IsTrue x ↔ P) → (IsTrue y ↔ Q) → IsTrue (x && y) ↔ (P × Q)
both x y p q = (
  λ all. (let each = and_parts x y all in (p.0 each.0, q.0 each.1)),
  λ (h, k). (let first : x ≡ true = p.1 h in let second : y ≡ true = q.1 k in rw (first, second) refl),
)

pub all_three : (x y z : Bool) {P Q R : Type 0} → (IsTrue x ↔ P) → (IsTrue y ↔ Q) → (IsTrue z ↔ R) → IsTrue ((x && y) && z) ↔ (P × Q × R)
all_three x y z p q r = (
  λ all. (let front = and_parts (x && y) z all in let each = and_parts x y front.0 in (p.0 each.0, q.0 each.1, r.0 front.1)),
  λ (h, k, l). (let first : x ≡ true = p.1 h in let second : y ≡ true = q.1 k in let third : z ≡ true = r.1 l in rw (first, second, third) refl),
)

-- a property of a value that is there
pub some_weaker : {X : Type 0} (o : Option X) {P Q : X → Type 0} → ((x : X) → P x → Q x) → IfSome o P → IfSome o Q
some_weaker None f p = tt
some_weaker (Some x) f p = f x p

-- the facts that a look after the other end's receipt shows about a channel
abbrev pub DrainsEnd : {K A H : Type 0} (r : Rules H) (w : ℕ) {v : ℕ} (e e' : Ended K A H v) (t t' : Taking K A H v) (is_so : Bool) → Type 0
DrainsEnd {K} {A} {H} r w {v} e e' t t' is_so = record {
  looked : LookedAfter e t e' t';
  drained : IsTrue is_so ↔ ((t'.inbox ≡ []) × (known_items t' ≡ []));
  shown : (x : World H w v) (taken : List (BeatOf H v)) → Shows r e x → Takes t taken → Shown r e' t' x taken;
}

idle_of : {K A H : Type 0} {v : ℕ} (t : Taking K A H v) (is_so : Bool) → IsTrue is_so ↔ ((t.inbox ≡ []) × (known_items t ≡ [])) → IsTrue is_so ↔ IsIdle t
idle_of t is_so d = (λ all. (let each = d.0 all in (each.1, each.0)), λ (ring, inbox). d.1 (inbox, ring))

module _ {A : Type 0} {C M : ℕ} where
  abbrev pub ClientDrains : (r r' : ManagerReceipt C M A) (s s' : ClientState A C M) (is_so : Bool) → Type 0
  ClientDrains r r' s s' is_so = record {
    b : LookedAfter r.b s.b r'.b s'.b;
    d : LookedAfter r.d s.d r'.d s'.d;
    rest : s' ≡ record s { b = s'.b; d = s'.d };
    drained : IsTrue is_so ↔ (IsIdle s'.b × IsIdle s'.d);
    shown : (y : ManagerPast C M) (x : ClientPast C M) → ShowsManager r y → ClientStandsFor s x → ManagerIsShown r' s' y x;
  }

  pub client_drained : {inside s : ClientState A C M} → inside ≡ s → (r : ManagerReceipt C M A) (eb : Ended ChB A HeadB C) (ed : Ended ChD A HeadD C)
      (b : Taking ChB A HeadB C) (d : Taking ChD A HeadD C) (i j : Bool) → DrainsEnd rules_b M r.b eb inside.b b i →
      DrainsEnd rules_d M r.d ed inside.d d j → ClientDrains r (record { b = eb; d = ed }) s (record inside { b = b; d = d }) (i && j)
  client_drained {inside} view r eb ed b d i j on_b on_d =
      subst (λ s. ClientDrains r (record { b = eb; d = ed }) s (record inside { b = b; d = d }) (i && j)) view (record {
        b = on_b.looked;
        d = on_d.looked;
        rest = refl;
        drained = both i j (idle_of b i on_b.drained) (idle_of d j on_d.drained);
        shown = λ y x shows h.
            let at_b = on_b.shown y.b x.b shows.0 h.b in
            let at_d = on_d.shown y.d (answered x.history) shows.1 h.d in
            record {
              client = record {
                a = h.a;
                b = at_b.takes;
                c = h.c;
                d = at_d.takes;
                e = h.e;
                accepted = h.accepted;
                requests = h.requests;
                time = same_time client_way refl on_d.looked.same_received_times on_d.looked.same_clock h.time;
                book = h.book;
              };
              b = at_b;
              d = at_d;
            };
      })

  abbrev pub ManagerDrains : (r r' : ClientReceipt C M A) (s s' : ManagerState A C M) (is_so : Bool) → Type 0
  ManagerDrains r r' s s' is_so = record {
    a : LookedAfter r.a s.a r'.a s'.a;
    c : LookedAfter r.c s.c r'.c s'.c;
    e : LookedAfter r.e s.e r'.e s'.e;
    rest : s' ≡ record s { a = s'.a; c = s'.c; e = s'.e };
    drained : IsTrue is_so ↔ (IsIdle s'.a × IsIdle s'.c × IsIdle s'.e);
    shown : (x : ClientPast C M) (y : ManagerPast C M) → ShowsClient r x → ManagerStandsFor s y → ClientIsShown r' s' x y;
  }

  pub manager_drained : {inside s : ManagerState A C M} → inside ≡ s → (r : ClientReceipt C M A) (ea : Ended ChA A HeadA M)
      (ec : Ended ChC A HeadC M) (ee : Ended ChE A HeadE M) (a : Taking ChA A HeadA M) (c : Taking ChC A HeadC M) (e : Taking ChE A HeadE M)
      (i j k : Bool) → DrainsEnd rules_a C r.a ea inside.a a i → DrainsEnd rules_c C r.c ec inside.c c j →
      DrainsEnd rules_e C r.e ee inside.e e k →
      ManagerDrains r (record { a = ea; c = ec; e = ee }) s (record inside { a = a; c = c; e = e }) ((i && j) && k)
  manager_drained {inside} view r ea ec ee a c e i j k on_a on_c on_e =
      subst (λ s. ManagerDrains r (record { a = ea; c = ec; e = ee }) s (record inside { a = a; c = c; e = e }) ((i && j) && k)) view (record {
        a = on_a.looked;
        c = on_c.looked;
        e = on_e.looked;
        rest = refl;
        drained = all_three i j k (idle_of a i on_a.drained) (idle_of c j on_c.drained) (idle_of e k on_e.drained);
        shown = λ x y shows h.
            let at_a = on_a.shown x.a (asked y.history) shows.0 h.a in
            let at_c = on_c.shown x.c y.c shows.1 h.c in
            let at_e = on_e.shown x.e y.e shows.2 h.e in
            record {
              manager = record {
                a = at_a.takes;
                b = h.b;
                c = at_c.takes;
                d = h.d;
                e = at_e.takes;
                accepted = h.accepted;
                homes = h.homes;
                responses = h.responses;
                time = same_time manager_way refl on_a.looked.same_received_times on_a.looked.same_clock h.time;
                book = h.book;
              };
              a = at_a;
              c = at_c;
              e = at_e;
            };
      })
