use Rattle.tl_run.proofs.Names.{◌≡◌, ◌+◌, ◌≤◌, ◌++◌, ℕ, List, Result, Ok, Err, OnOk, refl, length, length-append, subst}
use Rattle.tl_run.proofs.Names.{ap, arith, beat_small, Beats, joined, beats_of}
use Rattle.tl_run.proofs.AllOk.{five_ok, five-are-ok}
use Rattle.tl_run.proofs.Rooms.{same-beats}
use Rattle.tl_run.proofs.taken.ScriptFarSink.take.Goals as goal

pub append-a-requires-room-B-Clone : goal.append-a-requires-room-B-Clone
append-a-requires-room-B-Clone g c κs = beat_small g.row.M c.requires.manager

pub append-b-requires-room-B-Clone : goal.append-b-requires-room-B-Clone
append-b-requires-room-B-Clone g c κs = beat_small g.row.C c.requires.client

pub append-c-requires-room-B-Clone : goal.append-c-requires-room-B-Clone
append-c-requires-room-B-Clone g c κs = beat_small g.row.M c.requires.manager

pub append-d-requires-room-B-Clone : goal.append-d-requires-room-B-Clone
append-d-requires-room-B-Clone g c κs = beat_small g.row.C c.requires.client

pub append-e-requires-room-B-Clone : goal.append-e-requires-room-B-Clone
append-e-requires-room-B-Clone g c κs = beat_small g.row.M c.requires.manager

-- each list has these beats behind those that it had
all-appended : {C M : ℕ} (far old new more : Beats M C) → old ≡ far → new.a ≡ old.a ++ more.a → new.b ≡ old.b ++ more.b → new.c ≡ old.c ++ more.c →
    new.d ≡ old.d ++ more.d → new.e ≡ old.e ++ more.e → new ≡ joined far more
all-appended far old new more same a b c d e =
    subst (λ q. new ≡ joined q more) same (same-beats new (joined old more) a b c d e)

pub returns-clause-far : goal.returns-clause-far
returns-clause-far g c = λ far h.
    five_ok c.append-a.result c.append-b.result c.append-c.result c.append-d.result c.append-e.result
    c.and.result c.and-2.result c.and-3.result c.and-4.result c.and.ensures c.and-2.ensures c.and-3.ensures c.and-4.ensures
    (all-appended far (beats_of c.args.self.now)
    (record {
      a = c.append-a.new.list.items;
      b = c.append-b.new.list.items;
      c = c.append-c.new.list.items;
      d = c.append-d.new.list.items;
      e = c.append-e.new.list.items;
    })
    (record { a = c.args.a.now; b = c.args.b.now; c = c.args.c.now; d = c.args.d.now; e = c.args.e.now }) h)
    c.append-a.ensures.items c.append-b.ensures.items c.append-c.ensures.items c.append-d.ensures.items c.append-e.ensures.items

-- what a list was made with is no matter
same-ok : {X E : Type 0} (r : Result X E) (n : ℕ) → OnOk r (n ≡ n)
same-ok (Ok x) n = refl
same-ok (Err e) n = tt

pub returns-clause-same : goal.returns-clause-same
returns-clause-same g c = same-ok c.and-4.result 0

-- a list whose beats, with those that come, are not too many has places for those that come
places : {B : Type 0} (xs ys zs : List B) (len : ℕ) {room capacity : ℕ} → len ≡ length xs → xs ≡ zs → length (zs ++ ys) ≤ room →
    room ≤ capacity → len + length ys ≤ capacity
places xs ys zs len e f l m =
    let sum = length-append zs ys in
    let same : length xs ≡ length zs = ap length f in
    omega (arith, e, same, sum, l, m)

-- room enough is so in a list that has more of it
enough : {n room capacity : ℕ} → n ≤ room → room ≤ capacity → n ≤ capacity
enough f g = omega (arith, f, g)

pub returns-clause-room : goal.returns-clause-room
returns-clause-room g c = λ far room h has fit.
    let t = c.args.self.now in (
      five-are-ok c.append-a.result c.append-b.result c.append-c.result c.append-d.result c.append-e.result
          c.and.result c.and-2.result c.and-3.result c.and-4.result c.and.ensures c.and-2.ensures c.and-3.ensures c.and-4.ensures
          (c.append-a.ensures.room (places t.a.items c.args.a.now far.a t.a.len t.a.ok.0 (ap (λ q. q.a) h) fit.a has.a))
          (c.append-b.ensures.room (places t.b.items c.args.b.now far.b t.b.len t.b.ok.0 (ap (λ q. q.b) h) fit.b has.b))
          (c.append-c.ensures.room (places t.c.items c.args.c.now far.c t.c.len t.c.ok.0 (ap (λ q. q.c) h) fit.c has.c))
          (c.append-d.ensures.room (places t.d.items c.args.d.now far.d t.d.len t.d.ok.0 (ap (λ q. q.d) h) fit.d has.d))
          (c.append-e.ensures.room (places t.e.items c.args.e.now far.e t.e.len t.e.ok.0 (ap (λ q. q.e) h) fit.e has.e)),
      record {
        a = enough has.a c.append-a.ensures.capacity;
        b = enough has.b c.append-b.ensures.capacity;
        c = enough has.c c.append-c.ensures.capacity;
        d = enough has.d c.append-d.ensures.capacity;
        e = enough has.e c.append-e.ensures.capacity;
      },
    )
