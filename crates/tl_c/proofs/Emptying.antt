-- Beats of an inbox that are taken one by one into an array.
use Rattle.std.specs.Prelude.{ℕ, Option, None, Some, List, [], ◌∷◌, ◌++◌, length, map, take, drop, slice_get, All}
use Rattle.std.proofs.Common.{◌≡◌, ◌+◌, ◌≤◌, ◌<◌, refl, sym, ap, ◌∙◌, subst, arith, set, append-nil, append_assoc}
use Rattle.std.proofs.lemmas.List.{map-append, length-drop, length-set, drop-drop, drop-set-lt, take_more_set, take_all, drop_all}
use Rattle.std.proofs.lemmas.List.Elements.{All-nil, All-push}
use Rattle.std.proofs.lemmas.Option.{none-some, slice_get_within}
use Rattle.std.proofs.Math.Seq.{take-add}
use Rattle.std.specs.Global.{Global}
use Rattle.tl_msg.specs.Faults.{IsLawfulBeat}
use Rattle.tl_msg.specs.declared.beat.BeatOf.{BeatOf}
use Rattle.tl_msg.specs.declared.head.HeadA.{HeadA}
use Rattle.tl_msg.specs.declared.head.HeadB.{HeadB}
use Rattle.tl_msg.specs.declared.head.HeadC.{HeadC}
use Rattle.tl_msg.specs.declared.head.HeadD.{HeadD}
use Rattle.tl_msg.specs.declared.head.HeadE.{HeadE}
use Rattle.tl_settle.specs.Histories.{Ask, Answer}
use Rattle.tl_sides.specs.Calls.{TakingChannel, TakesBeat}
use Rattle.tl_sides.specs.Sides.{ClientState, ManagerState, ClientPast, ManagerPast}
use Rattle.tl_sides.specs.Sides.{client_takes_b, client_takes_d, manager_takes_a, manager_takes_c, manager_takes_e}
use Rattle.tl_c.specs.declared.widths.TheConstants.{CLIENT, MANAGER}
use Rattle.tl_c.specs.Calls.{takes_a, takes_b, takes_c, takes_d, takes_e}
use Rattle.tl_c.specs.Inboxes.{TakesBeats, left_a, left_b, left_c, left_d, left_e}

-- a channel that a side takes: how its past grows, and what each take leaves
pub record Taker (R P H : Type 0) (w : ℕ) : Type 1 where
  pub k : TakingChannel R P H w
  pub after : List (BeatOf H w) → P → P
  pub left : List (BeatOf H w) → R → R → Type 0
  pub after_none : (x : P) → after [] x ≡ x
  pub after_both : (bs cs : List (BeatOf H w)) (x : P) → after cs (after bs x) ≡ after (bs ++ cs) x
  pub after_one : (s : R) (x : P) → k.after_take s x ≡ after (take 1 (k.inbox s)) x
  pub left_all : (s : R) → left (k.inbox s) s s
  pub left_less : (bs : List (BeatOf H w)) (s t u : R) → left bs s t → k.Keeps t u → left (drop 1 bs) s u
  pub inbox : (bs : List (BeatOf H w)) (s t : R) → left bs s t → k.inbox t ≡ bs

first_is : {X : Type 0} (xs : List X) (x : X) → Some x ≡ slice_get xs 0 → take 1 xs ≡ x ∷ []
first_is [] x e = absurd (none-some x (sym e))
first_is (y ∷ ys) x e = let f : x ≡ y = cc in ap (λ z. z ∷ []) (sym f)

first_none : {X : Type 0} (xs : List X) → None ≡ slice_get xs 0 → length xs ≡ 0
first_none [] e = refl
first_none (y ∷ ys) e = absurd (none-some y e)

module _ {R P H B : Type 0} {w : ℕ} (X : Taker R P H w) (written_of : BeatOf H w → B) where
  -- the first n beats of the inbox of s were taken, which left t
  pub record Filling (s t : R) (unwritten written : List B) (n : ℕ) : Type 0 where
    pub within : n ≤ length (X.k.inbox s)
    pub placed : n ≤ length written
    pub taken : (x : P) → X.k.Stands s x → X.k.Stands t (X.after (take n (X.k.inbox s)) x)
    pub told : take n written ≡ map written_of (take n (X.k.inbox s))
    pub lawful : All (λ beat. IsLawfulBeat X.k.rules beat) (take n (X.k.inbox s))
    pub rest : drop n written ≡ drop n unwritten
    pub left : X.left (drop n (X.k.inbox s)) s t
    pub length : length written ≡ length unwritten

  pub filling_none : (s : R) (unwritten : List B) → Filling s s unwritten unwritten 0
  filling_none s unwritten = record {
    within = omega arith;
    placed = omega arith;
    taken = λ x h. subst (λ y. X.k.Stands s y) (sym (X.after_none x)) h;
    told = refl;
    lawful = All-nil (λ beat. IsLawfulBeat X.k.rules beat);
    rest = refl;
    left = X.left_all s;
    length = refl;
  }

  module _ {s t : R} {unwritten written : List B} {n : ℕ} (so_far : Filling s t unwritten written n) where
    next : {u : R} {answer : Option (BeatOf H w)} → TakesBeat X.k t answer u → answer ≡ slice_get (drop n (X.k.inbox s)) 0
    next takes = takes.beat ∙ ap (λ q. slice_get q 0) (X.inbox (drop n (X.k.inbox s)) s t so_far.left)

    left_more : {u : R} {answer : Option (BeatOf H w)} → TakesBeat X.k t answer u → X.left (drop (n + 1) (X.k.inbox s)) s u
    left_more {u} takes =
        subst (λ q. X.left q s u) (drop-drop 1 n (X.k.inbox s)) (X.left_less (drop n (X.k.inbox s)) s t u so_far.left takes.rest)

    taken_more : {u : R} {answer : Option (BeatOf H w)} → TakesBeat X.k t answer u → (x : P) → X.k.Stands s x →
        X.k.Stands u (X.after (take (n + 1) (X.k.inbox s)) x)
    taken_more {u} takes x h =
        let all = X.k.inbox s in
        let y = X.after (take n all) x in
        subst (λ z. X.k.Stands u z)
        (X.after_one t y ∙ ap (λ q. X.after (take 1 q) y) (X.inbox (drop n all) s t so_far.left) ∙ X.after_both (take n all) (take 1 (drop n all)) x ∙
        ap (λ q. X.after q x) (sym (take-add n 1 all)))
        (takes.taken y (so_far.taken x h))

    -- a beat was taken, and written
    pub filling_more : {u : R} (far : BeatOf H w) → n < length written → TakesBeat X.k t (Some far) u →
        Filling s u unwritten (set written n (written_of far)) (n + 1)
    filling_more far inside takes =
        let all = X.k.inbox s in
        let is = next takes in
        let first = first_is (drop n all) far is in
        let more : take (n + 1) all ≡ take n all ++ far ∷ [] = take-add n 1 all ∙ ap (λ q. take n all ++ q) first in
        let there = slice_get_within (drop n all) 0 far (sym is) in
        let count = length-drop n all in
        record {
          within = omega (arith, there, count);
          placed = let same = length-set written n (written_of far) in omega (arith, inside, same);
          taken = taken_more takes;
          told = take_more_set written n (written_of far) inside ∙ ap (λ q. q ++ written_of far ∷ []) so_far.told ∙
              sym (ap (map written_of) more ∙ map-append written_of (take n all) (far ∷ []));
          lawful = subst (All (λ beat. IsLawfulBeat X.k.rules beat)) (sym more)
              (All-push (λ beat. IsLawfulBeat X.k.rules beat) (take n all) far so_far.lawful takes.lawful);
          rest = drop-set-lt (n + 1) written n (written_of far) (omega arith) ∙ sym (drop-drop 1 n written) ∙ ap (drop 1) so_far.rest ∙
              drop-drop 1 n unwritten;
          left = left_more takes;
          length = length-set written n (written_of far) ∙ so_far.length;
        }

    -- the inbox is empty
    pub filled_none : {u : R} → n < length written → TakesBeat X.k t None u → TakesBeats X.k X.after X.left written_of s u unwritten written n
    filled_none {u} inside takes =
        let all = X.k.inbox s in
        let none = first_none (drop n all) (next takes) in
        let count = length-drop n all in
        let within = so_far.within in
        let same = so_far.length in
        let end : length all ≤ n = omega (arith, none, count) in
        let one : length all ≤ n + 1 = omega (arith, none, count) in
        let same_take : take (n + 1) all ≡ take n all = take_all (n + 1) all one ∙ sym (take_all n all end) in
        let same_drop : drop (n + 1) all ≡ drop n all = drop_all (n + 1) all one ∙ sym (drop_all n all end) in
        record {
          count = omega (arith, within, end, inside, same);
          taken = λ x h. subst (λ q. X.k.Stands u (X.after q x)) same_take (taken_more takes x h);
          told = so_far.told;
          lawful = so_far.lawful;
          rest = so_far.rest;
          kept = subst (λ q. X.left q s u) same_drop (left_more takes);
        }

  -- the array is full
  pub filled : {s t : R} {unwritten written : List B} {n : ℕ} → Filling s t unwritten written n → length written ≤ n →
      TakesBeats X.k X.after X.left written_of s t unwritten written (length written)
  filled {s} {t} {unwritten} {written} {n} so_far full =
      let within = so_far.within in
      let placed = so_far.placed in
      let same = so_far.length in
      let is : n ≡ length written = omega (arith, full, placed) in
      subst (λ m. TakesBeats X.k X.after X.left written_of s t unwritten written m) is (record {
        count = omega (arith, within, is, same);
        taken = so_far.taken;
        told = so_far.told;
        lawful = so_far.lawful;
        rest = so_far.rest;
        kept = so_far.left;
      })

-- a history, and the taken beats of a channel, grow
module _ {H : Type 0} {w : ℕ} {E : Type 0} (event : BeatOf H w → E) where
  pub history_both : (es : List E) (bs cs : List (BeatOf H w)) → es ++ map event bs ++ map event cs ≡ es ++ map event (bs ++ cs)
  history_both es bs cs = append_assoc es (map event bs) (map event cs) ∙ ap (λ q. es ++ q) (sym (map-append event bs cs))

abbrev pub taker_a : Taker (ManagerState Global CLIENT MANAGER) (ManagerPast CLIENT MANAGER) HeadA MANAGER
taker_a = record {
  k = takes_a;
  after = manager_takes_a;
  left = left_a;
  after_none = λ x i. record x { history = append-nil x.history i };
  after_both = λ bs cs x i. record x { history = history_both Ask x.history bs cs i };
  after_one = λ s x. refl;
  left_all = λ s. refl;
  left_less = λ bs s t u e f. f ∙ ap (λ (q : ManagerState Global CLIENT MANAGER). record q { a = record q.a { inbox = drop 1 q.a.inbox }; book = u.book }) e;
  inbox = λ bs s t e. ap (λ q. q.a.inbox) e;
}

abbrev pub taker_b : Taker (ClientState Global CLIENT MANAGER) (ClientPast CLIENT MANAGER) HeadB CLIENT
taker_b = record {
  k = takes_b;
  after = client_takes_b;
  left = left_b;
  after_none = λ x i. record x { b = append-nil x.b i };
  after_both = λ bs cs x i. record x { b = append_assoc x.b bs cs i };
  after_one = λ s x. refl;
  left_all = λ s. refl;
  left_less = λ bs s t u e f. f ∙ ap (λ (q : ClientState Global CLIENT MANAGER). record q { b = record q.b { inbox = drop 1 q.b.inbox } }) e;
  inbox = λ bs s t e. ap (λ q. q.b.inbox) e;
}

abbrev pub taker_c : Taker (ManagerState Global CLIENT MANAGER) (ManagerPast CLIENT MANAGER) HeadC MANAGER
taker_c = record {
  k = takes_c;
  after = manager_takes_c;
  left = left_c;
  after_none = λ x i. record x { c = append-nil x.c i };
  after_both = λ bs cs x i. record x { c = append_assoc x.c bs cs i };
  after_one = λ s x. refl;
  left_all = λ s. refl;
  left_less = λ bs s t u e f. f ∙ ap (λ (q : ManagerState Global CLIENT MANAGER). record q { c = record q.c { inbox = drop 1 q.c.inbox } }) e;
  inbox = λ bs s t e. ap (λ q. q.c.inbox) e;
}

abbrev pub taker_d : Taker (ClientState Global CLIENT MANAGER) (ClientPast CLIENT MANAGER) HeadD CLIENT
taker_d = record {
  k = takes_d;
  after = client_takes_d;
  left = left_d;
  after_none = λ x i. record x { history = append-nil x.history i };
  after_both = λ bs cs x i. record x { history = history_both Answer x.history bs cs i };
  after_one = λ s x. refl;
  left_all = λ s. refl;
  left_less = λ bs s t u e f. f ∙ ap (λ (q : ClientState Global CLIENT MANAGER). record q { d = record q.d { inbox = drop 1 q.d.inbox }; book = u.book }) e;
  inbox = λ bs s t e. ap (λ q. q.d.inbox) e;
}

abbrev pub taker_e : Taker (ManagerState Global CLIENT MANAGER) (ManagerPast CLIENT MANAGER) HeadE MANAGER
taker_e = record {
  k = takes_e;
  after = manager_takes_e;
  left = left_e;
  after_none = λ x i. record x { e = append-nil x.e i };
  after_both = λ bs cs x i. record x { e = append_assoc x.e bs cs i };
  after_one = λ s x. refl;
  left_all = λ s. refl;
  left_less = λ bs s t u e f. f ∙ ap (λ (q : ManagerState Global CLIENT MANAGER). record q { e = record q.e { inbox = drop 1 q.e.inbox } }) e;
  inbox = λ bs s t e. ap (λ q. q.e.inbox) e;
}
