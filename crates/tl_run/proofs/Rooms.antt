-- A list with room for all beats that a script can make due has room for those in the inboxes of its run.
use Rattle.tl_run.proofs.Names.{◌≡◌, [], refl, no_beats, ◌+◌, ◌++◌, ◌≤◌, ℕ, List, length, length-append, sym, subst, arith, vec_capacity, IsWidth}
use Rattle.tl_run.proofs.Names.{◌∙◌, ap, rules_a, rules_b, rules_c, rules_d, rules_e}
use Rattle.tl_run.proofs.Names.{Beats, Bridge, Past, StandsFor, PerChannel, Fit, joined, HaveRoom, IsUnderWay, IsAt, beats_of, inboxes}
use Rattle.tl_run.specs.Inner.Arriving.{HasRoomFor, HaveCapacity}
use Rattle.tl_trace.specs.declared.script.Script.{Script}
use Rattle.tl_run.proofs.ChannelEnd.{room-for}
use Rattle.tl_run.proofs.Round.{inboxes-are}

-- the beats of five channels are the same if those of each are
pub same-beats : {C M : ℕ} (x y : Beats C M) → x.a ≡ y.a → x.b ≡ y.b → x.c ≡ y.c → x.d ≡ y.d → x.e ≡ y.e → x ≡ y
same-beats x y a b c d e =
    ap (λ q. record { a = q; b = x.b; c = x.c; d = x.d; e = x.e }) a ∙ ap (λ q. record { a = y.a; b = q; c = x.c; d = x.d; e = x.e }) b ∙
    ap (λ q. record { a = y.a; b = y.b; c = q; d = x.d; e = x.e }) c ∙ ap (λ q. record { a = y.a; b = y.b; c = y.c; d = q; e = x.e }) d ∙
    ap (λ q. record { a = y.a; b = y.b; c = y.c; d = y.d; e = q }) e

-- lists without a beat are no beats
pub none-yet : {C M : ℕ} (t : Script M C) →
    t.a.items ≡ [] → t.b.items ≡ [] → t.c.items ≡ [] → t.d.items ≡ [] → t.e.items ≡ [] → beats_of t ≡ no_beats
none-yet t a b c d e = rw (a, b, c, d, e) refl

-- lists with the same beats are the same beats
pub same-lists : {C M : ℕ} (s t : Script M C) →
    t.a.items ≡ s.a.items → t.b.items ≡ s.b.items → t.c.items ≡ s.c.items → t.d.items ≡ s.d.items → t.e.items ≡ s.e.items →
    beats_of t ≡ beats_of s
same-lists s t a b c d e = rw (a, b, c, d, e) refl

fits : {B : Type 0} (xs ys : List B) {k : ℕ} → length xs + length ys ≤ k → length (xs ++ ys) ≤ k
fits xs ys {k = k} l = subst (λ q. q ≤ k) (sym (length-append xs ys)) l

pub inboxes-fit : {C M : ℕ} → IsWidth C → IsWidth M → (near : Beats C M) (n : PerChannel ℕ) (far : Beats M C) (s : Bridge C M) (x : Past C M) →
    StandsFor s x → IsAt near n far x →
    (room : PerChannel ℕ) → HaveRoom near room → Fit (joined far (inboxes s)) room
inboxes-fit cw mw near n far s x stands i room has =
    subst (λ q. Fit (joined far q) room) (sym (inboxes-are s x stands)) (record {
      a = fits far.a x.a.inbox (room-for rules_a cw mw near.a n.a far.a x.a i.a_sent stands.a.crosses room.a has.in_a);
      b = fits far.b x.b.inbox (room-for rules_b mw cw near.b n.b far.b x.b i.b_sent stands.b.crosses room.b has.in_b);
      c = fits far.c x.c.inbox (room-for rules_c cw mw near.c n.c far.c x.c i.c_sent stands.c.crosses room.c has.in_c);
      d = fits far.d x.d.inbox (room-for rules_d mw cw near.d n.d far.d x.d i.d_sent stands.d.crosses room.d has.in_d);
      e = fits far.e x.e.inbox (room-for rules_e cw mw near.e n.e far.e x.e i.e_sent stands.e.crosses room.e has.in_e);
    })

-- how many places the lists of a run have
abbrev pub places : {C M : ℕ} → Script M C → PerChannel ℕ
places t = record { a = vec_capacity t.a; b = vec_capacity t.b; c = vec_capacity t.c; d = vec_capacity t.d; e = vec_capacity t.e }

-- they have them
pub has-places : {C M : ℕ} (t : Script M C) → HaveCapacity t (places t)
has-places t = record { a = omega arith; b = omega arith; c = omega arith; d = omega arith; e = omega arith }

-- which are enough for the beats in the inboxes, and stay enough if there are more
pub lists-fit : {C M : ℕ} → IsWidth C → IsWidth M → (near : Beats C M) (n : PerChannel ℕ) (far : Script M C) (s : Bridge C M) →
    IsUnderWay near n (beats_of far) s → HasRoomFor near far →
    Fit (joined (beats_of far) (inboxes s)) (places far)
lists-fit cw mw near n far s u has = inboxes-fit cw mw near n (beats_of far) s u.past u.stands u.is_at (places far) has

pub more-room : {C M : ℕ} (near : Beats C M) (old new : Script M C) → HasRoomFor near old → HaveCapacity new (places old) → HasRoomFor near new
more-room near old new has more = record {
  in_a = λ homes. enough (has.in_a homes) more.a;
  in_b = λ homes. enough (has.in_b homes) more.b;
  in_c = λ homes. enough (has.in_c homes) more.c;
  in_d = λ homes. enough (has.in_d homes) more.d;
  in_e = λ homes. enough (has.in_e homes) more.e;
}
  where
    enough : {k l m : ℕ} → k ≤ l → l ≤ m → k ≤ m
    enough f g = omega arith
