use Rattle.std.proofs.Common.{◌≡◌, ◌+◌, ◌-◌, ◌≤◌, ℕ, List, length, drop, sym, subst, ap, ◌∙◌, arith}
use Rattle.std.proofs.lemmas.List.{length-drop}
use Rattle.tl_parts.proofs.Parts.{left-waiting}
use Rattle.tl_parts.specs.Parts.{IsBetween, going}
use Rattle.tl_parts.proofs.leaving.count_discardable.Goals as goal

-- no more go than are held
few : {n count discarded after at : ℕ} → IsBetween discarded at n → after ≡ discarded + count → after ≤ at → count ≤ n
few between e past = omega (arith, between.to, e, past)

-- what is held then lies behind those that have discarded then
behind : {B : Type 0} (held rest : List B) (count : ℕ) {discarded after at : ℕ} → rest ≡ drop count held → IsBetween discarded at (length held) →
    after ≡ discarded + count → after ≤ at → IsBetween after at (length rest)
behind held rest count goes between e past =
    let left = ap length goes ∙ length-drop count held in
    record { from = past; to = omega (arith, left, between.to, e, past); few = omega (arith, left, between.to, between.few, e, past) }

pub leaving-requires : goal.leaving-requires
leaving-requires g c = subst (λ n. IsBetween c.args.discarded.now.a c.args.at.now.a n) (sym (c.len.ensures ∙ c.args.held.now.a.ok.0)) c.requires.a

pub leaving-requires-2 : goal.leaving-requires-2
leaving-requires-2 g c = subst (λ n. IsBetween c.args.discarded.now.b c.args.at.now.b n) (sym (c.len-2.ensures ∙ c.args.held.now.b.ok.0)) c.requires.b

pub leaving-requires-3 : goal.leaving-requires-3
leaving-requires-3 g c = subst (λ n. IsBetween c.args.discarded.now.c c.args.at.now.c n) (sym (c.len-3.ensures ∙ c.args.held.now.c.ok.0)) c.requires.c

pub leaving-requires-4 : goal.leaving-requires-4
leaving-requires-4 g c = subst (λ n. IsBetween c.args.discarded.now.d c.args.at.now.d n) (sym (c.len-4.ensures ∙ c.args.held.now.d.ok.0)) c.requires.d

pub leaving-requires-5 : goal.leaving-requires-5
leaving-requires-5 g c = subst (λ n. IsBetween c.args.discarded.now.e c.args.at.now.e n) (sym (c.len-5.ensures ∙ c.args.held.now.e.ok.0)) c.requires.e

pub returns : goal.returns
returns g c =
    let a = c.leaving.ensures in
    let b = c.leaving-2.ensures in
    let c' = c.leaving-3.ensures in
    let d = c.leaving-4.ensures in
    let e = c.leaving-5.ensures in
    let held = c.args.held.now in
    let discarded = c.args.discarded.now in
    let at = c.args.at.now in
    let is = c.requires in
    record {
      counts = record {
        a = few is.a a.counted a.past;
        b = few is.b b.counted b.past;
        c = few is.c c'.counted c'.past;
        d = few is.d d.counted d.past;
        e = few is.e e.counted e.past;
      };
      going = record {
        a = subst (λ n. c.leaving.result ≡ going (at.a - discarded.a) n) (c.len.ensures ∙ held.a.ok.0) a.all;
        b = subst (λ n. c.leaving-2.result ≡ going (at.b - discarded.b) n) (c.len-2.ensures ∙ held.b.ok.0) b.all;
        c = subst (λ n. c.leaving-3.result ≡ going (at.c - discarded.c) n) (c.len-3.ensures ∙ held.c.ok.0) c'.all;
        d = subst (λ n. c.leaving-4.result ≡ going (at.d - discarded.d) n) (c.len-4.ensures ∙ held.d.ok.0) d.all;
        e = subst (λ n. c.leaving-5.result ≡ going (at.e - discarded.e) n) (c.len-5.ensures ∙ held.e.ok.0) e.all;
      };
      discarded = record { a = a.counted; b = b.counted; c = c'.counted; d = d.counted; e = e.counted };
      rest = λ rest goes. record {
        a = behind held.a.items rest.a.items c.leaving.result goes.a is.a a.counted a.past;
        b = behind held.b.items rest.b.items c.leaving-2.result goes.b is.b b.counted b.past;
        c = behind held.c.items rest.c.items c.leaving-3.result goes.c is.c c'.counted c'.past;
        d = behind held.d.items rest.d.items c.leaving-4.result goes.d is.d d.counted d.past;
        e = behind held.e.items rest.e.items c.leaving-5.result goes.e is.e e.counted e.past;
      };
      waiting = λ rest goes. record {
        a = left-waiting is.a (subst (λ n. c.leaving.result ≡ going (at.a - discarded.a) n) (c.len.ensures ∙ held.a.ok.0) a.all) a.counted
            (ap length goes.a ∙ length-drop c.leaving.result held.a.items);
        b = left-waiting is.b (subst (λ n. c.leaving-2.result ≡ going (at.b - discarded.b) n) (c.len-2.ensures ∙ held.b.ok.0) b.all) b.counted
            (ap length goes.b ∙ length-drop c.leaving-2.result held.b.items);
        c = left-waiting is.c (subst (λ n. c.leaving-3.result ≡ going (at.c - discarded.c) n) (c.len-3.ensures ∙ held.c.ok.0) c'.all) c'.counted
            (ap length goes.c ∙ length-drop c.leaving-3.result held.c.items);
        d = left-waiting is.d (subst (λ n. c.leaving-4.result ≡ going (at.d - discarded.d) n) (c.len-4.ensures ∙ held.d.ok.0) d.all) d.counted
            (ap length goes.d ∙ length-drop c.leaving-4.result held.d.items);
        e = left-waiting is.e (subst (λ n. c.leaving-5.result ≡ going (at.e - discarded.e) n) (c.len-5.ensures ∙ held.e.ok.0) e.all) e.counted
            (ap length goes.e ∙ length-drop c.leaving-5.result held.e.items);
      };
    }
