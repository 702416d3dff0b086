use Rattle.tl_stream.proofs.Names.{◌∙◌, arith, refl, sym}
use Rattle.tl_stream.proofs.ToRead.{all_read, smaller, used_up}
use Rattle.tl_stream.proofs.input.Input.drain.Goals as goal

pub loop-self-init : goal.loop-self-init
loop-self-init g c =
    let t = c.requires.taken.2 in
    record { from = t.from; to = t.to; few = t.few; room = omega (arith, t.room); some = c.requires.taken; taken = λ unread used h. (used, h) }

pub loop-self-smaller : goal.loop-self-smaller
loop-self-smaller g c =
    let i = c.loop-self.invariant in
    let next = c.in_default.ensures.ok i.some.0 _ (used_up i.some.0 (g.R.Read.remaining c.loop-self.reader) i.some.1 c.loop-self.self i.some.2) in
    smaller c.loop-self.self c.loop-self.self c.refill.new.self c.is_full.result refl refl refl c.is_full.ensures c.loop-self-test.true
    c.in_default.ensures.more
    (λ past. c.in_default.ensures.grown past (omega (arith, i.room))) next.few

pub loop-self-preserved : goal.loop-self-preserved
loop-self-preserved g c =
    let i = c.loop-self.invariant in
    let left = g.R.Read.remaining c.loop-self.reader in
    let next = c.in_default.ensures.ok i.some.0 _ (used_up i.some.0 left i.some.1 c.loop-self.self i.some.2) in
    record {
      from = next.from;
      to = next.to;
      few = next.few;
      room = omega (arith, next.room);
      some = (i.some.0, _, next);
      taken = λ unread used h. let t = i.taken unread used h in (_, c.in_default.ensures.ok unread _ (used_up unread left t.0 c.loop-self.self t.1));
    }

pub returns-in-Err-clause-long : goal.returns-in-Err-clause-long
returns-in-Err-clause-long g c unread used h e =
    let t = c.loop-self.invariant.taken unread used h in
    c.in-Err.ensures.long unread _ (used_up unread (g.R.Read.remaining c.loop-self.reader) t.0 c.loop-self.self t.1) e

pub returns-clause-ok : goal.returns-clause-ok
returns-clause-ok g c unread used h =
    let t = c.loop-self.invariant.taken unread used h in
    all_read unread (g.R.Read.remaining c.loop-self.reader) t.0 c.loop-self.self t.1 (sym c.is_full.ensures ∙ c.loop-self-test.false)

pub returns-clause-taken : goal.returns-clause-taken
returns-clause-taken g c unread used h = c.loop-self.invariant.taken unread used h
