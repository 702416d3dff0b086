use Rattle.std.proofs.Common.{sym, ◌∙◌}
use Rattle.tl_settle.proofs.Entries.{ends_open}
use Rattle.tl_settle.proofs.Kept.{kept_open}
use Rattle.tl_settle.proofs.books.note_response.Goals.{else-first-via-then-first+else-not-is_release_ack, else-first-via-else-first}
use Rattle.tl_settle.proofs.books.note_response.Goals as goal

pub returns-then-not-is_release_ack : goal.returns-then-not-is_release_ack
returns-then-not-is_release_ack g c = λ ms h.
    let other = sym c.is_release_ack.ensures ∙ c.if-not-is_release_ack.true in
    rw c.if-first.true (ends_open _ _ ms c.args.head.now other h c.end.ensures)

pub returns-else-first : goal.returns-else-first
returns-else-first g c = λ ms h.
    kept_open c.args.first _ ms c.args.head.now
    (λ first. elim c.else-first.branch [
      | else-first-via-then-first+else-not-is_release_ack w ↦ sym w.is_release_ack.ensures ∙ w.if-not-is_release_ack.false
      | else-first-via-else-first w ↦ absurd (cc (first, w.if-first.false))
    ]) h
