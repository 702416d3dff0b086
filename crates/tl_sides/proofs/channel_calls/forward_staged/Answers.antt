use Rattle.std.proofs.Common.{sym, ◌∙◌}
use Rattle.tl_sides.proofs.Passing.{is_pumped, is_fetched, all_passed, rest_passed}
use Rattle.tl_sides.proofs.channel_calls.forward_staged.Goals as goal

pub pump-requires : goal.pump-requires
pump-requires g c = (c.requires-raw.1.1.1.1.1.0, c.requires-raw.1.1.1.1.1.1.0)

pub staged-requires : goal.staged-requires
staged-requires g c = c.requires-raw.1.1.1.1.1.0

pub fetch-requires : goal.fetch-requires
fetch-requires g c = (c.requires-raw.1.1.1.1.1.1.0, c.requires-raw.1.1.1.1.1.1.1)

pub pump-requires-2 : goal.pump-requires-2
pump-requires-2 g c = (c.requires-raw.1.1.1.1.1.0, c.requires-raw.1.1.1.1.1.1.0)

pub returns-then-staged-eq0 : goal.returns-then-staged-eq0
returns-then-staged-eq0 g c =
    let on = c.pump.ensures in
    all_passed _ _ (is_pumped _ _ c.args.inbox.now c.pump.result on.count on.outbox on.ring) (sym c.staged.ensures.count ∙ c.if-staged-eq0.true)

pub returns : goal.returns
returns g c =
    let on = c.pump.ensures in
    let out = c.fetch.ensures in
    let again = c.pump-2.ensures in
    rest_passed _ _ _ _ (is_pumped _ _ c.args.inbox.now c.pump.result on.count on.outbox on.ring)
    (is_fetched c.pump.new.outbox _ _ c.fetch.result out.count out.ring out.inbox)
    (is_pumped _ _ c.fetch.new.inbox c.pump-2.result again.count again.outbox again.ring)
    (λ none. c.if-staged-eq0.false (c.staged.ensures.count ∙ none))
