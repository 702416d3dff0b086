use Rattle.std.proofs.Common.{rules, refl}
use Rattle.tl_sides.proofs.Words.{rules_a, Ask, asked}
use Rattle.tl_settle.specs.Books.{KnowsManager}
use Rattle.tl_sides.proofs.BoxSteps.{took_none, took_one}
use Rattle.tl_sides.proofs.BridgeSteps.{lawful_head}
use Rattle.tl_sides.proofs.Draining.{asked-all}
use Rattle.tl_sides.proofs.taking.take_request.Goals as goal

pub record_request-requires : goal.record_request-requires
record_request-requires g c = (search rules, (c.requires, lawful_head rules_a c.in-Some.beat c.in-Some.ensures.lawful))

pub returns-in-None : goal.returns-in-None
returns-in-None g c = took_none rules_a Ask asked KnowsManager asked-all c.args.inbox.now c.take.new.self c.args.book.now c.take.ensures.rest
    c.take.ensures.taken c.in-None.ensures.beat

pub returns-in-Some : goal.returns-in-Some
returns-in-Some g c = took_one rules_a Ask asked KnowsManager asked-all c.args.inbox.now c.take.new.self c.args.book.now c.take.ensures.rest
    c.take.ensures.taken c.in-Some.beat c.record_request.new.self c.in-Some.ensures.beat c.in-Some.ensures.lawful
    (λ es known. c.record_request.ensures es c.in-Some.beat known refl)
