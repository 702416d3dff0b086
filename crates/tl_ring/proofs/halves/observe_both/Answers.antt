use Rattle.tl_ring.proofs.Names.{◌∙◌}
use Rattle.tl_ring.proofs.EndSteps.{producer_twice, consumer_twice, all_places}
use Rattle.tl_ring.proofs.halves.observe_both.Goals as goal

pub returns : goal.returns
returns g c =
    let one = c.slots_beside in
    let two = c.slots_beside-2 in
    record {
      producer = producer_twice c.args.producer.now one.new.self two.new.producer one.ensures.looked two.ensures.producer;
      consumer = consumer_twice c.args.consumer.now.end one.new.consumer.end two.new.self.end one.ensures.consumer two.ensures.looked;
      clock = two.ensures.clock ∙ one.ensures.clock;
      count = two.ensures.value;
      fifo = two.ensures.fifo;
      places = all_places c.args.producer.now one.new.self two.new.producer one.new.consumer.end two.new.self.end one.result two.result
          one.ensures.looked one.ensures.value one.ensures.all_free two.ensures.looked two.ensures.producer two.ensures.value two.ensures.fifo;
    }
