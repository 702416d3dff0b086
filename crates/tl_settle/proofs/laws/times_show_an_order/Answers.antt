use Rattle.tl_settle.proofs.Timing.{time_goes_on, times_show_an_order}
use Rattle.tl_settle.specs.Clocks.{client_way, manager_way}
use Rattle.tl_settle.proofs.laws.times_show_an_order.Goals as goal

pub returns : goal.returns
returns start = record {
  client = λ c m. time_goes_on (client_way {C = c} {M = m});
  manager = λ c m. time_goes_on (manager_way {C = c} {M = m});
  order = λ c m. times_show_an_order {C = c} {M = m};
}
