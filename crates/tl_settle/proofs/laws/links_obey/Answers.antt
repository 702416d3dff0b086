use Rattle.tl_settle.proofs.WholeRuns.{links_obey}
use Rattle.tl_settle.proofs.laws.links_obey.Goals as goal

pub returns : goal.returns
returns g c =
    links_obey c.requires.client c.requires.manager c.one_channel.ensures c.one_channel-2.ensures c.one_channel-3.ensures c.one_channel-4.ensures
    c.one_channel-5.ensures c.due_has_no_faults.ensures c.due_has_no_faults-2.ensures c.due_has_no_faults-3.ensures
