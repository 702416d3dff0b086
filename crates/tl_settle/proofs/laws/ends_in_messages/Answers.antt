use Rattle.tl_settle.proofs.Names.{width_bounds}
use Rattle.tl_settle.proofs.EndsSettled.{script_ends}
use Rattle.tl_settle.proofs.laws.ends_in_messages.Goals as goal

pub returns : goal.returns
returns g c =
    script_ends (width_bounds g.row.C c.requires.client).0 (width_bounds g.row.M c.requires.manager).0
    c.one_channel.ensures c.one_channel-2.ensures c.one_channel-3.ensures c.one_channel-4.ensures c.one_channel-5.ensures c.links_obey.ensures
