use Rattle.tl_settle.proofs.Names.{rules_a, rules_d}
use Rattle.tl_convert.proofs.Accepting.{each_beat}
use Rattle.tl_settle.proofs.RunsObey.{beats_obey}
use Rattle.tl_settle.proofs.laws.every_run_obeys.Goals as goal

pub returns : goal.returns
returns g c a d all_a all_d i j client manager run =
    let on_a = c.one_channel.ensures in
    let on_d = c.one_channel-2.ensures in
    beats_obey c.requires.client c.requires.manager a d on_a on_d (each_beat rules_a on_a.exact a all_a) (each_beat rules_d on_d.exact d all_d) run
