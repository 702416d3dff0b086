use Rattle.tl_convert.proofs.count.far_beats_at.Goals as goal

pub far_beats_between-requires-clause-near : goal.far_beats_between-requires-clause-near
far_beats_between-requires-clause-near g c = c.requires.near

pub far_beats_between-requires-clause-far : goal.far_beats_between-requires-clause-far
far_beats_between-requires-clause-far g c = c.requires.far

pub far_beats_between-requires-clause-small : goal.far_beats_between-requires-clause-small
far_beats_between-requires-clause-small g c = c.requires.small

pub returns-clause-gives : goal.returns-clause-gives
returns-clause-gives g c = c.far_beats_between.ensures.gives

pub returns-clause-few : goal.returns-clause-few
returns-clause-few g c = c.far_beats_between.ensures.few
