use Rattle.tl_trace.proofs.Writable.{lawful_a, lawful_b, lawful_c, lawful_d, lawful_e}
use Rattle.tl_trace.proofs.laws.lawful_beats_are_writable.Goals as goal

pub returns-clause-a : goal.returns-clause-a
returns-clause-a c = lawful_a

pub returns-clause-b : goal.returns-clause-b
returns-clause-b c = lawful_b

pub returns-clause-c : goal.returns-clause-c
returns-clause-c c = lawful_c

pub returns-clause-d : goal.returns-clause-d
returns-clause-d c = lawful_d

pub returns-clause-e : goal.returns-clause-e
returns-clause-e c = lawful_e
