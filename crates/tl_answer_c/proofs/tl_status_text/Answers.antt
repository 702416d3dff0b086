use Rattle.tl_answer_c.proofs.Names.{faults_named}
use Rattle.tl_answer_c.proofs.tl_status_text.Goals as goal

pub returns-clause-names : goal.returns-clause-names
returns-clause-names c = faults_named
