use Rattle.tl_trace.proofs.Names.{sym, ◌∙◌}
use Rattle.tl_trace.proofs.ReadLines.{read_as_a, read_as_b, read_as_c, read_as_d, read_as_e, fault_a, fault_b, fault_c, fault_d, fault_e}
use Rattle.tl_trace.proofs.reader.read_line_in.Goals as goal

pub returns-in-Ok : goal.returns-in-Ok
returns-in-Ok g c = read_as_a g.row.VERSION c.args.client c.args.manager c.args.text.now c.in-Ok.beat c.in-Ok.ensures

pub returns-in-Err : goal.returns-in-Err
returns-in-Err g c =
    fault_a g.row.VERSION c.args.client c.args.manager c.args.text.now c.in-Err.kind (sym c.letter_of.ensures ∙ c.in-65.is) c.in-Err.ensures

pub returns-in-Ok-read_beat : goal.returns-in-Ok-read_beat
returns-in-Ok-read_beat g c = read_as_b g.row.VERSION c.args.client c.args.manager c.args.text.now c.in-Ok-read_beat.beat c.in-Ok-read_beat.ensures

pub returns-in-Err-read_beat : goal.returns-in-Err-read_beat
returns-in-Err-read_beat g c =
    fault_b g.row.VERSION c.args.client c.args.manager c.args.text.now c.in-Err-read_beat.kind (sym c.letter_of.ensures ∙ c.in-66.is)
    c.in-Err-read_beat.ensures

pub returns-in-Ok-read_beat-2 : goal.returns-in-Ok-read_beat-2
returns-in-Ok-read_beat-2 g c =
    read_as_c g.row.VERSION c.args.client c.args.manager c.args.text.now c.in-Ok-read_beat-2.beat c.in-Ok-read_beat-2.ensures

pub returns-in-Err-read_beat-2 : goal.returns-in-Err-read_beat-2
returns-in-Err-read_beat-2 g c =
    fault_c g.row.VERSION c.args.client c.args.manager c.args.text.now c.in-Err-read_beat-2.kind (sym c.letter_of.ensures ∙ c.in-67.is)
    c.in-Err-read_beat-2.ensures

pub returns-in-Ok-read_beat-3 : goal.returns-in-Ok-read_beat-3
returns-in-Ok-read_beat-3 g c =
    read_as_d g.row.VERSION c.args.client c.args.manager c.args.text.now c.in-Ok-read_beat-3.beat c.in-Ok-read_beat-3.ensures

pub returns-in-Err-read_beat-3 : goal.returns-in-Err-read_beat-3
returns-in-Err-read_beat-3 g c =
    fault_d g.row.VERSION c.args.client c.args.manager c.args.text.now c.in-Err-read_beat-3.kind (sym c.letter_of.ensures ∙ c.in-68.is)
    c.in-Err-read_beat-3.ensures

pub returns-in-Ok-read_beat-4 : goal.returns-in-Ok-read_beat-4
returns-in-Ok-read_beat-4 g c =
    read_as_e g.row.VERSION c.args.client c.args.manager c.args.text.now c.in-Ok-read_beat-4.beat c.in-Ok-read_beat-4.ensures

pub returns-in-Err-read_beat-4 : goal.returns-in-Err-read_beat-4
returns-in-Err-read_beat-4 g c =
    fault_e g.row.VERSION c.args.client c.args.manager c.args.text.now c.in-Err-read_beat-4.kind (sym c.letter_of.ensures ∙ c.in-69.is)
    c.in-Err-read_beat-4.ensures
