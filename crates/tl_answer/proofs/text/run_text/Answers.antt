use Rattle.tl_answer.proofs.Writing.{unwritten, written}
use Rattle.tl_answer.proofs.text.run_text.Goals as goal

pub returns-in-Err : goal.returns-in-Err
returns-in-Err g c =
    unwritten (g.R.Read.remaining c.args.reader.now) (g.R.Read.remaining c.read_answer.new.reader)
    (g.W.Write.contents c.args.writer.now) c.args.order.now _ c.in-Err.ensures

pub returns-in-Ok : goal.returns-in-Ok
returns-in-Ok g c =
    written (g.R.Read.remaining c.args.reader.now) (g.R.Read.remaining c.read_answer.new.reader) (g.W.Write.contents c.args.writer.now)
    (g.W.Write.contents c.write_answer.new.writer)
    c.args.order.now c.in-Ok.answer c.write_answer.result c.in-Ok.ensures c.write_answer.ensures.text c.write_answer.ensures.part
    c.write_answer.ensures.done c.write_answer.ensures.kind
