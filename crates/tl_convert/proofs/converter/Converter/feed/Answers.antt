use Rattle.tl_convert.proofs.Names.{refl}
use Rattle.tl_convert.proofs.converter.Converter.feed.Goals as goal

pub returns-in-Err : goal.returns-in-Err
returns-in-Err g c = record {
  admitted = c.in-Err.ensures.admitted;
  fault = c.in-Err.ensures.fault;
  stands = λ bs homes stands. tt;
  due = λ bs homes stands. tt;
  lawful = tt;
  unchanged = refl;
}

pub returns : goal.returns
returns g c = record {
  admitted = c.in-Ok.ensures.admitted;
  fault = λ bs homes stands. tt;
  stands = c.feed_at.ensures.stands;
  due = c.feed_at.ensures.due;
  lawful = c.feed_at.ensures.lawful;
  unchanged = tt;
}
