use Rattle.tl_run.proofs.Names.{refl, sym, ◌∙◌, bridge_small}
use Rattle.tl_run.proofs.Ended.{all-standing-is}
use Rattle.tl_run.proofs.OnlyMemory.{not-ok}
use Rattle.tl_run.proofs.rounds.stops_at_rest.Goals as goal

pub returns-in_default : goal.returns-in_default
returns-in_default g c = record { stops = tt; rests = λ x f. tt; goes = λ x f none stopped rest. c.in_default.ensures.goes refl stopped }

pub returns-then-not-are_empty : goal.returns-then-not-are_empty
returns-then-not-are_empty g c = record {
  stops = tt;
  rests = λ x f. tt;
  goes = λ x f none stopped rest.
      let e = all-standing-is c.args.bridge.now x c.standings.result f c.standings.ensures.a c.standings.ensures.b
      c.standings.ensures.c c.standings.ensures.d
      c.standings.ensures.e in
      not-ok (c.if-not-are_empty.ensures.1 (e ∙ rest));
}

pub returns : goal.returns
returns g c = record {
  stops = c.in-Some.ensures.stops;
  rests = λ x f.
      sym (all-standing-is c.args.bridge.now x c.standings.result f c.standings.ensures.a c.standings.ensures.b
      c.standings.ensures.c c.standings.ensures.d
      c.standings.ensures.e) ∙ c.if-not-are_empty.ensures.0 refl;
  goes = λ x f none. not-ok (sym none);
}

pub standings-requires : goal.standings-requires
standings-requires g c = bridge_small g.row.C g.row.M c.requires.client c.requires.manager
