use Rattle.std.proofs.Common.{◌∙◌, codes}
use Rattle.clap.specs.Words.{found_of}
use Rattle.clap.proofs.WalkLemmas.{one_text-rows}
use Rattle.tl_words.proofs.run_order.Goals as goal

pub returns-clause-said : goal.returns-clause-said
returns-clause-said c =
    let flag = c.get_flag.ensures in
    let by_rows = one_text-rows (found_of c.args.matches.now) (codes "sync") in (
      c.in_ok-number_of.ensures.said,
      c.in_ok-number_of-2.ensures.said,
      record {
        none = λ e. flag.none (by_rows ∙ e);
        set = λ e. flag.value (by_rows ∙ e);
        unset = λ e. flag.other (by_rows ∙ e);
      },
    )
