use Rattle.std.proofs.Common.{◌≡◌, ◌∷◌, [], List, ◌++◌, ◌∙◌, refl, sym, ap, subst}
use Rattle.tl_msg.specs.Tables.{rules_d}
use Rattle.tl_msg.specs.declared.head.HeadD.{HeadD}
use Rattle.tl_msg.specs.declared.beat.BeatOf.{BeatOf}
use Rattle.tl_burst.specs.Handing.{Handed}
use Rattle.tl_settle.specs.Histories.{Event, Ask, Answer, answered}
use Rattle.bridge_tests.proofs.pair.response.takes_last.Goals as goal

answered-more : {w : _} (es : List (Event w)) (b : BeatOf HeadD w) → answered (es ++ Answer b ∷ []) ≡ answered es ++ b ∷ []
answered-more [] b = refl
answered-more (Ask q ∷ es) b = answered-more es b
answered-more (Answer r ∷ es) b = ap (λ bs. r ∷ bs) (answered-more es b)

-- what was taken goes from call to call, and the receipts show it
pub returns-then-drained : goal.returns-then-drained
returns-then-drained c = λ y x shows stands none.
    let shown = (c.drained.ensures.shown y _ shows (c.in_ok-last.ensures.taken x stands)).d in
    let crosses = shown.crosses in
    let idle = (c.drained.ensures.drained.0 c.if-drained.true).1 in
    let taken = answered-more x.history c.in_ok-last.last ∙ ap (λ bs. bs ++ c.in_ok-last.last ∷ []) none in (
      crosses.messages,
      subst (λ rest. Handed rules_d 16 y.d.accepted y.d.homes crosses.messages rest) (crosses.closed_whole shown.shows.closed) crosses.handed,
      sym taken ∙ crosses.drained shown.shows.closed shown.shows.none_staged idle.0 idle.1,
    )
