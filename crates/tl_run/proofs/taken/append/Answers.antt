use Rattle.tl_run.proofs.Names.{◌≡◌, ◌<◌, ◌≤◌, ◌∙◌, ◌++◌, List, [], ◌∷◌, length, get_or, ap, arith}
use Rattle.tl_run.proofs.taken.append.Goals as goal

-- a list that has one item
alone : {X : Type 0} (xs : List X) (x : X) → 1 ≤ length xs → length xs < 2 → x ≡ get_or xs 0 x → x ∷ [] ≡ xs
alone [] x some few is = absurd (omega arith)
alone (y ∷ []) x some few is = ap (λ z. z ∷ []) is
alone (y ∷ z ∷ zs) x some few is = absurd (omega arith)

pub returns-in-len1-clause-items : goal.returns-in-len1-clause-items
returns-in-len1-clause-items g c = c.in_ok-push.ensures.items
    ∙ ap (λ more. c.args.list.now.items ++ more) (alone c.args.beats.now c.beat-item.result c.in-len1.len_at_least c.in-len1.len_below c.beat-item.is)
