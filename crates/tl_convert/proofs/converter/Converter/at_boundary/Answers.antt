use Rattle.tl_convert.proofs.Names.{rules, ◌≡◌, ◌↔◌, ◌∙◌, ℕ, Bool, true, false, Option, List, [], ◌∷◌, not, refl, IsTrue, is_some, Rules, BeatOf}
use Rattle.tl_convert.proofs.Names.{burst_of, rest_of}
use Rattle.tl_convert.proofs.converter.Converter.at_boundary.Goals as goal

-- no burst is open if and only if the rest is empty
between : {H : Type 0} (r : Rules H) {w : ℕ} (rest : List (BeatOf H w)) (burst : Option (H × ℕ)) (none : Bool) →
    burst ≡ burst_of r rest → is_some burst ≡ not none → IsTrue none ↔ (rest ≡ [])
between r [] burst true e f = (λ _. refl, λ _. search rules)
between r [] burst false e f = absurd (cc (e, f))
between r (b ∷ rest) burst true e f = absurd (cc (e, f))
between r (b ∷ rest) burst false e f = (λ t. absurd (cc t), λ k. cc k)

pub returns : goal.returns
returns g c = λ bs homes k.
    let stands = rw (← c.self.view_is) at k in
    between g.K.Channel.rules (rest_of g.K.Channel.rules g.row.W bs) c.in_burst.result c.is_none.result (c.in_burst.ensures.burst ∙ stands.burst_is)
    c.is_none.ensures
