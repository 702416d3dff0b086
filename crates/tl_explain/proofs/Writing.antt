-- The output that is written in blocks.
use Rattle.std.proofs.Common.{ℕ, Bool, true, false, List, [], ◌++◌, Option, refl}
use Rattle.std.proofs.KnownBytes.{Appends-trans, Appends-nil, Keeps-refl, Keeps-trans}
use Rattle.std.specs.Io.KnownBytes.{Appends}
use Rattle.tl_answer.specs.Texts.{IsAnswer}
use Rattle.tl_explain.specs.Explained.{Explains, IsExplanation}
use Rattle.tl_explain.specs.Inner.Explanation.{Continues}

-- nothing is written yet
pub begins : (is_page : Bool) (held : Option (List ℕ)) → Continues is_page held held
begins false held = ([], Appends-nil held)
begins true held = Keeps-refl held

-- more was written after it
pub goes_on : (is_page : Bool) (held mid now : Option (List ℕ)) → Continues is_page held mid → Continues is_page mid now → Continues is_page held now
goes_on false held mid now before more = (before.0 ++ more.0, Appends-trans held mid now before.0 more.0 before.1 more.1)
goes_on true held mid now before more = Keeps-trans held mid now before more

-- the answer comes after all sentences
pub explained : (text : List ℕ) (held mid now : Option (List ℕ)) (answer : List ℕ) (done : Bool) → IsAnswer text true answer done
    → Continues false held mid → Appends mid now answer → Explains text held now done
explained text held mid now answer done is told put =
    let explanation : IsExplanation text (told.0 ++ answer) done = record { sentences = told.0; answer = answer; ends = refl; answered = is } in
    (told.0 ++ answer, explanation, Appends-trans held mid now told.0 answer told.1 put)
