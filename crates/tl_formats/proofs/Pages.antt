-- The output of a page.
use Rattle.std.proofs.Common.{ℕ, Bool, List, ◌++◌, Option, None, Some, ap, ◌∙◌}
use Rattle.std.specs.Io.KnownBytes.{Keeps, Appends}
use Rattle.tl_explain.specs.Explained.{HasAnswer, ShowsAnswer}

-- a page was written, and nothing was written before it
pub written : (text : List ℕ) (held mid now : Option (List ℕ)) (page : List ℕ) (done : Bool) → HasAnswer text done → Keeps held mid
    → Appends mid now page → ShowsAnswer text held now done
written text None mid now page done is kept put = (page, is, tt)
written text (Some x) None now page done is kept put = absurd kept
written text (Some x) (Some y) None page done is kept put = absurd put
written text (Some x) (Some y) (Some z) page done is kept put = (page, is, put ∙ ap (λ l. l ++ page) kept)
