-- A side of a run records the beats that it takes. Only contracts of private functions use these definitions.
use Rattle.std.proofs.Common.{◌≡◌, ◌++◌, List, [], map, sym, ap, subst, ◌∙◌, append-nil, append_assoc}
use Rattle.std.proofs.lemmas.List.{map-append}

-- events appended in two steps, or in one
pub events-on : {B E : Type 0} (event : B → E) (es : List E) (i j : List B) → (es ++ map event i) ++ map event j ≡ es ++ map event (i ++ j)
events-on event es i j = append_assoc es (map event i) (map event j) ∙ ap (λ q. es ++ q) (sym (map-append event i j))

-- a book that knows a history knows, after recording these beats, the history extended by them
module _ {K B E : Type 0} (Knows : K → List E → Type 0) (event : B → E) where
  abbrev pub HasNoted : K → List B → K → Type 0
  HasNoted k bs k' = (es : List E) → Knows k es → Knows k' (es ++ map event bs)

  -- no beats were recorded, or some and then some more
  pub noted_none : (k : K) → HasNoted k [] k
  noted_none k es h = subst (λ q. Knows k q) (sym (append-nil es)) h

  pub noted_then : (k l m : K) (i j : List B) → HasNoted k i l → HasNoted l j m → HasNoted k (i ++ j) m
  noted_then k l m i j f g es h = subst (λ q. Knows m q) (events-on event es i j) (g (es ++ map event i) (f es h))
