-- A table represents a side's history as long as each request begins an entry and each response other than ReleaseAck
-- ends one.
use Rattle.std.proofs.Common.{rules, ◌≡◌, ℕ, zero, suc, Bool, true, false, cond, Option, None, Some, List, [], ◌∷◌, ◌++◌, ◌<◌, length, map, refl, sym}
use Rattle.std.proofs.Common.{ap, ◌∙◌, replicate}
use Rattle.std.specs.Prelude.{slice_index_or, slice_set, ◌==◌, ◌&&◌, not}
use Rattle.std.specs.Option.{is_some}
use Rattle.std.proofs.Math.ListN.{get_or-map}
use Rattle.std.proofs.lemmas.List.{map-set, length-map}
use Rattle.tl_settle.proofs.Names.{HeadA, HeadD, is_release_ack, Mark, Asks, Answers, open_request}
use Rattle.tl_settle.proofs.Opens.{open_more}
use Rattle.tl_settle.specs.declared.tables.Request.{Request}
use Rattle.tl_settle.specs.Tables.{is_busy, entry, remembered, remembered_of, AreBusy, AreOpen}

pub replicate_any : {A : Type 0} (n s : ℕ) (x : A) → slice_index_or (replicate n x) s x ≡ x
replicate_any zero s x = refl
replicate_any (suc n) zero x = refl
replicate_any (suc n) (suc s) x = replicate_any n s x

pub mapped_replicate : {A B : Type 0} (f : A → B) (n s : ℕ) (x : A) → slice_index_or (map f (replicate n x)) s (f x) ≡ f x
mapped_replicate f n s x = get_or-map f (replicate n x) s x ∙ ap f (replicate_any n s x)

-- a table of which one entry was written
pub set_any : {A : Type 0} (xs : List A) (i s : ℕ) (x d : A) → i < length xs →
    slice_index_or (slice_set xs i x) s d ≡ cond (i == s) x (slice_index_or xs s d)
set_any xs i s x d within = search rules

pub mapped_set : {A B : Type 0} (f : A → B) (xs : List A) (i s : ℕ) (x : A) (d : B) → i < length xs →
    slice_index_or (map f (slice_set xs i x)) s d ≡ cond (i == s) (f x) (slice_index_or (map f xs) s d)
mapped_set f xs i s x d within =
    ap (λ ys. slice_index_or ys s d) (map-set f xs i x) ∙ set_any (map f xs) i s (f x) d (rw (length-map xs f) within)

some_cond : (b : Bool) (h : HeadA) (o : Option HeadA) → is_some (cond b (Some h) o) ≡ cond b true (is_some o)
some_cond true h o = refl
some_cond false h o = refl

none_cond : (b : Bool) (o : Option HeadA) → is_some (cond b None o) ≡ cond b false (is_some o)
none_cond true o = refl
none_cond false o = refl

remembered_cond : (b : Bool) (h : HeadA) (o : Option HeadA) → remembered_of (cond b (Some h) o) ≡ cond b (Some (remembered h)) (remembered_of o)
remembered_cond true h o = refl
remembered_cond false h o = refl

remembered_none : (b : Bool) (o : Option HeadA) → remembered_of (cond b None o) ≡ cond b None (remembered_of o)
remembered_none true o = refl
remembered_none false o = refl

-- a new table represents no messages
pub new_busy : (t : List Bool) → ((s : ℕ) → is_busy t s ≡ false) → AreBusy t []
new_busy t e = record { each = e }

pub new_open : (t : List (Option Request)) → ((s : ℕ) → entry t s ≡ None) → AreOpen t []
new_open t e = record { each = e }

-- a request begins
pub begins_busy : (t u : List Bool) (ms : List Mark) (h : HeadA) → AreBusy t ms →
    ((s : ℕ) → is_busy u s ≡ cond (h.source == s) true (is_busy t s)) → AreBusy u (ms ++ Asks h ∷ [])
begins_busy t u ms h b e = record {
  each = λ s. e s ∙ ap (λ x. cond (h.source == s) true x) (b.each s) ∙ sym (some_cond (h.source == s) h (open_request s ms)) ∙
      ap (λ x. is_some x) (sym (open_more s None ms (Asks h)));
}

pub begins_open : (t u : List (Option Request)) (ms : List Mark) (h : HeadA) → AreOpen t ms →
    ((s : ℕ) → entry u s ≡ cond (h.source == s) (Some (remembered h)) (entry t s)) → AreOpen u (ms ++ Asks h ∷ [])
begins_open t u ms h b e = record {
  each = λ s. e s ∙ ap (λ x. cond (h.source == s) (Some (remembered h)) x) (b.each s) ∙
      sym (remembered_cond (h.source == s) h (open_request s ms)) ∙ ap (λ x. remembered_of x) (sym (open_more s None ms (Asks h)));
}

-- a response begins
pub ends_busy : (t u : List Bool) (ms : List Mark) (h : HeadD) → is_release_ack h ≡ false → AreBusy t ms →
    ((s : ℕ) → is_busy u s ≡ cond (h.source == s) false (is_busy t s)) → AreBusy u (ms ++ Answers h ∷ [])
ends_busy t u ms h other b e = record {
  each = λ s. e s ∙ ap (λ x. cond (h.source == s) false x) (b.each s) ∙ sym (none_cond (h.source == s) (open_request s ms)) ∙
      ap (λ x. is_some (cond (not x && (h.source == s)) None (open_request s ms))) (sym other) ∙
      ap (λ x. is_some x) (sym (open_more s None ms (Answers h)));
}

pub ends_open : (t u : List (Option Request)) (ms : List Mark) (h : HeadD) → is_release_ack h ≡ false → AreOpen t ms →
    ((s : ℕ) → entry u s ≡ cond (h.source == s) None (entry t s)) → AreOpen u (ms ++ Answers h ∷ [])
ends_open t u ms h other b e = record {
  each = λ s. e s ∙ ap (λ x. cond (h.source == s) None x) (b.each s) ∙ sym (remembered_none (h.source == s) (open_request s ms)) ∙
      ap (λ x. remembered_of (cond (not x && (h.source == s)) None (open_request s ms))) (sym other) ∙
      ap (λ x. remembered_of x) (sym (open_more s None ms (Answers h)));
}

-- a ReleaseAck begins: it changes nothing
pub acknowledged_busy : (t : List Bool) (ms : List Mark) (h : HeadD) → is_release_ack h ≡ true → AreBusy t ms → AreBusy t (ms ++ Answers h ∷ [])
acknowledged_busy t ms h ack b = record {
  each = λ s. b.each s ∙ ap (λ x. is_some (cond (not x && (h.source == s)) None (open_request s ms))) (sym ack) ∙
      ap (λ x. is_some x) (sym (open_more s None ms (Answers h)));
}

pub acknowledged_open : (t : List (Option Request)) (ms : List Mark) (h : HeadD) → is_release_ack h ≡ true → AreOpen t ms →
    AreOpen t (ms ++ Answers h ∷ [])
acknowledged_open t ms h ack b = record {
  each = λ s. b.each s ∙ ap (λ x. remembered_of (cond (not x && (h.source == s)) None (open_request s ms))) (sym ack) ∙
      ap (λ x. remembered_of x) (sym (open_more s None ms (Answers h)));
}
