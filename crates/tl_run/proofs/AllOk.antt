-- Results that are joined by `and`: if the joined result is Ok, each of them is.
use Rattle.tl_run.proofs.Names.{◌≡◌, true, Result, Ok, Err, refl, sym, subst, IsOk, OnOk}
use Rattle.std.specs.Result.{result_and}

module _ {E : Type 0} where
  both : {P Q X : Type 0} (a b : Result (Unit {0}) E) → (P → Q → X) → OnOk a P → OnOk b Q → OnOk (result_and a b) X
  both (Ok x) (Ok y) f p q = f p q
  both (Ok x) (Err e) f p q = tt
  both (Err e) b f p q = tt

  both-ok : {P Q X : Type 0} (a b all : Result (Unit {0}) E) → all ≡ result_and a b → (P → Q → X) → OnOk a P → OnOk b Q → OnOk all X
  both-ok {X = X} a b all joined f p q = subst (λ r. OnOk r X) (sym joined) (both a b f p q)

  -- four, one after another
  pub four_ok : {P Q R S X : Type 0} (a b c d ab abc all : Result (Unit {0}) E) → ab ≡ result_and a b →
      abc ≡ result_and ab c → all ≡ result_and abc d →
      (P → Q → R → S → X) → OnOk a P → OnOk b Q → OnOk c R → OnOk d S → OnOk all X
  four_ok a b c d ab abc all i j k f p q r s =
      both-ok abc d all k (λ g. g) (both-ok ab c abc j (λ g. g) (both-ok a b ab i f p q) r) s

  -- five
  pub five_ok : {P Q R S T X : Type 0} (a b c d e ab abc abcd all : Result (Unit {0}) E) → ab ≡ result_and a b → abc ≡ result_and ab c →
      abcd ≡ result_and abc d → all ≡ result_and abcd e →
      (P → Q → R → S → T → X) → OnOk a P → OnOk b Q → OnOk c R → OnOk d S → OnOk e T → OnOk all X
  five_ok a b c d e ab abc abcd all i j k l f p q r s t =
      both-ok abcd e all l (λ g. g) (four_ok a b c d ab abc abcd i j k f p q r s) t

  ok-and : (a b all : Result (Unit {0}) E) → all ≡ result_and a b → IsOk a → IsOk b → IsOk all
  ok-and (Ok x) (Ok y) all joined p q = subst (λ r. IsOk r) (sym joined) (refl {a = true})
  ok-and (Ok x) (Err e) all joined p q = absurd (cc (q))
  ok-and (Err e) b all joined p q = absurd (cc (p))

  -- if each of five is Ok, the joined result is
  pub five-are-ok : (a b c d e ab abc abcd all : Result (Unit {0}) E) → ab ≡ result_and a b → abc ≡ result_and ab c →
      abcd ≡ result_and abc d → all ≡ result_and abcd e →
      IsOk a → IsOk b → IsOk c → IsOk d → IsOk e → IsOk all
  five-are-ok a b c d e ab abc abcd all i j k l p q r s t =
      ok-and abcd e all l (ok-and abc d abcd k (ok-and ab c abc j (ok-and a b ab i p q) r) s) t

-- a property of a result that is Ok, for one that is
pub of-ok : {T E P : Type 0} (r : Result T E) → IsOk r → OnOk r P → P
of-ok (Ok x) ok p = p
of-ok (Err e) ok p = absurd (cc (ok))
