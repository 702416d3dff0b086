-- The state after some writes of a text.
use Rattle.std.specs.Prelude.{OnErr, OnOk}
use Rattle.std.specs.Io.KnownBytes.{Keeps}
use Rattle.std.proofs.lemmas.List.{take-append-drop}
use Rattle.tl_stream.specs.Outputs.{AppendsPart}
use Rattle.tl_stream.proofs.Names.{Result, Ok, Err, None, Some, [], sym, append-nil, Appends-kept}
use Rattle.tl_stream.proofs.Names.{◌≡◌, ℕ, ◌+◌, ◌-◌, ◌≤◌, List, length, take, drop, Option}
use Rattle.tl_stream.proofs.Names.{subst, ap, ◌∙◌, arith, length-drop, Appends-trans, Appends}
use Rattle.std.proofs.Math.Seq.{take-add, take-length}

-- the first n items of a text are out
pub record SoFar (old now : Option (List ℕ)) (text : List ℕ) (n : ℕ) : Type 0 where
  pub some : Appends old now (take n text)
  pub few : n ≤ length text

-- all of the rest
rest_is : (text : List ℕ) (n : ℕ) → take (length text - n) (drop n text) ≡ drop n text
rest_is text n = subst (λ l. take l (drop n text) ≡ drop n text) (length-drop n text) (take-length (drop n text))

-- a write took m items of the rest
pub goes_on : (a b c : Option (List ℕ)) (text rest : List ℕ) (n m : ℕ) → rest ≡ take (length text - n) (drop n text) → SoFar a b text n →
    m ≤ length rest → Appends b c (take m rest) → SoFar a c text (n + m)
goes_on a b c text rest n m e h few bytes =
    let same : rest ≡ drop n text = e ∙ rest_is text n in
    let long : length rest ≡ length text - n = ap length same ∙ length-drop n text in
    let here : n ≤ length text = h.few in
    record {
      some = rw (take-add n m text)
          (Appends-trans a b c (take n text) (take m (drop n text)) h.some (subst (λ l. Appends b c (take m l)) same bytes));
      few = omega (arith, long, few, here);
    }

-- no more went out
nothing_out : (b c : Option (List ℕ)) → Appends b c [] → Keeps b c
nothing_out None c out = tt
nothing_out (Some xs) None out = absurd out
nothing_out (Some xs) (Some ys) out = out ∙ append-nil xs

pub none_taken : (b c : Option (List ℕ)) (text : List ℕ) (n : ℕ) → n ≡ 0 → Appends b c (take n text) → Keeps b c
none_taken b c text n none out = nothing_out b c (subst (λ n. Appends b c (take n text)) none out)

pub part_out : (a b c : Option (List ℕ)) (text : List ℕ) (n : ℕ) → SoFar a b text n → Keeps b c → AppendsPart a c text
part_out a b c text n h kept = record {
  part = take n text;
  rest = drop n text;
  whole = sym (take-append-drop n text);
  appended = Appends-kept a b c (take n text) h.some kept;
}

-- all went out, and nothing after it
pub all_out : {E : Type 0} (a b c : Option (List ℕ)) (text : List ℕ) (r : Result (Unit {0}) E) → Appends a b text → Keeps b c → OnErr r (AppendsPart a c text)
all_out a b c text (Ok done) out kept = tt
all_out a b c text (Err fault) out kept =
    record { part = text; rest = []; whole = sym (append-nil text); appended = Appends-kept a b c text out kept }

-- whatever holds, holds of a result that is Ok
pub on_ok : {T E P : Type 0} (r : Result T E) → P → OnOk r P
on_ok (Ok done) p = p
on_ok (Err fault) p = tt
