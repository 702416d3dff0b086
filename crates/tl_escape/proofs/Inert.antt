-- The escaped form of a text in a page begins no tag and ends no value.
use Rattle.std.specs.Prelude.{OnErr}
use Rattle.std.proofs.Common.{Result, Ok, Err, ◌∷◌, [], ℕ, List, All, arith, ◌≡◌, ◌++◌, ◌+◌, ◌<◌, length, take, ap, ◌∙◌, append_assoc, append-nil, sym}
use Rattle.std.proofs.Math.ListN.{get_or}
use Rattle.std.proofs.lemmas.List.{take_more}
use Rattle.std.proofs.lemmas.Grind.{flat_map-append}
use Rattle.std.proofs.lemmas.List.Elements.{All-append, All-nil}
use Rattle.tl_escape.specs.Escaped.{reference, escaped, IsInert}

of-byte : (byte : ℕ) → All IsInert (reference byte)
of-byte byte = grind arith

pub inert : (text : List ℕ) → All IsInert (escaped text)
inert [] = All-nil IsInert
inert (byte ∷ text) = All-append IsInert (reference byte) (escaped text) (of-byte byte) (inert text)

-- one more byte of a text, and its escaped form
pub longer : (text : List ℕ) (at d : ℕ) → at < length text → (begin held piece new : List ℕ)
    → held ≡ begin ++ escaped (take at text) → piece ≡ reference (get_or text at d) → new ≡ held ++ piece
    → new ≡ begin ++ escaped (take (at + 1) text)
longer text at d lt begin held piece new old here put =
    let byte = get_or text at d in
    put ∙ ap (λ q. q ++ piece) old ∙ append_assoc begin (escaped (take at text)) piece
    ∙ ap (λ q. begin ++ (escaped (take at text) ++ q)) (here ∙ sym (append-nil (reference byte)))
    ∙ ap (λ q. begin ++ q) (sym (ap escaped (take_more text at d lt) ∙ flat_map-append reference (take at text) (byte ∷ [])))

-- whatever holds, holds of an error
pub on_err : {T E P : Type 0} (r : Result T E) → P → OnErr r P
on_err (Ok x) p = tt
on_err (Err e) p = p
