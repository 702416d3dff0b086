-- The bytes that went out if a write failed (this project's choice).
use Rattle.std.specs.Prelude.{◌≡◌, ◌++◌, ℕ, List, Option}
use Rattle.std.specs.Io.KnownBytes.{Appends}

-- the first bytes of a text went out, perhaps none or all, and nothing else
pub record AppendsPart (held holds : Option (List ℕ)) (text : List ℕ) : Type 0 where
  pub part : List ℕ
  pub rest : List ℕ
  pub whole : text ≡ part ++ rest
  pub appended : Appends held holds part
