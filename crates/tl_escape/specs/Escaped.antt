-- Escaped text in a page (HTML: character references). Each `<`, `&` and `"`, 60, 38 and 34, is written as a reference,
-- so that no part of the text is read as a tag, as a reference, or as the end of an attribute's value. Every other byte
-- is unchanged.
use Rattle.std.specs.Prelude.{ℕ, List, codes, ◌∷◌, [], ◌==◌, if◌then◌else◌, ◌≢◌}
use Rattle.std.specs.List.{flat_map}

abbrev pub reference : (byte : ℕ) → List ℕ
reference byte = if byte == 60 then codes "&lt;" else (if byte == 38 then codes "&amp;" else (if byte == 34 then codes "&quot;" else byte ∷ []))

abbrev pub escaped : (text : List ℕ) → List ℕ
escaped text = flat_map reference text

-- a byte that does not begin a tag and does not end a value
abbrev pub IsInert : (byte : ℕ) → Type 0
IsInert byte = (byte ≢ 60) × (byte ≢ 34)
