-- Heads that were read before. Only contracts of private functions use these words.
use Rattle.std.specs.Prelude.{◌≡◌, ◌≤◌, ◌+◌, ℕ, List, length, IfSome}
use Rattle.std.specs.List.{slice_range}
use Rattle.tl_trace.specs.Fields.{Form, id_digits, length_of, form_a, form_b, form_c, form_d, form_e}
use Rattle.tl_trace.specs.Inner.Reading.{IsHead, IsHeadOf}
use Rattle.tl_trace.specs.declared.head_reader.HeadFields.{HeadFields}
use Rattle.tl_trace.specs.declared.known_head.KnownHead.{KnownHead}
use Rattle.tl_trace.specs.declared.known_head.LastHeads.{LastHeads}

-- the number of bytes of the letter and the fields of a head
abbrev pub head_length : {H : Type 0} → Form H → ℕ
head_length f = 1 + length_of 0 f.head_fields

-- the text, from the letter up to the last field of the head, is that of this head
pub record HasHead {H : Type 0} (f : Form H) (version : ℕ) (text : List ℕ) (h : H) : Type 0 where
  pub fields : HeadFields
  pub read : IsHead (id_digits version) text f.head_fields fields
  pub good : fields.bad ≤ 15
  pub is : IsHeadOf f fields h

-- the text has n bytes from `at` on, and they are the same as those from `before` on
pub record IsSameAt (text : List ℕ) (at before n : ℕ) : Type 0 where
  pub within : at + n ≤ length text
  pub same : slice_range text at (at + n) ≡ slice_range text before (before + n)

-- a line of the text begins with this head
pub record IsKnown {H : Type 0} (f : Form H) (version : ℕ) (text : List ℕ) (known : KnownHead H) : Type 0 where
  pub within : known.at + head_length f ≤ length text
  pub has : HasHead f version (slice_range text known.at (known.at + head_length f)) known.head

-- the same for each channel that has a known head
pub record AreKnown (version : ℕ) (text : List ℕ) (heads : LastHeads) : Type 0 where
  pub a : IfSome heads.a (IsKnown (form_a version) version text)
  pub b : IfSome heads.b (IsKnown (form_b version) version text)
  pub c : IfSome heads.c (IsKnown (form_c version) version text)
  pub d : IfSome heads.d (IsKnown (form_d version) version text)
  pub e : IfSome heads.e (IsKnown (form_e version) version text)
