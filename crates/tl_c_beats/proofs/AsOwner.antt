-- The memory that the block of an answer owns, as one of the owners for C.
use Rattle.std.proofs.Common.{refl}
use Rattle.tl_c_beats.proofs.Owners.{Owner}
use Rattle.tl_c_beats.proofs.text_held.TextHeld.TheLaws as text_laws
use Rattle.tl_c_beats.specs.contracts.text_held.TextHeld as TextHeld
use Rattle.tl_c_beats.specs.contracts.answer_block.OwnedText as OwnedText

abbrev pub text : Owner TextHeld.the_row
text = record {
  laws = text_laws.the_row_laws;
  row = OwnedText.the_row;
  name = OwnedText.the_type.name;
  of = λ p a s. record { ptr = p; alloc = a; held = s };
  ptr = λ o. o.ptr;
  alloc = λ o. o.alloc;
  held = λ o. o.held;
  made = λ o. refl;
  kept = λ p a s. refl;
  owned = λ p a s ws. refl;
  lies = λ p a x. refl;
  last = λ o. tt;
  silent = λ o f. refl;
}
