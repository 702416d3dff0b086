-- The memory that each handle of this crate owns, as one of the owners for C.
use Rattle.std.proofs.Common.{refl}
use Rattle.tl_c_beats.proofs.Owners.{Owner}
use Rattle.tl_c.proofs.held.ClientHeld.TheLaws as client_laws
use Rattle.tl_c.proofs.held.ManagerHeld.TheLaws as manager_laws
use Rattle.tl_c.specs.contracts.held.ClientHeld as ClientHeld
use Rattle.tl_c.specs.contracts.held.ManagerHeld as ManagerHeld
use Rattle.tl_c.specs.contracts.client_handle.OwnedClient as OwnedClient
use Rattle.tl_c.specs.contracts.manager_handle.OwnedManager as OwnedManager

abbrev pub client : Owner ClientHeld.the_row
client = record {
  laws = client_laws.the_row_laws;
  row = OwnedClient.the_row;
  name = OwnedClient.the_type.name;
  of = λ p a s. record { ptr = p; alloc = a; held = s };
  ptr = λ o. o.ptr;
  alloc = λ o. o.alloc;
  held = λ o. o.held;
  made = λ o. refl;
  kept = λ p a s. refl;
  owned = λ p a s ws. refl;
  lies = λ p a x. refl;
  last = λ o. tt;
  silent = λ o f. refl;
}

abbrev pub manager : Owner ManagerHeld.the_row
manager = record {
  laws = manager_laws.the_row_laws;
  row = OwnedManager.the_row;
  name = OwnedManager.the_type.name;
  of = λ p a s. record { ptr = p; alloc = a; held = s };
  ptr = λ o. o.ptr;
  alloc = λ o. o.alloc;
  held = λ o. o.held;
  made = λ o. refl;
  kept = λ p a s. refl;
  owned = λ p a s ws. refl;
  lies = λ p a x. refl;
  last = λ o. tt;
  silent = λ o f. refl;
}
