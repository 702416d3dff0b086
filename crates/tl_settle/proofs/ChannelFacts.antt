-- The laws of the traits of A and D, stated for their rules.
use Rattle.tl_settle.proofs.Names.{◌≡◌, ℕ, true, false, Bool, refl, subst, ◌==◌, rules_a, rules_d, HeadA, HeadD, equal_true}
use Rattle.std.specs.Bool.{beq}
use Rattle.tl_burst.proofs.FaultsExact.{ChannelLaws}
use Rattle.tl_msg.specs.Kinds.{column_a, column_d, kind_at}
use Rattle.tl_msg.specs.Tables.{is_aligned}
use Rattle.tl_msg.specs.Laws.{small_fault, partial_carries_of, partial_not_d}
use Rattle.tl_settle.proofs.SameHeads.{same_a, same_d}

self : (n : ℕ) → (n == n) ≡ true
self n = equal_true n n refl

self_bool : (x : Bool) → beq x x ≡ true
self_bool true = refl
self_bool false = refl

self_a : (x : HeadA) → rules_a.same x x ≡ true
self_a x = rw (self x.opcode, self x.param, self x.size, self x.source, self x.address) refl

self_d : (x : HeadD) → rules_d.same x x ≡ true
self_d x = rw (self x.opcode, self x.param, self x.size, self x.source, self x.sink, self_bool x.denied) refl

pub laws_a : ChannelLaws rules_a
laws_a = record {
  same_heads = λ x y. (same_a x y, λ e. subst (λ z. rules_a.same x z ≡ true) e (self_a x));
  small = λ h. small_fault (kind_at column_a h.opcode) h.param h.size (is_aligned h.address h.size);
  partial_carries = λ h. partial_carries_of (kind_at column_a h.opcode);
  masked_address = λ e h x y. refl;
  home_kept = λ h x. refl;
}

pub laws_d : ChannelLaws rules_d
laws_d = record {
  same_heads = λ x y. (same_d x y, λ e. subst (λ z. rules_d.same x z ≡ true) e (self_d x));
  small = λ h. small_fault (kind_at column_d h.opcode) h.param h.size true;
  partial_carries = λ h. partial_carries_of (kind_at column_d h.opcode);
  masked_address = λ e h x y. absurd (cc);
  home_kept = λ h x. refl;
}

pub masked_a : (h : HeadA) → rules_a.partial h ≡ true → rules_a.masked ≡ true
masked_a h e = refl

pub masked_d : (h : HeadD) → rules_d.partial h ≡ true → rules_d.masked ≡ true
masked_d h = partial_not_d h.opcode
