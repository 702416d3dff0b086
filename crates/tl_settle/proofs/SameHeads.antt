-- Heads of which all fields are the same are the same head.
use Rattle.tl_settle.proofs.Names.{◌≡◌, Bool, true, false, refl, ap, ◌∙◌, ◌==◌, rules_a, rules_d, HeadA, HeadD, true_equal, and_parts}
use Rattle.std.specs.Bool.{beq}
use Rattle.tl_msg.specs.Tables.{rules_b, rules_c, rules_e}
use Rattle.tl_msg.specs.declared.head.HeadB.{HeadB}
use Rattle.tl_msg.specs.declared.head.HeadC.{HeadC}
use Rattle.tl_msg.specs.declared.head.HeadE.{HeadE}

same_bool : (x y : Bool) → beq x y ≡ true → x ≡ y
same_bool true true e = refl
same_bool true false e = cc
same_bool false true e = cc
same_bool false false e = refl

pub same_a : (x y : HeadA) → rules_a.same x y ≡ true → x ≡ y
same_a x y e =
    let opcode = and_parts (x.opcode == y.opcode) _ e in
    let param = and_parts (x.param == y.param) _ opcode.1 in
    let size = and_parts (x.size == y.size) _ param.1 in
    let source = and_parts (x.source == y.source) (x.address == y.address) size.1 in
    let o : x.opcode ≡ y.opcode = true_equal x.opcode y.opcode opcode.0 in
    let p : x.param ≡ y.param = true_equal x.param y.param param.0 in
    let z : x.size ≡ y.size = true_equal x.size y.size size.0 in
    let s : x.source ≡ y.source = true_equal x.source y.source source.0 in
    let a : x.address ≡ y.address = true_equal x.address y.address source.1 in
    ap (λ q. record x { opcode = q }) o ∙ ap (λ q. record x { opcode = y.opcode; param = q }) p ∙
    ap (λ q. record x { opcode = y.opcode; param = y.param; size = q }) z ∙
    ap (λ q. record y { source = q; address = x.address }) s ∙ ap (λ q. record y { address = q }) a

pub same_b : (x y : HeadB) → rules_b.same x y ≡ true → x ≡ y
same_b x y e =
    let opcode = and_parts (x.opcode == y.opcode) _ e in
    let param = and_parts (x.param == y.param) _ opcode.1 in
    let size = and_parts (x.size == y.size) _ param.1 in
    let source = and_parts (x.source == y.source) (x.address == y.address) size.1 in
    let o : x.opcode ≡ y.opcode = true_equal x.opcode y.opcode opcode.0 in
    let p : x.param ≡ y.param = true_equal x.param y.param param.0 in
    let z : x.size ≡ y.size = true_equal x.size y.size size.0 in
    let s : x.source ≡ y.source = true_equal x.source y.source source.0 in
    let a : x.address ≡ y.address = true_equal x.address y.address source.1 in
    ap (λ q. record x { opcode = q }) o ∙ ap (λ q. record x { opcode = y.opcode; param = q }) p ∙
    ap (λ q. record x { opcode = y.opcode; param = y.param; size = q }) z ∙
    ap (λ q. record y { source = q; address = x.address }) s ∙ ap (λ q. record y { address = q }) a

pub same_c : (x y : HeadC) → rules_c.same x y ≡ true → x ≡ y
same_c x y e =
    let opcode = and_parts (x.opcode == y.opcode) _ e in
    let param = and_parts (x.param == y.param) _ opcode.1 in
    let size = and_parts (x.size == y.size) _ param.1 in
    let source = and_parts (x.source == y.source) (x.address == y.address) size.1 in
    let o : x.opcode ≡ y.opcode = true_equal x.opcode y.opcode opcode.0 in
    let p : x.param ≡ y.param = true_equal x.param y.param param.0 in
    let z : x.size ≡ y.size = true_equal x.size y.size size.0 in
    let s : x.source ≡ y.source = true_equal x.source y.source source.0 in
    let a : x.address ≡ y.address = true_equal x.address y.address source.1 in
    ap (λ q. record x { opcode = q }) o ∙ ap (λ q. record x { opcode = y.opcode; param = q }) p ∙
    ap (λ q. record x { opcode = y.opcode; param = y.param; size = q }) z ∙
    ap (λ q. record y { source = q; address = x.address }) s ∙ ap (λ q. record y { address = q }) a

pub same_d : (x y : HeadD) → rules_d.same x y ≡ true → x ≡ y
same_d x y e =
    let opcode = and_parts (x.opcode == y.opcode) _ e in
    let param = and_parts (x.param == y.param) _ opcode.1 in
    let size = and_parts (x.size == y.size) _ param.1 in
    let source = and_parts (x.source == y.source) _ size.1 in
    let sink = and_parts (x.sink == y.sink) (beq x.denied y.denied) source.1 in
    let o : x.opcode ≡ y.opcode = true_equal x.opcode y.opcode opcode.0 in
    let p : x.param ≡ y.param = true_equal x.param y.param param.0 in
    let z : x.size ≡ y.size = true_equal x.size y.size size.0 in
    let s : x.source ≡ y.source = true_equal x.source y.source source.0 in
    let k : x.sink ≡ y.sink = true_equal x.sink y.sink sink.0 in
    let d : x.denied ≡ y.denied = same_bool x.denied y.denied sink.1 in
    ap (λ q. record x { opcode = q }) o ∙ ap (λ q. record x { opcode = y.opcode; param = q }) p ∙
    ap (λ q. record x { opcode = y.opcode; param = y.param; size = q }) z ∙
    ap (λ q. record y { source = q; sink = x.sink; denied = x.denied }) s ∙ ap (λ q. record y { sink = q; denied = x.denied }) k ∙
    ap (λ q. record y { denied = q }) d

pub same_e : (x y : HeadE) → rules_e.same x y ≡ true → x ≡ y
same_e x y e = let s : x.sink ≡ y.sink = true_equal x.sink y.sink e in ap (λ q. record x { sink = q }) s
