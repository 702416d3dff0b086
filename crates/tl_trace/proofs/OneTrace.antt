-- No text is the text of two traces.
use Rattle.tl_trace.proofs.Names.{◌≡◌, ◌≤◌, ℕ, zero, suc, Bool, true, false, not, nat_eq, nat_le, nat_lt, ◌&&◌, ◌||◌, List, [], ◌∷◌, ◌++◌, length}
use Rattle.tl_trace.proofs.Names.{map, refl, sym, ap, ◌∙◌, arith, append_assoc, eq-eqb, subst, get_or, decimal, codes, ◌==◌, eqb-true, leb-true}
use Rattle.tl_trace.proofs.Names.{ltb-true, not-true, and_parts, or_parts, decimal_is_IsNumeral, list_all, list_any, digits_value, BeatOf, HeadA}
use Rattle.tl_trace.proofs.Names.{HeadB, HeadC, HeadD, HeadE, Form, bit, fields, value_of, number_of_lanes, form_a, form_b, form_c, form_d, form_e}
use Rattle.tl_trace.proofs.Names.{IsLine, is_kept, versions, is_version, is_width, newline, header_text, SaysLine, is_kept_line, TellsLines, Tells}
use Rattle.tl_trace.proofs.Names.{Line, A, B, C, D, E, WIDEST, each_width, append_cancel_left}
use Rattle.tl_msg.proofs.Beats.{same_beat}
use Rattle.std.specs.Fmt.{digits}
use Rattle.tl_trace.proofs.Widths.{width_of, width_most}
use Rattle.tl_trace.proofs.Cover.{says_free}
use Rattle.tl_trace.proofs.Shaped.{kept_parts}
use Rattle.tl_trace.proofs.ReadDigits.{lanes_parts}

-- ---- cutting at a byte

abbrev pub Without : (stop : ℕ) → List ℕ → Type 0
Without stop xs = list_any (λ b. b == stop) xs ≡ false

pub record Split (xs ys more more' : List ℕ) : Type 0 where
  pub front : xs ≡ ys
  pub back : more ≡ more'

not_stop : (b stop : ℕ) → (b == stop) ≡ false → b ≡ stop → false ≡ true
not_stop b stop other e = sym other ∙ eq-eqb b stop e

split_at : (stop : ℕ) (xs ys more more' : List ℕ) → xs ++ stop ∷ more ≡ ys ++ stop ∷ more' → Without stop xs → Without stop ys
    → Split xs ys more more'
split_at stop [] [] more more' e none none' = record { front = refl; back = cc }
split_at stop [] (y ∷ ys) more more' e none none' =
    let same : y ≡ stop = cc in let bad = not_stop y stop (or_parts (y == stop) (list_any (λ b. b == stop) ys) none').0 same in absurd cc
split_at stop (x ∷ xs) [] more more' e none none' =
    let same : x ≡ stop = cc in let bad = not_stop x stop (or_parts (x == stop) (list_any (λ b. b == stop) xs) none).0 same in absurd cc
split_at stop (x ∷ xs) (y ∷ ys) more more' e none none' =
    let same : x ≡ y = cc in
    let rest : xs ++ stop ∷ more ≡ ys ++ stop ∷ more' = cc in
    let more_split =
    split_at stop xs ys more more' rest (or_parts (x == stop) (list_any (λ b. b == stop) xs) none).1
    (or_parts (y == stop) (list_any (λ b. b == stop) ys) none').1 in
    record { front = ap (λ (b : ℕ). b ∷ xs) same ∙ ap (λ (zs : List ℕ). y ∷ zs) more_split.front; back = more_split.back }

-- ---- the header

pub in_list : (p : ℕ → Bool) (xs : List ℕ) (w : ℕ) → list_any (λ x. w == x) xs ≡ true → list_all p xs ≡ true → p w ≡ true
in_list p [] w e all = absurd cc
in_list p (x ∷ xs) w e all = pick (w == x) refl e (and_parts (p x) (list_all p xs) all).0 (in_list p xs w) (and_parts (p x) (list_all p xs) all).1
  where
    pick : (b : Bool) → (w == x) ≡ b → b || list_any (λ y. w == y) xs ≡ true → p x ≡ true
        → (list_any (λ y. w == y) xs ≡ true → list_all p xs ≡ true → p w ≡ true) → list_all p xs ≡ true → p w ≡ true
    pick true is any here more rest = ap p (eqb-true w x is) ∙ here
    pick false is any here more rest = more any rest

-- no number of the list has this byte among its digits
clear : (stop : ℕ) (xs : List ℕ) (n : ℕ) → list_any (λ x. n == x) xs ≡ true → list_all (λ x. not (list_any (λ b. b == stop) (decimal x))) xs ≡ true
    → Without stop (decimal n)
clear stop xs n is all = not-true (list_any (λ b. b == stop) (decimal n)) (in_list (λ x. not (list_any (λ b. b == stop) (decimal x))) xs n is all)

-- nor has a width
abbrev clear_width : (stop w : ℕ) → Bool
clear_width stop w = not (list_any (λ b. b == stop) (decimal w))

no_space : (version w : ℕ) → is_width version w ≡ true → Without 32 (decimal w)
unfolding digits
no_space version w is = not-true (list_any (λ b. b == 32) (decimal w)) (each_width (clear_width 32) refl w (width_of version w is))

pub no_newline : (version w : ℕ) → is_width version w ≡ true → Without 10 (decimal w)
unfolding digits
no_newline version w is = not-true (list_any (λ b. b == 10) (decimal w)) (each_width (clear_width 10) refl w (width_of version w is))

no_space_in_version : (version : ℕ) → is_version version ≡ true → Without 32 (decimal version)
unfolding digits
no_space_in_version version is = clear 32 versions version is refl

pub no_newline_in_version : (version : ℕ) → is_version version ≡ true → Without 10 (decimal version)
unfolding digits
no_newline_in_version version is = clear 10 versions version is refl

version_small : (version : ℕ) → is_version version ≡ true → version ≤ WIDEST
version_small version is = leb-true version WIDEST (in_list (λ v. nat_le v WIDEST) versions version is refl)

same_number : (m n : ℕ) → m ≤ WIDEST → n ≤ WIDEST → decimal m ≡ decimal n → m ≡ n
same_number m n small small' e = sym (decimal_is_IsNumeral m (omega arith)).1 ∙ ap (digits_value 10) e ∙ (decimal_is_IsNumeral n (omega arith)).1

pub record SameHeader (version client manager version' client' manager' : ℕ) (rest rest' : List ℕ) : Type 0 where
  pub versions : version ≡ version'
  pub clients : client ≡ client'
  pub managers : manager ≡ manager'
  pub rests : rest ≡ rest'

flat : (a b c d e f g : List ℕ) → (a ++ b ++ c ++ d ++ e ++ f) ++ newline ++ g ≡ a ++ (b ++ (c ++ (d ++ (e ++ (f ++ 10 ∷ g)))))
flat a b c d e f g = simp append_assoc

-- the text after the version, and after the client's width
abbrev behind_version : (client manager : ℕ) → List ℕ → List ℕ
behind_version client manager rest = decimal client ++ (codes " manager " ++ (decimal manager ++ 10 ∷ rest))

abbrev behind_client : (manager : ℕ) → List ℕ → List ℕ
behind_client manager rest = decimal manager ++ 10 ∷ rest

whole_header : (version client manager : ℕ) (rest : List ℕ)
    → header_text version client manager ++ newline ++ rest ≡ codes "tilelink-trace " ++
    (decimal version ++ (codes " client " ++ behind_version client manager rest))
whole_header version client manager rest =
    flat (codes "tilelink-trace ") (decimal version) (codes " client ") (decimal client) (codes " manager ") (decimal manager) rest

pub same_header : (version client manager version' client' manager' : ℕ) (rest rest' : List ℕ) → is_version version ≡ true
    → is_width version client ≡ true → is_width version manager ≡ true
    → is_version version' ≡ true → is_width version' client' ≡ true → is_width version' manager' ≡ true
    → header_text version client manager ++ newline ++ rest ≡ header_text version' client' manager' ++ newline ++ rest'
    → SameHeader version client manager version' client' manager' rest rest'
same_header version client manager version' client' manager' rest rest' v c m v' c' m' e =
    let e0 = sym (whole_header version client manager rest) ∙ e ∙ whole_header version' client' manager' rest' in
    let e1 =
    append_cancel_left (codes "tilelink-trace ") (decimal version ++ (codes " client " ++ behind_version client manager rest))
    (decimal version' ++ (codes " client " ++ behind_version client' manager' rest')) e0 in
    let s0 =
    split_at 32 (decimal version) (decimal version') (codes "client " ++ behind_version client manager rest)
    (codes "client " ++ behind_version client' manager' rest') e1 (no_space_in_version version v) (no_space_in_version version' v') in
    let e2 = append_cancel_left (codes "client ") (behind_version client manager rest) (behind_version client' manager' rest') s0.back in
    let s1 =
    split_at 32 (decimal client) (decimal client') (codes "manager " ++ behind_client manager rest) (codes "manager " ++ behind_client manager' rest')
    e2 (no_space version client c) (no_space version' client' c') in
    let e3 = append_cancel_left (codes "manager ") (behind_client manager rest) (behind_client manager' rest') s1.back in
    let s2 = split_at 10 (decimal manager) (decimal manager') rest rest' e3 (no_newline version manager m) (no_newline version' manager' m') in
    record {
      versions = same_number version version' (version_small version v) (version_small version' v') s0.front;
      clients = same_number client client' (width_most version client c) (width_most version' client' c') s1.front;
      managers = same_number manager manager' (width_most version manager m) (width_most version' manager' m') s2.front;
      rests = s2.back;
    }

-- ---- one beat

pub lanes_same : (n : ℕ) (xs ys : List ℕ) → length xs ≡ n → length ys ≡ n → list_all (λ lane. nat_lt lane 256) xs ≡ true
    → list_all (λ lane. nat_lt lane 256) ys ≡ true → number_of_lanes xs ≡ number_of_lanes ys → xs ≡ ys
lanes_same n [] [] l l' b b' e = refl
lanes_same n [] (y ∷ ys) l l' b b' e = absurd (omega arith)
lanes_same n (x ∷ xs) [] l l' b b' e = absurd (omega arith)
lanes_same zero (x ∷ xs) (y ∷ ys) l l' b b' e = absurd (omega arith)
lanes_same (suc n) (x ∷ xs) (y ∷ ys) l l' b b' e =
    let small = ltb-true x 256 (and_parts (nat_lt x 256) (list_all (λ lane. nat_lt lane 256) xs) b).0 in
    let small' = ltb-true y 256 (and_parts (nat_lt y 256) (list_all (λ lane. nat_lt lane 256) ys) b').0 in
    let low : x ≡ y = omega arith in
    let rest : number_of_lanes xs ≡ number_of_lanes ys = omega arith in
    let more =
    lanes_same n xs ys (omega arith) (omega arith) (and_parts (nat_lt x 256) (list_all (λ lane. nat_lt lane 256) xs) b).1
    (and_parts (nat_lt y 256) (list_all (λ lane. nat_lt lane 256) ys) b').1 rest in
    ap (λ (z : ℕ). z ∷ xs) low ∙ ap (λ (zs : List ℕ). y ∷ zs) more

kept_lanes : {H : Type 0} (f : Form H) (w : ℕ) (x y : BeatOf H WIDEST) → is_kept f w x ≡ true → is_kept f w y ≡ true
    → number_of_lanes x.lanes ≡ number_of_lanes y.lanes → x.lanes ≡ y.lanes
kept_lanes f w x y kept kept' e =
    let a = lanes_parts WIDEST x.lanes (kept_parts f w x kept).0 in
    let b = lanes_parts WIDEST y.lanes (kept_parts f w y kept').0 in
    lanes_same WIDEST x.lanes y.lanes a.0 b.0 a.1 b.1 e

bit_same : (x y : Bool) → bit x ≡ bit y → x ≡ y
bit_same true true e = refl
bit_same true false e = absurd (omega arith)
bit_same false true e = absurd (omega arith)
bit_same false false e = refl

-- the head with the first values of a line
abbrev head_a : List ℕ → HeadA
head_a vs = record { opcode = get_or vs 0 0; param = get_or vs 1 0; size = get_or vs 2 0; source = get_or vs 3 0; address = get_or vs 4 0 }

abbrev head_b : List ℕ → HeadB
head_b vs = record { opcode = get_or vs 0 0; param = get_or vs 1 0; size = get_or vs 2 0; source = get_or vs 3 0; address = get_or vs 4 0 }

abbrev head_c : List ℕ → HeadC
head_c vs = record { opcode = get_or vs 0 0; param = get_or vs 1 0; size = get_or vs 2 0; source = get_or vs 3 0; address = get_or vs 4 0 }

abbrev head_d : Bool → List ℕ → HeadD
head_d denied vs = record {
  opcode = get_or vs 0 0;
  param = get_or vs 1 0;
  size = get_or vs 2 0;
  source = get_or vs 3 0;
  sink = get_or vs 4 0;
  denied = denied;
}

abbrev head_e : List ℕ → HeadE
head_e vs = record { sink = get_or vs 0 0 }

-- beats of one line have the same values
module _ {H : Type 0} (f : Form H) (w : ℕ) (x y : BeatOf H WIDEST) (text : List ℕ) (a : IsLine f w x text) (b : IsLine f w y text) where
  same_values : map (value_of f x) (fields f) ≡ map (value_of f y) (fields f)
  same_values = sym a.says ∙ b.says

  same_value : (k : ℕ) → get_or (map (value_of f x) (fields f)) k 0 ≡ get_or (map (value_of f y) (fields f)) k 0
  same_value k = ap (λ vs. get_or vs k 0) same_values

line_a : (version w : ℕ) (x y : BeatOf HeadA WIDEST) (text : List ℕ) → is_kept (form_a version) w x ≡ true → is_kept (form_a version) w y ≡ true
    → IsLine (form_a version) w x text → IsLine (form_a version) w y text → x ≡ y
line_a version w x y text kept kept' a b =
    let v = same_value (form_a version) w x y text a b in
    same_beat x y (ap head_a (same_values (form_a version) w x y text a b)) (v 5) (kept_lanes (form_a version) w x y kept kept' (v 6))
    (bit_same x.corrupt y.corrupt (v 7))

line_b : (version w : ℕ) (x y : BeatOf HeadB WIDEST) (text : List ℕ) → is_kept (form_b version) w x ≡ true → is_kept (form_b version) w y ≡ true
    → IsLine (form_b version) w x text → IsLine (form_b version) w y text → x ≡ y
line_b version w x y text kept kept' a b =
    let v = same_value (form_b version) w x y text a b in
    same_beat x y (ap head_b (same_values (form_b version) w x y text a b)) (v 5) (kept_lanes (form_b version) w x y kept kept' (v 6))
    (bit_same x.corrupt y.corrupt (v 7))

mask_zero : (masked : Bool) (mask : ℕ) (other : Bool) → masked ≡ false → (masked || nat_eq mask 0) && other ≡ true → mask ≡ 0
mask_zero true mask other e h = absurd cc
mask_zero false mask other e h = eqb-true mask 0 (and_parts (nat_eq mask 0) other h).0

no_mask : {H : Type 0} (f : Form H) (w : ℕ) (x y : BeatOf H WIDEST) → is_kept f w x ≡ true → is_kept f w y ≡ true → f.rules.masked ≡ false
    → x.mask ≡ y.mask
no_mask f w x y kept kept' e =
    mask_zero f.rules.masked x.mask (f.rules.corrupts || (list_all (λ lane. nat_eq lane 0) x.lanes && not x.corrupt)) e (kept_parts f w x kept).2
    ∙ sym (mask_zero f.rules.masked y.mask (f.rules.corrupts || (list_all (λ lane. nat_eq lane 0) y.lanes && not y.corrupt)) e
    (kept_parts f w y kept').2)

line_c : (version w : ℕ) (x y : BeatOf HeadC WIDEST) (text : List ℕ) → is_kept (form_c version) w x ≡ true → is_kept (form_c version) w y ≡ true
    → IsLine (form_c version) w x text → IsLine (form_c version) w y text → x ≡ y
line_c version w x y text kept kept' a b =
    let v = same_value (form_c version) w x y text a b in
    same_beat x y (ap head_c (same_values (form_c version) w x y text a b)) (no_mask (form_c version) w x y kept kept' refl)
    (kept_lanes (form_c version) w x y kept kept' (v 5)) (bit_same x.corrupt y.corrupt (v 6))

line_d : (version w : ℕ) (x y : BeatOf HeadD WIDEST) (text : List ℕ) → is_kept (form_d version) w x ≡ true → is_kept (form_d version) w y ≡ true
    → IsLine (form_d version) w x text → IsLine (form_d version) w y text → x ≡ y
line_d version w x y text kept kept' a b =
    let v = same_value (form_d version) w x y text a b in
    let denied : x.head.denied ≡ y.head.denied = bit_same x.head.denied y.head.denied (v 5) in
    let head : x.head ≡ y.head =
    ap (head_d x.head.denied) (same_values (form_d version) w x y text a b)
    ∙ ap (λ (n : Bool). let h : HeadD = record y.head { denied = n } in h) denied in
    same_beat x y head (no_mask (form_d version) w x y kept kept' refl)
    (kept_lanes (form_d version) w x y kept kept' (v 6)) (bit_same x.corrupt y.corrupt (v 7))

no_lanes : (lanes : List ℕ) → list_all (λ lane. nat_eq lane 0) lanes ≡ true → number_of_lanes lanes ≡ 0
no_lanes [] e = refl
no_lanes (lane ∷ lanes) e =
    let here : lane ≡ 0 = eqb-true lane 0 (and_parts (nat_eq lane 0) (list_all (λ lane. nat_eq lane 0) lanes) e).0 in
    let rest = no_lanes lanes (and_parts (nat_eq lane 0) (list_all (λ lane. nat_eq lane 0) lanes) e).1 in
    omega arith

plain_e : (version w : ℕ) (x : BeatOf HeadE WIDEST) → is_kept (form_e version) w x ≡ true
    → (list_all (λ lane. nat_eq lane 0) x.lanes ≡ true) × (x.corrupt ≡ false)
plain_e version w x kept =
    let plain =
    (and_parts (nat_eq x.mask 0) (list_all (λ lane. nat_eq lane 0) x.lanes && not x.corrupt) (kept_parts (form_e version) w x kept).2).1 in (
      (and_parts (list_all (λ lane. nat_eq lane 0) x.lanes) (not x.corrupt) plain).0,
      not-true x.corrupt (and_parts (list_all (λ lane. nat_eq lane 0) x.lanes) (not x.corrupt) plain).1,
    )

line_e : (version w : ℕ) (x y : BeatOf HeadE WIDEST) (text : List ℕ) → is_kept (form_e version) w x ≡ true → is_kept (form_e version) w y ≡ true
    → IsLine (form_e version) w x text → IsLine (form_e version) w y text → x ≡ y
line_e version w x y text kept kept' a b =
    let px = plain_e version w x kept in
    let py = plain_e version w y kept' in
    let lanes = kept_lanes (form_e version) w x y kept kept' (no_lanes x.lanes px.0 ∙ sym (no_lanes y.lanes py.0)) in
    same_beat x y (ap head_e (same_values (form_e version) w x y text a b)) (no_mask (form_e version) w x y kept kept' refl) lanes (px.1 ∙ sym py.1)

-- beats of two channels have two letters
line_same : (version client manager : ℕ) (line line' : Line) (text : List ℕ) → is_kept_line version client manager line ≡ true
    → is_kept_line version client manager line' ≡ true
    → SaysLine version client manager line text → SaysLine version client manager line' text → line ≡ line'
line_same version client manager (A x) (A y) text kept kept' says says' = ap A (line_a version client x y text kept kept' says says')
line_same version client manager (B x) (B y) text kept kept' says says' = ap B (line_b version manager x y text kept kept' says says')
line_same version client manager (C x) (C y) text kept kept' says says' = ap C (line_c version client x y text kept kept' says says')
line_same version client manager (D x) (D y) text kept kept' says says' = ap D (line_d version manager x y text kept kept' says says')
line_same version client manager (E x) (E y) text kept kept' says says' = ap E (line_e version client x y text kept kept' says says')
line_same version client manager x y text kept kept' says says' = absurd (omega (arith, says.letter, says'.letter))

long_line : (body rest : List ℕ) → body ++ newline ++ rest ≡ [] → ⊥
long_line [] rest e = cc
long_line (b ∷ body) rest e = cc

pub lines_same : (version client manager : ℕ) (lines lines' : List Line) (text : List ℕ)
    → list_all (is_kept_line version client manager) lines ≡ true → list_all (is_kept_line version client manager) lines' ≡ true
    → TellsLines version client manager lines text → TellsLines version client manager lines' text → lines ≡ lines'
lines_same version client manager [] [] text kept kept' told told' = refl
lines_same version client manager [] (line ∷ lines') text kept kept' told told' = absurd (long_line told'.0 told'.1 (sym told'.2 ∙ told))
lines_same version client manager (line ∷ lines) [] text kept kept' told told' = absurd (long_line told.0 told.1 (sym told.2 ∙ told'))
lines_same version client manager (line ∷ lines) (line' ∷ lines') text kept kept' told told' =
    let free = says_free version client manager line told.0 told.3 in
    let free' = says_free version client manager line' told'.0 told'.3 in
    let parts =
    split_at 10 told.0 told'.0 told.1 told'.1 (sym (append_assoc told.0 newline told.1) ∙ sym told.2 ∙ told'.2 ∙ append_assoc told'.0 newline told'.1)
    free free' in
    let P : List ℕ → Type 0 = SaysLine version client manager line' in
    let says' = subst P (sym parts.front) told'.3 in
    let Q : List ℕ → Type 0 = TellsLines version client manager lines' in
    let rest' = subst Q (sym parts.back) told'.4 in
    let here =
    line_same version client manager line line' told.0
    (and_parts (is_kept_line version client manager line) (list_all (is_kept_line version client manager) lines) kept).0
    (and_parts (is_kept_line version client manager line') (list_all (is_kept_line version client manager) lines') kept').0 told.3 says' in
    let more =
    lines_same version client manager lines lines' told.1
    (and_parts (is_kept_line version client manager line) (list_all (is_kept_line version client manager) lines) kept).1
    (and_parts (is_kept_line version client manager line') (list_all (is_kept_line version client manager) lines') kept').1 told.4 rest' in
    ap (λ (l : Line). l ∷ lines) here ∙ ap (λ (ls : List Line). line' ∷ ls) more

pub one_trace : (text : List ℕ) (version client manager : ℕ) (lines : List Line) (version' client' manager' : ℕ) (lines' : List Line)
    → Tells text version client manager lines → Tells text version' client' manager' lines'
    → (version ≡ version') × (client ≡ client') × (manager ≡ manager') × (lines ≡ lines')
one_trace text version client manager lines version' client' manager' lines' t t' =
    let h =
    same_header version client manager version' client' manager' t.rest t'.rest t.trace.known_version t.trace.client_width t.trace.manager_width
    t'.trace.known_version t'.trace.client_width t'.trace.manager_width (sym t.header ∙ t'.header) in
    let O : ℕ → Type 0 = λ v. TellsLines v client' manager' lines' t.rest in
    let P : ℕ → Type 0 = λ c. TellsLines version c manager' lines' t.rest in
    let Q : ℕ → Type 0 = λ m. TellsLines version client m lines' t.rest in
    let R : List ℕ → Type 0 = TellsLines version' client' manager' lines' in
    let J : ℕ → Type 0 = λ v. list_all (is_kept_line v client' manager') lines' ≡ true in
    let K : ℕ → Type 0 = λ c. list_all (is_kept_line version c manager') lines' ≡ true in
    let L : ℕ → Type 0 = λ m. list_all (is_kept_line version client m) lines' ≡ true in
    let told' = subst Q (sym h.managers) (subst P (sym h.clients) (subst O (sym h.versions) (subst R (sym h.rests) t'.told))) in
    let kept' = subst L (sym h.managers) (subst K (sym h.clients) (subst J (sym h.versions) t'.trace.kept)) in
    (h.versions, h.clients, h.managers, lines_same version client manager lines lines' t.rest t.trace.kept kept' t.told told')
