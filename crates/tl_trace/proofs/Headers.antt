-- Finding what a first line names.
use Rattle.tl_trace.proofs.Names.{◌-◌, get_or, ◌≡◌, ℕ, suc, ◌+◌, ◌*◌, ◌/◌, ◌%◌, ◌^◌, ◌<◌, ◌≤◌, Bool, true, false, cond, List, [], ◌∷◌, ◌++◌, length}
use Rattle.tl_trace.proofs.Names.{map, take, Option, None, Some, refl, sym, ap, ◌∙◌, subst, arith, append-nil, length-append, drop, div-lt_iff_lt-mul}
use Rattle.tl_trace.proofs.Names.{mod-lt, div-add-mod', take_all, length-map, length-take-le, get_or-map, drop_more, take_more, take-append-drop}
use Rattle.tl_trace.proofs.Names.{find-append, WIDEST_POWER, find, slice_get, flat_map, option_or, list_all, slice_range, and_parts, nat_tests}
use Rattle.tl_trace.proofs.Names.{header_text, widest_power, widths, is_width, is_version, headers, headers_of, header_of, is_header_of, Header}
use Rattle.std.proofs.Math.Pow.{pow-lt}
use Rattle.std.proofs.lemmas.List.Concat.{get_or-flat_map}
use Rattle.std.proofs.lemmas.List.FromFn.{get_or-map-range_with_len, length-map-range_with_len}
use Rattle.std.proofs.lemmas.Option.{slice_get-get_or, slice_get_within, get_or_from_slice_get}
use Rattle.tl_msg.proofs.Firsts.{find_holds}
use Rattle.std.specs.Bool.{Decides}
use Rattle.std.proofs.lemmas.Slice.Eq.{bytes_eq-Decides}

-- none of the first headers of a version is that of the text
pub record IsPassed (text : List ℕ) (version i : ℕ) : Type 0 where
  pub none : find (is_header_of text) (take i (headers_of version)) ≡ None

abbrev pub header : (version client manager : ℕ) → Header
header version client manager = record { version = version; client = client; manager = manager }

-- the headers of a version whose client has this width
abbrev row : (version client : ℕ) → List Header
row version client = map (λ manager. header version client manager) (widths version)

rows_long : (version : ℕ) (clients : List ℕ) → length (flat_map (row version) clients) ≡ length clients * (widest_power version + 1)
rows_long version [] = omega arith
rows_long version (client ∷ clients) =
    let here : length (row version client) ≡ widest_power version + 1 =
    length-map (widths version) (λ manager. header version client manager) ∙ length-map-range_with_len (λ k. 2 ^ k) 0 (widest_power version + 1) in
    let rest = rows_long version clients in
    let spread : suc (length clients) * (widest_power version + 1) ≡ (widest_power version + 1) + length clients * (widest_power version + 1) =
    grind arith in
    length-append (row version client) (flat_map (row version) clients) ∙ omega (arith, here, rest) ∙ sym spread

pub headers_long : (version : ℕ) → length (headers_of version) ≡ (widest_power version + 1) * (widest_power version + 1)
headers_long version =
    rows_long version (widths version)
    ∙ ap (λ (n : ℕ). n * (widest_power version + 1)) (length-map-range_with_len (λ k. 2 ^ k) 0 (widest_power version + 1))

-- the width at k
width_at : (version k : ℕ) → k < widest_power version + 1 → get_or (widths version) k 0 ≡ 2 ^ k
width_at version k lt = get_or-map-range_with_len (λ j. 2 ^ j) 0 (widest_power version + 1) k k 0 lt (omega arith)

-- the header of a version at i, by its row and its place in the row
pub listed_at : (version n i : ℕ) → n ≡ widest_power version + 1 → i < n * n
    → slice_get (headers_of version) i ≡ Some (header version (2 ^ (i / n)) (2 ^ (i % n)))
listed_at version n i is lt = subst P (sym is) (at i (subst Q is lt))
  where
    P : ℕ → Type 0
    P k = slice_get (headers_of version) i ≡ Some (header version (2 ^ (i / k)) (2 ^ (i % k)))

    Q : ℕ → Type 0
    Q k = i < k * k

    none : Header
    none = header 0 0 0

    at : (i : ℕ) → i < (widest_power version + 1) * (widest_power version + 1)
        → slice_get (headers_of version) i ≡ Some (header version (2 ^ (i / (widest_power version + 1))) (2 ^ (i % (widest_power version + 1))))
    at i lt =
        let m = widest_power version + 1 in
        let ws = widths version in
        let long : length ws ≡ m = length-map-range_with_len (λ k. 2 ^ k) 0 m in
        let some : 0 < m = omega arith in
        let above : i / m < m = (div-lt_iff_lt-mul {k = m} {x = i} {y = m} some).1 lt in
        let inside : i % m < m = mod-lt i some in
        let whole : i / m * m + i % m ≡ i = div-add-mod' i m in
        let before : length (flat_map (row version) (take (i / m) ws)) ≡ i / m * m =
        rows_long version (take (i / m) ws) ∙ ap (λ (k : ℕ). k * m) (length-take-le (i / m) ws (omega (arith, long, above))) in
        let place : length (flat_map (row version) (take (i / m) ws)) + i % m ≡ i = omega (arith, before, whole) in
        let width : length (row version (get_or ws (i / m) 0)) ≡ m = length-map ws (λ manager. header version (get_or ws (i / m) 0) manager) ∙ long in
        slice_get-get_or (headers_of version) i none (omega (arith, headers_long version, lt))
        ∙ ap (λ (k : ℕ). Some (get_or (headers_of version) k none)) (sym place)
        ∙ ap (λ (h : Header). Some h) (get_or-flat_map (row version) ws (i / m) (i % m) 0 none (omega (arith, long, above))
        (omega (arith, width, inside)))
        ∙ ap (λ (h : Header). Some h) (get_or-map (λ manager. header version (get_or ws (i / m) 0) manager) ws (i % m) 0 none
        (omega (arith, long, inside)))
        ∙ ap (λ (k : ℕ). Some (header version k (get_or ws (i % m) 0))) (width_at version (i / m) above)
        ∙ ap (λ (k : ℕ). Some (header version (2 ^ (i / m)) k)) (width_at version (i % m) inside)

shifted : (k : ℕ) → k ≤ WIDEST_POWER → 1 * 2 ^ k % 2 ^ 64 ≡ 2 ^ k
shifted k le =
    let fits : 2 ^ k < 2 ^ 64 = pow-lt {i = k} {j = 64} (omega arith) in
    omega arith

-- the same by shifts of 1
pub shifted_at : (version n i : ℕ) → n ≡ widest_power version + 1 → n ≤ WIDEST_POWER + 1 → i < n * n
    → slice_get (headers_of version) i ≡ Some (header version (1 * 2 ^ (i / n) % 2 ^ 64) (1 * 2 ^ (i % n) % 2 ^ 64))
shifted_at version n i is few lt =
    let some : 0 < n = omega (arith, is) in
    let above : i / n < n = (div-lt_iff_lt-mul {k = n} {x = i} {y = n} some).1 lt in
    let inside : i % n < n = mod-lt i some in
    listed_at version n i is lt
    ∙ ap (λ (k : ℕ). Some (header version k (2 ^ (i % n)))) (sym (shifted (i / n) (omega (arith, above, few))))
    ∙ ap (λ (k : ℕ). Some (header version (1 * 2 ^ (i / n) % 2 ^ 64) k)) (sym (shifted (i % n) (omega (arith, inside, few))))

-- the result of a search, after headers that do not match
behind : (p : Header → Bool) (xs ys : List Header) (x : Header) (is : Bool) → find p xs ≡ None → p x ≡ is
    → find p (xs ++ x ∷ ys) ≡ cond is (Some x) (find p ys)
behind p xs ys x is none at = find-append p xs (x ∷ ys) ∙ rw (none, at) refl

pub found : (text : List ℕ) (version i : ℕ) (h : Header) → IsPassed text version i → slice_get (headers_of version) i ≡ Some h
    → is_header_of text h ≡ true
    → find (is_header_of text) (headers_of version) ≡ Some h
found text version i h far at is =
    let hs = headers_of version in
    let here : drop i hs ≡ h ∷ drop (i + 1) hs =
    drop_more hs i h (slice_get_within hs i h at) ∙ ap (λ (x : Header). x ∷ drop (i + 1) hs) (get_or_from_slice_get hs i h h at) in
    ap (find (is_header_of text)) (sym (take-append-drop i hs) ∙ ap (λ (xs : List Header). take i hs ++ xs) here)
    ∙ behind (is_header_of text) (take i hs) (drop (i + 1) hs) h true far.none is

pub passed : (text : List ℕ) (version i : ℕ) (h : Header) → IsPassed text version i → slice_get (headers_of version) i ≡ Some h
    → is_header_of text h ≡ false → IsPassed text version (i + 1)
passed text version i h far at is =
    let hs = headers_of version in
    let here : take (i + 1) hs ≡ take i hs ++ h ∷ [] =
    take_more hs i h (slice_get_within hs i h at) ∙ ap (λ (x : Header). take i hs ++ x ∷ []) (get_or_from_slice_get hs i h h at) in
    record { none = ap (find (is_header_of text)) here ∙ behind (is_header_of text) (take i hs) [] h false far.none is }

pub not_found : (text : List ℕ) (version n i : ℕ) → n ≡ widest_power version + 1 → n * n ≤ i → IsPassed text version i
    → find (is_header_of text) (headers_of version) ≡ None
not_found text version n i is le far =
    let P : ℕ → Type 0 = λ k. k * k ≤ i in
    let most : (widest_power version + 1) * (widest_power version + 1) ≤ i = subst P is le in
    ap (find (is_header_of text)) (sym (take_all i (headers_of version) (omega (arith, headers_long version, most)))) ∙ far.none

-- the versions one after the other
pub of_versions : (text : List ℕ) → header_of text ≡ option_or (find (is_header_of text) (headers_of 1)) (find (is_header_of text) (headers_of 2))
unfolding header_of
of_versions text =
    find-append (is_header_of text) (headers_of 1) (headers_of 2 ++ [])
    ∙ ap (λ (hs : List Header). option_or (find (is_header_of text) (headers_of 1)) (find (is_header_of text) hs)) (append-nil (headers_of 2))

-- ---- what is found

split_all : (q : Header → Bool) (y x : Header) (o : Option Header) (b : Bool) → q y ≡ true → cond b (Some y) o ≡ Some x → (o ≡ Some x → q x ≡ true)
    → q x ≡ true
split_all q y x o true here e more = let same : x ≡ y = cc in rw (same, here) refl
split_all q y x o false here e more = more e

find_all : (p q : Header → Bool) (xs : List Header) (x : Header) → list_all q xs ≡ true → find p xs ≡ Some x → q x ≡ true
find_all p q [] x all e = absurd cc
find_all p q (y ∷ xs) x all e =
    split_all q y x (find p xs) (p y) (and_parts (q y) (list_all q xs) all).0 e (find_all p q xs x (and_parts (q y) (list_all q xs) all).1)

-- a header has a known version and known widths
pub known : (text : List ℕ) (h : Header) → header_of text ≡ Some h
    → (is_version h.version ≡ true) × (is_width h.version h.client ≡ true) × (is_width h.version h.manager ≡ true)
unfolding header_of
known text h e = (
  find_all (is_header_of text) (λ h. is_version h.version) headers h refl e,
  find_all (is_header_of text) (λ h. is_width h.version h.client) headers h refl e,
  find_all (is_header_of text) (λ h. is_width h.version h.manager) headers h refl e,
)

pub is_header : (text : List ℕ) (h : Header) → header_of text ≡ Some h → text ≡ header_text h.version h.client h.manager
unfolding header_of
is_header text h e =
    same_bytes (is_header_of text h) text (header_text h.version h.client h.manager)
    (bytes_eq-Decides text (header_text h.version h.client h.manager)) (find_holds (is_header_of text) headers h e)
  where
    same_bytes : (b : Bool) (xs ys : List ℕ) → Decides b (xs ≡ ys) → b ≡ true → xs ≡ ys
    same_bytes true xs ys d e = d.0 refl
    same_bytes false xs ys d e = absurd cc

-- an empty text is no header
pub no_empty_header : header_of [] ≡ None
unfolding header_of
no_empty_header = refl

pub from_start : (text : List ℕ) (end : ℕ) (o : Option Header) → o ≡ header_of (take end text) → header_of (slice_range text 0 end) ≡ o
from_start text end o e = let all : end - 0 ≡ end = omega arith in ap (λ (n : ℕ). header_of (take n text)) all ∙ sym e

-- the widths that version 1 can name
pub narrow_count : (version : ℕ) → version ≡ 1 → 7 ≡ widest_power version + 1
narrow_count version one = rw one refl

-- and those that another can
pub wide_count : (version : ℕ) → (version ≡ 1 → ⊥) → WIDEST_POWER + 1 ≡ widest_power version + 1
wide_count version other = grind (arith, nat_tests)
