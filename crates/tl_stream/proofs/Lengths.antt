-- A trace has no more lines than its text has bytes, and no channel has more beats than the trace has lines.
use Rattle.tl_stream.proofs.Names.{◌≡◌, ◌≤◌, ◌^◌, ℕ, suc, List, [], ◌∷◌, ◌++◌, length, Option, None, Some, sym, ap, subst, arith, length-append}
use Rattle.tl_stream.proofs.Names.{filter_map, cons_option, Tells, TellsLines, newline, header_text, Line, most_bytes}

-- one choice adds at most one item
one-more : {X : Type 0} (o : Option X) (xs : List X) → length (cons_option o xs) ≤ suc (length xs)
one-more None xs = omega arith
one-more (Some x) xs = omega arith

-- the items chosen from a list are at most as many as its items
chosen : {A X : Type 0} (h : A → Option X) (xs : List A) → length (filter_map h xs) ≤ length xs
chosen h [] = omega arith
chosen h (x ∷ xs) = let below = chosen h xs in let more = one-more (h x) (filter_map h xs) in omega arith

-- a text with a line end is longer than what follows the line end
longer : (before after : List ℕ) → suc (length after) ≤ length (before ++ newline ++ after)
longer before after = let whole = length-append (before ++ newline) after in let start = length-append before newline in omega arith

-- each line has a byte, its end
lines-in-bytes : (version client manager : ℕ) (lines : List Line) (text : List ℕ) → TellsLines version client manager lines text →
    length lines ≤ length text
lines-in-bytes version client manager [] text told = omega arith
lines-in-bytes version client manager (line ∷ lines) text (body, rest, same, says, told) =
    let below = lines-in-bytes version client manager lines rest told in
    let more : suc (length rest) ≤ length text = subst (λ t. suc (length rest) ≤ length t) (sym same) (longer body rest) in
    omega arith

-- a trace has fewer lines after its header than its text has bytes
pub lines-below : (text : List ℕ) (version client manager : ℕ) (lines : List Line) → Tells text version client manager lines →
    suc (length lines) ≤ length text
lines-below text version client manager lines tells =
    let below = lines-in-bytes version client manager lines tells.rest tells.told in
    let more : suc (length tells.rest) ≤ length text =
    subst (λ t. suc (length tells.rest) ≤ length t) (sym tells.header) (longer (header_text version client manager) tells.rest) in
    omega arith

-- and no more of them than a text may have bytes
pub lines-few : (text : List ℕ) (version client manager : ℕ) (lines : List Line) → Tells text version client manager lines →
    length text ≤ most_bytes → length lines ≤ most_bytes
lines-few text version client manager lines tells few = let below = lines-below text version client manager lines tells in omega arith

-- the items chosen from the lines of a text can be counted
pub few-chosen : {X : Type 0} (h : Line → Option X) (lines : List Line) → length lines ≤ most_bytes → (xs : List X) → xs ≡ filter_map h lines →
    length xs ≤ 2 ^ 40
few-chosen h lines few xs is =
    let below = chosen h lines in let same : length xs ≡ length (filter_map h lines) = ap length is in omega arith
