-- The state after some reads of a piece.
use Rattle.tl_stream.proofs.Names.{Result, Ok, Err, IfSome, IsErrOf, IsAtEnd, TextFault, ◌≡◌}
use Rattle.tl_stream.proofs.Names.{◌≢◌, ℕ, [], refl, ◌+◌, ◌-◌, ◌<◌, ◌≤◌, List, ◌++◌, length, take, drop, Option, sym, ap, ◌∙◌}
use Rattle.tl_stream.proofs.Names.{subst, arith, append_assoc, length-append, length-drop, length-take-le, take-append-le, take_rest, Consumes-trans}
use Rattle.tl_stream.proofs.Names.{Consumes, copy_within, slice_range, HasTaken, held, most_bytes, Input}
use Rattle.std.proofs.Math.Seq.{take-append-add, take-append_seam}
use borrow.Rule.Slice.PartMut.{put_mid, post_of}
use Rattle.tl_trace.specs.declared.places.TheConstants.{LONGEST_LINE}
use Rattle.tl_stream.specs.Inner.Filling.{IsFilled, IsReadFault, IsTooMany}
use Rattle.tl_stream.specs.declared.fault.TextFault.TheVariants as faults
use Rattle.tl_stream.proofs.Between.{held_size, of_text}

-- the first bytes of the room are those that were taken, at most `most`
pub record SoFar (old now : Option (List ℕ)) (most : ℕ) (room : List ℕ) (filled : ℕ) : Type 0 where
  pub within : filled ≤ length room
  pub few : filled ≤ most
  pub took : Consumes old now (take filled room)

put_front : (a k n : ℕ) (xs ys : List ℕ) → a ≤ length xs → n ≤ length ys → take (a + n) (put_mid a k xs ys) ≡ take a xs ++ take n ys
put_front a k n xs ys le few =
    let size : length (take a xs) ≡ a = length-take-le a xs le in
    ap (λ (m : ℕ). take (m + n) (take a xs ++ (ys ++ post_of a k xs))) (sym size) ∙ take-append-add (take a xs) (ys ++ post_of a k xs) n
    ∙ ap (λ (zs : List ℕ). take a xs ++ zs) (take-append-le n ys (post_of a k xs) few)

-- writing over a part keeps the length
pub put_size : (a : ℕ) (xs ys : List ℕ) → a ≤ length xs → length ys ≡ length xs - a → length (put_mid a (length xs - a) xs ys) ≡ length xs
put_size a xs ys le same =
    let front : length (take a xs) ≡ a = length-take-le a xs le in
    let after = length-drop a xs in
    let none : length (post_of a (length xs - a) xs) ≡ length (drop a xs) - (length xs - a) = length-drop (length xs - a) (drop a xs) in
    let back = length-append ys (post_of a (length xs - a) xs) in
    let whole = length-append (take a xs) (ys ++ post_of a (length xs - a) xs) in
    omega arith

-- the room after the first bytes
pub room_size : (a : ℕ) (xs : List ℕ) → length (take (length xs - a) (drop a xs)) ≡ length xs - a
room_size a xs = ap length (take_rest xs a) ∙ length-drop a xs

-- a read gave n bytes more
pub goes_on : (old now new : Option (List ℕ)) (most : ℕ) (room buf : List ℕ) (f n : ℕ) → SoFar old now most room f →
    length buf ≡ length room - f → n ≤ length buf → n ≤ most - f
    → Consumes now new (take n buf) → SoFar old new most (put_mid f (length room - f) room buf) (f + n)
goes_on old now new most room buf f n s size fits few took =
    let within : f ≤ length room = s.within in
    let most_before : f ≤ most = s.few in
    let long = put_size f room buf s.within size in
    record {
      within = omega (arith, long);
      few = omega arith;
      took = subst (Consumes old new) (sym (put_front f (length room - f) n room buf s.within fits))
          (Consumes-trans old now new (take f room) (take n buf) s.took took);
    }

-- the room is full
pub full : (old now : Option (List ℕ)) (most : ℕ) (room : List ℕ) (f : ℕ) → SoFar old now most room f → length room ≤ f →
    IsFilled old now most room f
full old now most room f s past = record {
  within = s.within;
  few = s.few;
  took = s.took;
  end = λ other. let within : f ≤ length room = s.within in absurd (other (omega arith));
}

-- the end was found
pub ended : (old now new : Option (List ℕ)) (most : ℕ) (room buf : List ℕ) (f n : ℕ) → SoFar old now most room f →
    length buf ≡ length room - f → f < length room → n ≡ 0
    → Consumes now new (take n buf) → (n ≡ 0 → 0 < length buf → IsAtEnd new)
    → IsFilled old new most (put_mid f (length room - f) room buf) f
ended old now new most room buf f n s size lt none took end =
    let more = goes_on old now new most room buf f n s size (omega (arith, none)) (omega (arith, none)) took in
    let all = put_mid f (length room - f) room buf in
    let same : f + n ≡ f = omega (arith, none) in
    let here : SoFar old new most all f = subst (SoFar old new most all) same more in
    record { within = here.within; few = here.few; took = here.took; end = λ other. end none (omega (arith, size, lt)) }

-- and they were too many
pub too_many : (old now new : Option (List ℕ)) (most : ℕ) (room buf : List ℕ) (f n : ℕ) →
    SoFar old now most room f → n ≤ length buf → most - f < n
    → Consumes now new (take n buf) → IsTooMany old new most
too_many old now new most room buf f n s fits many took =
    let front : length (take f room) ≡ f = length-take-le f room s.within in
    let back : length (take n buf) ≡ n = length-take-le n buf fits in
    let whole = length-append (take f room) (take n buf) in
    let most_before : f ≤ most = s.few in
    (take f room ++ take n buf, Consumes-trans old now new (take f room) (take n buf) s.took took, omega arith)

-- the bytes of a place, moved to the front
moved_front : (buffer : List ℕ) (from to : ℕ) → from ≤ to → to ≤ length buffer →
    take (to - from) (copy_within buffer from to 0) ≡ slice_range buffer from to
moved_front buffer from to le within =
    let part = take (to - from) (drop from buffer) in
    let after = length-drop from buffer in
    let size : length part ≡ to - from = length-take-le (to - from) (drop from buffer) (omega arith) in
    ap (λ (n : ℕ). take n (part ++ drop (0 + (to - from)) buffer)) (sym size) ∙ take-append_seam part (drop (0 + (to - from)) buffer)

-- the first n bytes of the buffer are those that were kept, followed by those that were read
record IsRefilled (old new : Option (List ℕ)) (kept : List ℕ) (most : ℕ) (buffer : List ℕ) (n : ℕ) : Type 0 where
  within : n ≤ length buffer
  bytes : List ℕ
  front : take n buffer ≡ kept ++ bytes
  count : n ≡ length kept + length bytes
  few : length bytes ≤ most
  took : Consumes old new bytes
  end : n ≢ length buffer → IsAtEnd new

refilled : (old new : Option (List ℕ)) (buffer moved room : List ℕ) (from to most n : ℕ) → from ≤ to → to ≤ length buffer →
    length moved ≡ length buffer → moved ≡ copy_within buffer from to 0
    → length room ≡ length moved - (to - from) → IsFilled old new most room n
    → IsRefilled old new (slice_range buffer from to) most (put_mid (to - from) (length moved - (to - from)) moved room) (to - from + n)
refilled old new buffer moved room from to most n le within same is size f =
    let k = to - from in
    let long = put_size k moved room (omega arith) size in
    let fits : n ≤ length room = f.within in
    let after = length-drop from buffer in
    let kept : length (slice_range buffer from to) ≡ k = length-take-le k (drop from buffer) (omega arith) in
    let bytes : length (take n room) ≡ n = length-take-le n room fits in
    record {
      within = omega (arith, long);
      bytes = take n room;
      front = put_front k (length moved - k) n moved room (omega arith) fits ∙
          ap (λ (xs : List ℕ). xs ++ take n room) (ap (λ (xs : List ℕ). take k xs) is ∙ moved_front buffer from to le within);
      count = omega (arith, kept, bytes);
      few = let most_n : n ≤ most = f.few in omega arith;
      took = f.took;
      end = λ other. f.end (λ e. other (omega (arith, long, e)));
    }

-- ---- a text of which an input holds a part

-- the first piece
pub opened : (old new : Option (List ℕ)) (room : List ℕ) (n : ℕ) → IsFilled old new most_bytes room n → LONGEST_LINE < length room →
    (input : Input) → input.buffer.items ≡ room → input.from ≡ 0 → input.to ≡ n → input.total ≡ n → HasTaken old new [] input
opened old new room n f long input is from to total =
    let front : held input ≡ take n room = ap (λ (xs : List ℕ). slice_range xs input.from input.to) is ∙
    ap (λ (k : ℕ). slice_range room k input.to) from ∙ ap (λ (k : ℕ). take k room) (omega (arith, to)) in
    let size : length (take n room) ≡ n = length-take-le n room f.within in
    let same = ap length front in
    let whole = ap length is in
    record {
      took = subst (Consumes old new) (sym front) f.took;
      count = omega (arith, total, size, same);
      few = omega (arith, total, f.few);
      from = omega (arith, from);
      to = omega (arith, to, f.within, whole);
      end = λ other. f.end (λ e. other (to ∙ e ∙ sym whole));
      room = omega (arith, long, whole);
    }

-- and if it is too long
pub opened-long : (old new : Option (List ℕ)) → IsTooMany old new most_bytes → IfSome old (λ text. most_bytes < length text)
opened-long old new many =
    of_text (λ text. most_bytes < length text) old new many.0 many.1 (λ more.
    let past : most_bytes < length many.0 = many.2 in
    let whole = length-append many.0 more in
    omega arith)

module _ (unread old new : Option (List ℕ)) (used : List ℕ) (input : Input) (t : HasTaken unread old used input) where
  -- the kept part is at the front of its buffer, followed by the bytes that were read
  pub refilled-taken : (before moved room : List ℕ) (n : ℕ) → before ≡ input.buffer.items → length moved ≡ length before
      → moved ≡ copy_within before input.from input.to 0 → length room ≡ length moved - (input.to - input.from)
      → IsFilled old new (most_bytes - input.total) room n
      → (input' : Input) → input'.buffer.items ≡ put_mid (input.to - input.from) (length moved - (input.to - input.from)) moved room
      → input'.from ≡ 0 → input'.to ≡ input.to - input.from + n → input'.total ≡ input.total + n → HasTaken unread new used input'
  refilled-taken before moved room n whole_is same moves size_room filled input' is from to total =
      let kept = input.to - input.from in
      let buffer = put_mid kept (length moved - kept) moved room in
      let size_before = ap length whole_is in
      let given = refilled old new before moved room input.from input.to (most_bytes - input.total) n t.from (omega (arith, size_before, t.to))
      same moves size_room filled in
      let r : IsRefilled old new (held input) (most_bytes - input.total) buffer (kept + n) =
      subst (λ xs. IsRefilled old new (slice_range xs input.from input.to) (most_bytes - input.total) buffer (kept + n)) whole_is given in
      let size = held_size input t.from t.to in
      let front : held input' ≡ held input ++ r.bytes =
      ap (λ (xs : List ℕ). slice_range xs input'.from input'.to) is ∙ ap (λ (k : ℕ). slice_range buffer k input'.to) from ∙
      ap (λ (k : ℕ). take k buffer) (omega (arith, to)) ∙ r.front in
      let whole : used ++ held input ++ r.bytes ≡ used ++ held input' = append_assoc used (held input) r.bytes ∙
      ap (λ (xs : List ℕ). used ++ xs) (sym front) in
      let long : length input'.buffer.items ≡ length buffer = ap length is in
      let long_buffer : length buffer ≡ length moved = put_size kept moved room (omega (arith, same, size_before, t.from, t.to)) size_room in
      let few : length r.bytes ≤ most_bytes - input.total = r.few in
      let read = length-append (used ++ held input) r.bytes in
      let all : length (used ++ held input ++ r.bytes) ≡ length (used ++ held input') = ap length whole in
      record {
        took = subst (Consumes unread new) whole (Consumes-trans unread old new (used ++ held input) r.bytes t.took r.took);
        count = omega (arith, total, t.count, size, r.count, read, all);
        few = omega (arith, total, t.few, size, r.count, few);
        from = omega (arith, from);
        to = omega (arith, to, r.within, long);
        end = λ other. r.end (λ e. other (to ∙ e ∙ sym long));
        room = omega (arith, t.room, long, long_buffer, same, size_before);
      }

  -- more than there may be
  pub refilled-long : IsTooMany old new (most_bytes - input.total) → IfSome unread (λ text. most_bytes < length text)
  refilled-long many =
      let bytes = many.0 in
      of_text (λ text. most_bytes < length text) unread new (used ++ held input ++ bytes)
      (Consumes-trans unread old new (used ++ held input) bytes t.took many.1) (λ more.
      let past : most_bytes - input.total < length bytes = many.2 in
      let count : input.total ≡ length (used ++ held input) = t.count in
      let read = length-append (used ++ held input) bytes in
      let whole = length-append (used ++ held input ++ bytes) more in
      omega arith)

-- ---- faults

abbrev fault_of : {A E : Type 0} → E → Result A E → E
fault_of e (Ok x) = e
fault_of e (Err fault) = fault

-- a result that is not an error has no fault
pub no-fault : {A P : Type 0} {x : A} {e : TextFault} → IsErrOf {T = A} (Ok x) e → P
no-fault is = absurd (let bad = is in cc)

-- a fault that is named
pub named-fault : {A : Type 0} (P : TextFault → Type 0) (fault e : TextFault) → P fault → IsErrOf {T = A} (Err fault) e → P e
named-fault P fault e is same = subst P (ap (fault_of fault) same) is

-- out of memory is not too long
pub memory-not-long : {A P : Type 0} → IsErrOf {T = A} (Err faults.OutOfMemory) faults.TooLong → P
memory-not-long is = absurd (let bad = is in cc)

pub no-less : (m n : ℕ) → m ≤ m + n
no-less m n = omega arith

-- a part fits in a buffer of the same length
pub part-fits : (to from long n : ℕ) → to ≤ long → n ≡ long → to - from ≤ n
part-fits to from long n within same = omega arith

-- if a buffer is full and was not, more was read
pub read-some : (kept read now long total : ℕ) → kept + read ≡ now → kept < long → now ≡ long → total < total + read
read-some kept read now long total full part same = omega arith

-- a read failed, or what was read is too long
pub read-kinds : (long : Type 0) (fault : TextFault) → IsReadFault long fault → fault ≢ faults.Read → fault ≡ faults.TooLong
read-kinds long (faults.Trace fault) is other = absurd is
read-kinds long faults.Stalled is other = absurd is
read-kinds long faults.Read is other = absurd (other refl)
read-kinds long faults.Write is other = absurd is
read-kinds long faults.TooLong is other = refl
read-kinds long faults.OutOfMemory is other = absurd is
