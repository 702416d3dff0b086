-- The state after some reads of a text.
use Rattle.tl_stream.proofs.Names.{◌≡◌, ◌≢◌, ℕ, ◌-◌, ◌<◌, ◌≤◌, List, [], ◌++◌, length, take, Option, None, Some, IfSome, refl, sym, ap, subst, arith}
use Rattle.tl_stream.proofs.Names.{length-append, length-take-le, Consumes-trans, Consumes, most_bytes, TextFault}
use Rattle.tl_stream.specs.Inner.Filling.{IsFilled, IsReadFault, IsTooMany}
use Rattle.tl_stream.specs.Inner.Reading.{IsAllRead, IsNotRead}
use Rattle.tl_stream.specs.declared.fault.TextFault.TheVariants as faults
use Rattle.tl_stream.proofs.Between.{of_text, of_whole}

-- all that was taken
pub record SoFar (old now : Option (List ℕ)) (all : List ℕ) : Type 0 where
  pub took : Consumes old now all
  pub few : length all ≤ most_bytes

-- nothing
pub none : (old : Option (List ℕ)) (all : List ℕ) → all ≡ [] → SoFar old old all
none old all is = subst (SoFar old old) (sym is) (record { took = nothing old; few = omega arith })
  where
    nothing : (known : Option (List ℕ)) → Consumes known known []
    nothing None = tt
    nothing (Some text) = refl

module _ (old now new : Option (List ℕ)) (all room : List ℕ) (s : SoFar old now all) (most : ℕ) (may : most ≡ most_bytes - length all) where
  -- n bytes more
  pub goes_on : (n : ℕ) (all' : List ℕ) → IsFilled now new most room n → all' ≡ all ++ take n room → SoFar old new all'
  goes_on n all' f is =
      let few : length all ≤ most_bytes = s.few in
      let more : n ≤ most = f.few in
      let back = length-take-le n room f.within in
      let both = length-append all (take n room) in
      subst (SoFar old new) (sym is)
      (record { took = Consumes-trans old now new all (take n room) s.took f.took; few = omega (arith, may) })

  -- so less may still be read, if the room was full
  pub less : (n : ℕ) (all' : List ℕ) → IsFilled now new most room n → all' ≡ all ++ take n room → length room ≤ n →
      0 < length room → most_bytes - length all' < most_bytes - length all
  less n all' f is full some =
      let more : n ≤ most = f.few in
      let back = length-take-le n room f.within in
      let both = length-append all (take n room) in
      omega (arith, may, ap length is)

  -- the text was not read to its end
  pub not_read : (fault : TextFault) → IsReadFault (IsTooMany now new most) fault → IsNotRead old fault
  not_read (faults.Trace fault) is = is
  not_read faults.Stalled is = is
  not_read faults.Read is = tt
  not_read faults.Write is = is
  not_read faults.TooLong (bytes, took, many) =
      of_text (λ text. most_bytes < length text) old new (all ++ bytes) (Consumes-trans old now new all bytes s.took took) (λ more.
      let few : length all ≤ most_bytes = s.few in
      let both = length-append all bytes in
      let whole = length-append (all ++ bytes) more in
      omega (arith, may, many))
  not_read faults.OutOfMemory is = absurd is

  -- the text was read to its end
  pub all_read : (n : ℕ) (all' : List ℕ) → IsFilled now new most room n → all' ≡ all ++ take n room → n < length room →
      IsAllRead old new all'
  all_read n all' f is short =
      let after = goes_on n all' f is in
      record { took = after.took; few = after.few; end = f.end (λ e. absurd (omega (arith, short, e))) }

-- why not
pub not-read-kinds : (unread : Option (List ℕ)) (fault : TextFault) → IsNotRead unread fault → fault ≢ faults.Read → fault ≢ faults.TooLong →
    fault ≡ faults.OutOfMemory
not-read-kinds unread (faults.Trace fault) is other long = absurd is
not-read-kinds unread faults.Stalled is other long = absurd is
not-read-kinds unread faults.Read is other long = absurd (other refl)
not-read-kinds unread faults.Write is other long = absurd is
not-read-kinds unread faults.TooLong is other long = absurd (long refl)
not-read-kinds unread faults.OutOfMemory is other long = refl

-- all of a text
pub all_of : (old new : Option (List ℕ)) (all : List ℕ) → IsAllRead old new all → IfSome old (λ text. all ≡ text)
all_of old new all r = of_whole (λ text. all ≡ text) old new all r.took r.end refl
