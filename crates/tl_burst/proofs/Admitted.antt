-- Beats that may come next, and lists that are handed with one more beat.
use Rattle.tl_burst.proofs.Names.{◌≡◌, ◌≤◌, ◌<◌, ◌+◌, ◌^◌, ◌≢◌, ◌⊎◌, ℕ, true, Option, None, Some, List, [], ◌∷◌, ◌++◌, length, slice_get, refl, sym}
use Rattle.tl_burst.proofs.Names.{ap, subst, ◌∙◌, arith, inl, inr, ⊎_elim, append_assoc, append-nil, length-append, slice_get_within, length_push}
use Rattle.tl_burst.proofs.Names.{same_from_push, All-get_or, Rules, BeatOf, IsWidth, lane_of, lane-lt, Message, IsLawful, beats_of, Spells}
use Rattle.tl_burst.proofs.Names.{SpellsBeat, Handed, nothing, begun, whole, IsHandedWith, rest_of, with_home, message_of, All}
use Rattle.tl_burst.proofs.Fits.{Accepts, head_of}
use Rattle.tl_burst.proofs.Numbers.{slice_get-left, each-push}
use Rattle.tl_burst.proofs.Burst.{beats-bounds, more-carries}
use Rattle.tl_burst.proofs.HandedSteps.{snoc-some, opens, completes, continues, last_home}
use Rattle.tl_burst.proofs.RestOf.{RestIs, whole-rest, part-rest, some-first}
use Rattle.tl_burst.proofs.SpelledRun.{Fitting, fitting-of}
use Rattle.tl_burst.proofs.RunSpelled.{run-lawful, run-spells, wanted}

pub list-cases : {A : Type 0} (xs : List A) → (xs ≡ []) ⊎ (xs ≢ [])
list-cases [] = inl refl
list-cases (x ∷ xs) = inr (λ e. cc)

-- a list is empty or ends in an element
pub last-cases : {A : Type 0} (xs : List A) → (xs ≡ []) ⊎ ((front : List A) × (x : A) × (xs ≡ front ++ x ∷ []))
last-cases [] = inl refl
last-cases (x ∷ xs) = ⊎_elim
    (λ e. inr ([], x, ap (λ ys. x ∷ ys) e))
    (λ (front, y, e). inr (x ∷ front, y, ap (λ ys. x ∷ ys) e))
    (last-cases xs)

last-seam : {A : Type 0} (xs : List A) (y : A) (ys : List A) → slice_get (xs ++ y ∷ ys) (length xs) ≡ Some y
last-seam [] y ys = refl
last-seam (x ∷ xs) y ys = last-seam xs y ys

module _ {H : Type 0} (r : Rules H) (w : ℕ) where
  -- a whole message joins a list of whole messages
  joins : {bs : List (BeatOf H w)} {homes : List ℕ} {ms : List (Message H)} {rest : List (BeatOf H w)} →
      Handed r w bs homes ms rest → rest ≡ [] → (m : Message H) (cs : List (BeatOf H w)) → IsLawful r m → Spells r m w cs →
      Handed r w (bs ++ cs) (homes ++ m.home ∷ []) (ms ++ m ∷ []) []
  joins nothing e m cs l s =
      let done : Handed r w (cs ++ []) (m.home ∷ []) (m ∷ []) [] = whole m cs [] [] [] [] l s nothing in
      rw append-nil at done
  joins (begun m' rest more l' s' n1 n2) e m cs l s = absurd (n1 e)
  joins (whole m' bs others homes ms rest l' s' h) e m cs l s =
      rw append_assoc (whole m' bs (others ++ cs) (homes ++ m.home ∷ []) (ms ++ m ∷ []) [] l' s' (joins h e m cs l s))

  -- the message that handed beats have begun
  pub record Open (homes : List ℕ) (rest : List (BeatOf H w)) : Type 0 where
    pub m : Message H
    pub more : List (BeatOf H w)
    pub front : List ℕ
    pub lawful : IsLawful r m
    pub spells : Spells r m w (rest ++ more)
    pub wants : more ≢ []
    pub home_is : homes ≡ front ++ m.home ∷ []

  pub open-of : {bs : List (BeatOf H w)} {homes : List ℕ} {ms : List (Message H)} {rest : List (BeatOf H w)} →
      Handed r w bs homes ms rest → rest ≢ [] → Open homes rest
  open-of nothing ne = absurd (ne refl)
  open-of (begun m rest more l s n1 n2) ne =
      record { m = m; more = more; front = []; lawful = l; spells = s; wants = n2; home_is = refl }
  open-of (whole m' bs others homes ms rest l' s' h) ne =
      let o : Open homes rest = open-of h ne in
      record {
        m = o.m;
        more = o.more;
        front = m'.home ∷ o.front;
        lawful = o.lawful;
        spells = o.spells;
        wants = o.wants;
        home_is = ap (λ xs. m'.home ∷ xs) o.home_is;
      }

  -- the last of handed beats belongs to a lawful message, after the rest of the earlier ones
  record Last (bs : List (BeatOf H w)) (b : BeatOf H w) : Type 0 where
    pub m : Message H
    pub more : List (BeatOf H w)
    pub lawful : IsLawful r m
    pub spells : Spells r m w (rest_of r w bs ++ b ∷ more)

  last-of : {y : List (BeatOf H w)} {homes : List ℕ} {ms : List (Message H)} {rest : List (BeatOf H w)} →
      Handed r w y homes ms rest → (bs : List (BeatOf H w)) (b : BeatOf H w) → y ≡ bs ++ b ∷ [] → Last bs b
  last-of nothing bs b e = absurd (snoc-some bs b (sym e))
  last-of (begun m rest more l s n1 n2) bs b e =
      let P : List (BeatOf H w) → Type 0 = λ xs. Spells r m w xs in
      let Q : List (BeatOf H w) → Type 0 = λ xs. Spells r m w (xs ++ b ∷ more) in
      let t : Spells r m w (bs ++ b ∷ more) = subst P (ap (λ xs. xs ++ more) e ∙ append_assoc bs (b ∷ []) more) s in
      let k : rest_of r w bs ≡ bs = part-rest r w m bs (b ∷ more) t (λ q. cc) in
      record { m = m; more = more; lawful = l; spells = subst Q (sym k) t }
  last-of (whole m cs others homes ms rest l s h) bs b e = ⊎_elim
      (λ none_of.
      let P : List (BeatOf H w) → Type 0 = λ xs. Spells r m w xs in
      let Q : List (BeatOf H w) → Type 0 = λ xs. Spells r m w (xs ++ b ∷ []) in
      let t : Spells r m w (bs ++ b ∷ []) = subst P (sym (append-nil cs) ∙ ap (λ xs. cs ++ xs) (sym none_of) ∙ e) s in
      let k : rest_of r w bs ≡ bs = part-rest r w m bs (b ∷ []) t (λ q. cc) in
      record { m = m; more = []; lawful = l; spells = subst Q (sym k) t })
      (λ (front, x, f).
      let g : (cs ++ front) ++ x ∷ [] ≡ bs ++ b ∷ [] = append_assoc cs front (x ∷ []) ∙ ap (λ xs. cs ++ xs) (sym f) ∙ e in
      let same = same_from_push (cs ++ front) bs x b g in
      let o : Last front b = last-of h front b (f ∙ ap (λ y. front ++ y ∷ []) same.1) in
      let k : rest_of r w front ≡ rest_of r w bs = sym (whole-rest r w m cs front s) ∙ ap (λ xs. rest_of r w xs) same.0 in
      let Q : List (BeatOf H w) → Type 0 = λ xs. Spells r o.m w (xs ++ b ∷ o.more) in
      record { m = o.m; more = o.more; lawful = o.lawful; spells = subst Q k o.spells })
      (last-cases others)

pub head-is : {H : Type 0} (r : Rules H) (w : ℕ) (m : Message H) (rest more : List (BeatOf H w)) (h : H) → Spells r m w (rest ++ more) →
    head_of rest ≡ Some h → h ≡ m.head
head-is r w m [] more h s e = absurd (cc)
head-is r w m (a ∷ rest) more h s e = let q : a.head ≡ h = cc in sym q ∙ (s.each 0 a refl).head

module _ {H : Type 0} (r : Rules H) (w : ℕ) (ww : IsWidth w)
    (small : (h : H) → r.fault h ≡ None → r.size h ≤ 12)
    (masked_address : r.masked ≡ true → (h : H) (x y : ℕ) → r.lane_address h x ≡ r.lane_address h y)
    (partial_carries : (h : H) → r.partial h ≡ true → r.carries h ≡ true) where
  -- if the beats with one more are handed, a tracker accepts that one
  pub admitted-accepts : (bs : List (BeatOf H w)) (homes : List ℕ) (b : BeatOf H w) → IsHandedWith r (bs ++ b ∷ []) homes →
      Accepts r (head_of (rest_of r w bs)) b
  admitted-accepts bs homes b (ms, rest, handed) =
      let o : Last r w bs b = last-of r w handed bs b refl in
      let n : length (rest_of r w bs ++ b ∷ o.more) ≡ length (rest_of r w bs) + length (b ∷ o.more) = length-append (rest_of r w bs) (b ∷ o.more) in
      let c : length (rest_of r w bs ++ b ∷ o.more) ≡ beats_of r o.m.head w = o.spells.count in
      let spells : SpellsBeat r o.m w (length (rest_of r w bs)) b = o.spells.each (length (rest_of r w bs)) b (last-seam (rest_of r w bs) b o.more) in
      let fit : Fitting r o.m.head o.m.home w (length (rest_of r w bs)) b =
      fitting-of r w ww masked_address partial_carries o.m (length (rest_of r w bs)) b o.lawful (omega arith) spells in
      record {
        held = λ h e. head-is r w o.m (rest_of r w bs) (b ∷ o.more) h o.spells e ∙ sym fit.head;
        lawful = ap (λ h. r.fault h) fit.head ∙ o.lawful.fault;
        mask = fit.fits;
        clean = λ _ reads none_of. fit.clean reads (ap (λ h. r.carries h) (sym fit.head) ∙ none_of);
      }

  -- an accepted beat fits each position of a message with its head
  accepts-fitting : (burst : Option H) (x j : ℕ) (h : H) (b : BeatOf H w) → Accepts r burst b → b.head ≡ h → length b.lanes ≡ w →
      All (λ y. y < 256) b.lanes → (burst ≡ None ⊎ (r.carries h ≡ true)) → Fitting r h x w j b
  accepts-fitting burst x j h b a e size bytes opens_or = record {
    head = e;
    lanes = λ carries i inside place. let lt : lane_of x i w < w = lane-lt x i w ww in omega arith;
    bytes = λ carries i inside place. let lt : lane_of x i w < w = lane-lt x i w ww in
        All-get_or (λ y. y < 256) b.lanes (lane_of x i w) 0 (omega arith) bytes;
    fits = a.mask;
    clean = λ reads none_of. ⊎_elim
        (λ q. a.clean q reads (ap (λ g. r.carries g) e ∙ none_of))
        (λ q. let t : r.carries h ≡ true = q in absurd (cc))
        opens_or;
  }

  -- a beat that opens a message
  opens-admitted : (bs : List (BeatOf H w)) (homes : List ℕ) (ms : List (Message H)) (x : ℕ) (b : BeatOf H w) →
      Handed r w bs homes ms [] → Accepts r None b → length b.lanes ≡ w → All (λ y. y < 256) b.lanes → r.lane_address b.head x ≡ x → x < 2 ^ 64 →
      IsHandedWith r (bs ++ b ∷ []) (homes ++ x ∷ [])
  opens-admitted bs homes ms x b handed a size bytes home home_small =
      let bounds : (0 < beats_of r b.head w) × (beats_of r b.head w ≤ 4096) = beats-bounds r b.head w ww (small b.head a.lawful) in
      let m : Message H = message_of r b.head w x (b ∷ []) in
      let none_before : (j : ℕ) (c : BeatOf H w) → slice_get {X = BeatOf H w} [] j ≡ Some c → Fitting r b.head x w j c = λ j c e. absurd (cc) in
      let fits : (j : ℕ) (c : BeatOf H w) → slice_get (b ∷ []) j ≡ Some c → Fitting r b.head x w j c =
      each-push (λ j c. Fitting r b.head x w j c) [] b none_before (accepts-fitting None x 0 b.head b a refl size bytes (inl refl)) in
      let lawful : IsLawful r (message_of r b.head w x (b ∷ [])) = run-lawful r b.head x w ww masked_address partial_carries a.lawful home home_small
      (b ∷ []) fits in
      let spells : Spells r (message_of r b.head w x (b ∷ [])) w
      (b ∷ wanted r b.head x w ww masked_address partial_carries a.lawful home home_small (b ∷ [])) =
      run-spells r b.head x w ww masked_address partial_carries a.lawful home home_small (b ∷ []) (λ q. cc) (omega arith) fits in
      ⊎_elim
      (λ over.
      let P : List (BeatOf H w) → Type 0 = λ ys. Spells r (message_of r b.head w x (b ∷ [])) w (b ∷ ys) in
      (ms ++ m ∷ [], [], joins r w handed refl m (b ∷ []) lawful (subst P over spells)))
      (λ left. (
        ms,
        b ∷ [],
        opens r w handed refl m b (wanted r b.head x w ww masked_address partial_carries a.lawful home home_small (b ∷ [])) lawful
            spells left,
      ))
      (list-cases (wanted r b.head x w ww masked_address partial_carries a.lawful home home_small (b ∷ [])))

  -- the last of a list of homes is one
  last-home-is : (front : List ℕ) (x : ℕ) → last_home (front ++ x ∷ []) ≡ x
  last-home-is [] x = refl
  last-home-is (y ∷ []) x = refl
  last-home-is (y ∷ z ∷ front) x = last-home-is (z ∷ front) x

  -- a beat of a message that has begun
  goes-on-admitted : (bs : List (BeatOf H w)) (homes : List ℕ) (ms : List (Message H)) (rest : List (BeatOf H w)) (burst : Option H)
      (b : BeatOf H w) →
      Handed r w bs homes ms rest → rest ≢ [] → burst ≡ head_of rest → Accepts r burst b → length b.lanes ≡ w →
      All (λ y. y < 256) b.lanes → IsHandedWith r (bs ++ b ∷ []) homes
  goes-on-admitted bs homes ms rest burst b handed ne burst_is a size bytes =
      let o : Open r w homes rest = open-of r w handed ne in
      let f = some-first rest ne in
      let first : head_of rest ≡ Some f.0.head = ap head_of f.2 in
      let same : b.head ≡ o.m.head = sym (a.held f.0.head (burst_is ∙ first)) ∙ head-is r w o.m rest o.more f.0.head o.spells first in
      let g = some-first o.more o.wants in
      let one : length o.more ≡ length (g.0 ∷ g.1) = ap length g.2 in
      let some : length rest ≡ length (f.0 ∷ f.1) = ap length f.2 in
      let sum : length (rest ++ o.more) ≡ length rest + length o.more = length-append rest o.more in
      let count : length (rest ++ o.more) ≡ beats_of r o.m.head w = o.spells.count in
      let carries : r.carries o.m.head ≡ true = more-carries r o.m.head w (λ q. omega arith) in
      let before : (j : ℕ) (c : BeatOf H w) → slice_get rest j ≡ Some c → Fitting r o.m.head o.m.home w j c = λ j c e.
      let within : j < length rest = slice_get_within rest j c e in
      fitting-of r w ww masked_address partial_carries o.m j c o.lawful (omega arith)
      (o.spells.each j c (sym (slice_get-left rest o.more j within) ∙ e)) in
      let fits : (j : ℕ) (c : BeatOf H w) → slice_get (rest ++ b ∷ []) j ≡ Some c → Fitting r o.m.head o.m.home w j c =
      each-push (λ j c. Fitting r o.m.head o.m.home w j c) rest b before
      (accepts-fitting burst o.m.home (length rest) o.m.head b a same size bytes (inr carries)) in
      let n : length (rest ++ b ∷ []) ≡ length rest + 1 = length_push rest b in
      let m : Message H = message_of r o.m.head w o.m.home (rest ++ b ∷ []) in
      let lawful : IsLawful r (message_of r o.m.head w o.m.home (rest ++ b ∷ [])) =
      run-lawful r o.m.head o.m.home w ww masked_address partial_carries o.lawful.fault o.lawful.home o.lawful.home_small (rest ++ b ∷ []) fits in
      let pad : List (BeatOf H w) = wanted r o.m.head o.m.home w ww masked_address partial_carries o.lawful.fault o.lawful.home o.lawful.home_small
      (rest ++ b ∷ []) in
      let spells : Spells r (message_of r o.m.head w o.m.home (rest ++ b ∷ [])) w
      ((rest ++ b ∷ []) ++ wanted r o.m.head o.m.home w ww masked_address partial_carries o.lawful.fault o.lawful.home o.lawful.home_small
      (rest ++ b ∷ [])) =
      run-spells r o.m.head o.m.home w ww masked_address partial_carries o.lawful.fault o.lawful.home o.lawful.home_small (rest ++ b ∷ [])
      (λ q. snoc-some rest b q) (omega arith) fits in
      let last : (front : List ℕ) (x : ℕ) → homes ≡ front ++ x ∷ [] → x ≡ o.m.home = λ front x e.
      sym (last-home-is front x) ∙ ap last_home (sym e ∙ o.home_is) ∙ last-home-is o.front o.m.home in
      ⊎_elim
      (λ over.
      let P : List (BeatOf H w) → Type 0 = λ ys. Spells r (message_of r o.m.head w o.m.home (rest ++ b ∷ [])) w ys in
      let done : Spells r (message_of r o.m.head w o.m.home (rest ++ b ∷ [])) w (rest ++ b ∷ []) =
      subst P (ap (λ ys. (rest ++ b ∷ []) ++ ys) over ∙ append-nil (rest ++ b ∷ [])) spells in
      (ms ++ m ∷ [], [], completes r w handed ne m b lawful done last))
      (λ left.
      let P : List (BeatOf H w) → Type 0 = λ ys. Spells r (message_of r o.m.head w o.m.home (rest ++ b ∷ [])) w ys in
      let again : Spells r (message_of r o.m.head w o.m.home (rest ++ b ∷ [])) w (rest ++ b ∷ pad) =
      subst P (append_assoc rest (b ∷ []) pad) spells in
      (ms, rest ++ b ∷ [], continues r w handed ne m b pad lawful again left last))
      (list-cases pad)

  homes-open : (x : ℕ) (rest : List (BeatOf H w)) (homes : List ℕ) → rest ≢ [] → with_home r x rest homes ≡ homes
  homes-open x [] homes ne = absurd (ne refl)
  homes-open x (a ∷ rest) homes ne = refl

  -- the beats with an accepted one are handed, with its home added if it opens a message
  pub accepts-admitted : (bs : List (BeatOf H w)) (homes : List ℕ) (x : ℕ) (b : BeatOf H w) → IsHandedWith r bs homes →
      length b.lanes ≡ w → All (λ y. y < 256) b.lanes → (rest_of r w bs ≡ [] → r.lane_address b.head x ≡ x) → (rest_of r w bs ≡ [] → x < 2 ^ 64) →
      Accepts r (head_of (rest_of r w bs)) b → IsHandedWith r (bs ++ b ∷ []) (with_home r x (rest_of r w bs) homes)
  accepts-admitted bs homes x b (ms, rest, handed) size bytes home home_small a =
      let is : rest ≡ rest_of r w bs = RestIs r w handed in
      let P : List (BeatOf H w) → Type 0 = λ ys. Handed r w bs homes ms ys in
      ⊎_elim
      (λ e.
      let A : Option H → Type 0 = λ o. Accepts r o b in
      let Q : List (BeatOf H w) → Type 0 = λ ys. IsHandedWith r (bs ++ b ∷ []) (with_home r x ys homes) in
      subst Q (sym e) (opens-admitted bs homes ms x b (subst P (is ∙ e) handed) (subst A (ap head_of e) a) size bytes (home e) (home_small e)))
      (λ ne.
      let Q : List ℕ → Type 0 = λ hs. IsHandedWith r (bs ++ b ∷ []) hs in
      subst Q (sym (homes-open x (rest_of r w bs) homes ne))
      (goes-on-admitted bs homes ms (rest_of r w bs) (head_of (rest_of r w bs)) b (subst P is handed) ne refl a size bytes))
      (list-cases (rest_of r w bs))
