-- One beat more: a beat that opens, continues or completes a message.
use Rattle.tl_burst.proofs.Names.{◌≡◌, ◌≢◌, ℕ, List, [], ◌∷◌, ◌++◌, refl, ap, append_assoc, append-nil, Rules, BeatOf, Message, IsLawful, Spells}
use Rattle.tl_burst.proofs.Names.{Handed, nothing, begun, whole}

-- a beat that opens a message joins a list of whole messages
pub opens : {H : Type 0} (r : Rules H) (w : ℕ) {bs : List (BeatOf H w)} {homes : List ℕ} {ms : List (Message H)} {rest : List (BeatOf H w)} →
    Handed r w bs homes ms rest → rest ≡ [] →
    (m : Message H) (b : BeatOf H w) (more : List (BeatOf H w)) → IsLawful r m → Spells r m w (b ∷ more) → more ≢ [] →
    Handed r w (bs ++ b ∷ []) (homes ++ m.home ∷ []) ms (b ∷ [])
opens r w nothing e m b more lawful spells left = begun m (b ∷ []) more lawful spells (λ q. cc) left
opens r w (begun m' rest more' l s ne ne') e m b more lawful spells left = absurd (ne e)
opens r w (whole m' bs others homes ms rest l s h) e m b more lawful spells left =
    rw append_assoc (whole m' bs (others ++ b ∷ []) (homes ++ m.home ∷ []) ms (b ∷ []) l s (opens r w h e m b more lawful spells left))

pub snoc-some : {A : Type 0} (xs : List A) (x : A) → xs ++ x ∷ [] ≢ []
snoc-some [] x q = cc
snoc-some (y ∷ xs) x q = cc

-- the last of the homes
abbrev pub last_home : List ℕ → ℕ
last_home [] = 0
last_home (x ∷ []) = x
last_home (x ∷ y ∷ xs) = last_home (y ∷ xs)

-- a beat that ends a message makes it whole
pub completes : {H : Type 0} (r : Rules H) (w : ℕ) {bs : List (BeatOf H w)} {homes : List ℕ} {ms : List (Message H)} {rest : List (BeatOf H w)} →
    Handed r w bs homes ms rest → rest ≢ [] →
    (m : Message H) (b : BeatOf H w) → IsLawful r m → Spells r m w (rest ++ b ∷ []) →
    ((front : List ℕ) (x : ℕ) → homes ≡ front ++ x ∷ [] → x ≡ m.home) →
    Handed r w (bs ++ b ∷ []) homes (ms ++ m ∷ []) []
completes r w nothing ne m b lawful spells home = absurd (ne refl)
completes r w (begun m' rest more l s n1 n2) ne m b lawful spells home =
    let e : m'.home ≡ m.home = home [] m'.home refl in
    let done : Handed r w ((rest ++ b ∷ []) ++ []) (m.home ∷ []) (m ∷ []) [] = whole m (rest ++ b ∷ []) [] [] [] [] lawful spells nothing in
    rw e (rw append-nil at done)
completes r w (whole m' bs others homes ms rest l s h) ne m b lawful spells home =
    rw append_assoc (whole m' bs (others ++ b ∷ []) homes (ms ++ m ∷ []) [] l s
    (completes r w h ne m b lawful spells (λ front x e. home (m'.home ∷ front) x (ap (λ q. m'.home ∷ q) e))))

-- a beat inside a message stays in the rest
pub continues : {H : Type 0} (r : Rules H) (w : ℕ) {bs : List (BeatOf H w)} {homes : List ℕ} {ms : List (Message H)} {rest : List (BeatOf H w)} →
    Handed r w bs homes ms rest → rest ≢ [] →
    (m : Message H) (b : BeatOf H w) (more : List (BeatOf H w)) → IsLawful r m → Spells r m w (rest ++ b ∷ more) → more ≢ [] →
    ((front : List ℕ) (x : ℕ) → homes ≡ front ++ x ∷ [] → x ≡ m.home) →
    Handed r w (bs ++ b ∷ []) homes ms (rest ++ b ∷ [])
continues r w nothing ne m b more lawful spells left home = absurd (ne refl)
continues r w (begun m' rest more' l s n1 n2) ne m b more lawful spells left home =
    let e : m'.home ≡ m.home = home [] m'.home refl in
    let again : Spells r m w ((rest ++ b ∷ []) ++ more) = rw append_assoc spells in
    let step : Handed r w (rest ++ b ∷ []) (m.home ∷ []) [] (rest ++ b ∷ []) =
    begun m (rest ++ b ∷ []) more lawful again (λ q. snoc-some rest b q) left in
    rw e step
continues r w (whole m' bs others homes ms rest l s h) ne m b more lawful spells left home =
    rw append_assoc (whole m' bs (others ++ b ∷ []) homes ms (rest ++ b ∷ []) l s
    (continues r w h ne m b more lawful spells left (λ front x e. home (m'.home ∷ front) x (ap (λ q. m'.home ∷ q) e))))
