-- The record that each side keeps of the beats that it takes. Only contracts of private functions use these
-- definitions.
use Rattle.std.specs.Prelude.{◌≡◌, ◌++◌, ℕ, List, [], ◌∷◌, length, map}
use Rattle.tl_msg.specs.declared.head.HeadA.{HeadA}
use Rattle.tl_msg.specs.declared.head.HeadD.{HeadD}
use Rattle.tl_msg.specs.declared.beat.BeatOf.{BeatOf}
use Rattle.tl_settle.specs.Histories.{Event, Ask, Answer}
use Rattle.tl_settle.specs.Books.{Client, Manager, KnowsClient, KnowsManager}
pub use Rattle.tl_check.specs.Places.{AreAt, HasCome, IsWithin}

-- these beats have this head
abbrev pub HaveHead : {H : Type 0} {w : ℕ} → H → List (BeatOf H w) → Type 0
HaveHead h [] = Unit {0}
HaveHead h (b ∷ bs) = (b.head ≡ h) × HaveHead h bs

-- the manager's side has taken `count` beats of A with this head, and has recorded them
abbrev pub NotesAsks : (M : ℕ) (head : HeadA) (count : ℕ) (before after : Manager) → Type 0
NotesAsks M head count before after = (es : List (Event M)) (bs : List (BeatOf HeadA M)) → KnowsManager before es →
    length bs ≡ count → HaveHead head bs →
    KnowsManager after (es ++ map Ask bs)

-- the client's side has taken `count` beats of D with this head, and has recorded them
abbrev pub NotesAnswers : (C : ℕ) (head : HeadD) (count : ℕ) (before after : Client) → Type 0
NotesAnswers C head count before after = (es : List (Event C)) (bs : List (BeatOf HeadD C)) → KnowsClient before es →
    length bs ≡ count → HaveHead head bs →
    KnowsClient after (es ++ map Answer bs)
