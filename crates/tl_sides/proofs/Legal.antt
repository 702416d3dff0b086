-- The beats in an inbox obey the rules of the link that takes them.
use Rattle.std.proofs.Common.{◌≡◌, ◌++◌, ◌∷◌, ℕ, List, map, take, drop, sym, subst, ap, ◌∙◌, append_assoc, take-append-drop}
use Rattle.tl_convert.specs.Laws.{HasNoFaults, DueHasNoFaults}
use Rattle.tl_ring.specs.Laws.{Crosses}
use Rattle.std.proofs.Common.{[], append-nil, refl}
use Rattle.tl_sides.proofs.Draining.{answered-all, asked-all}
use Rattle.tl_sides.proofs.Words.{Rules, World, rules_a, rules_d, HeadA, HeadD, BeatOf, due, Ask, Answer, asked, answered, known_items}
use Rattle.tl_convert.proofs.Extends.{Extends, more, extends-front, extends-on, of_prefix}
use Rattle.tl_settle.specs.Obeying.{ObeysRules}
use Rattle.tl_settle.proofs.InOrder.{one_order_obeys, order_goes_on}
use Rattle.tl_settle.proofs.Links.{requests_obey, responses_obey, round_obeys}
use Rattle.tl_settle.proofs.Longer.{to_prefix}
use Rattle.tl_settle.specs.OneOrder.{InOneOrder}
use Rattle.tl_burst.specs.Handing.{IsHandedWith}
use Rattle.tl_sides.specs.Bridges.{Bridge, Past, StandsFor}
use Rattle.tl_sides.specs.Legal.{WentOn}
use Rattle.tl_sides.specs.Sides.{ClientState, ManagerState, ClientPast, ManagerPast, SidesMeet}

pub first_of : {X : Type 0} (xs : List X) → Extends (take 1 xs) xs
first_of xs = subst (λ ys. Extends (take 1 xs) ys) (take-append-drop 1 xs) (more (take 1 xs) (drop 1 xs))

-- the beats taken, followed by some of the next ones, are a beginning of all that are due
begins_due : {X : Type 0} (taken inbox ring stage all bs : List X) → taken ++ inbox ++ ring ++ stage ≡ all → Extends bs inbox → Extends (taken ++ bs) all
begins_due taken inbox ring stage all bs e on =
    subst (λ ys. Extends (taken ++ bs) ys) (sym (append_assoc (taken ++ inbox) ring stage) ∙ e)
    (extends-on (extends-front taken on) (more (taken ++ inbox) (ring ++ stage)))

module _ {C M : ℕ} (s : Bridge C M) (x : Past C M) (h : StandsFor s x) where
  taken_a : (bs : List (BeatOf HeadA M)) → Extends bs x.a.inbox → Extends (asked x.manager ++ bs) (due rules_a C M x.a.accepted x.a.homes)
  taken_a bs on =
      subst (λ ys. Extends (ys ++ bs) (due rules_a C M x.a.accepted x.a.homes)) (sym h.manager_asked)
      (begins_due x.a.taken x.a.inbox x.a.ring x.a.stage (due rules_a C M x.a.accepted x.a.homes) bs h.a.crosses.beats on)

  taken_d : (bs : List (BeatOf HeadD C)) → Extends bs x.d.inbox → Extends (answered x.client ++ bs) (due rules_d M C x.d.accepted x.d.homes)
  taken_d bs on =
      subst (λ ys. Extends (ys ++ bs) (due rules_d M C x.d.accepted x.d.homes)) (sym h.client_answered)
      (begins_due x.d.taken x.d.inbox x.d.ring x.d.stage (due rules_d M C x.d.accepted x.d.homes) bs h.d.crosses.beats on)

  -- the manager's side takes requests, and the client's responses
  pub requests_taken : (bs : List (BeatOf HeadA M)) → Extends bs x.a.inbox → ObeysRules (x.manager ++ map Ask bs)
  requests_taken bs on =
      requests_obey h.a.outbox.near h.a.outbox.far x.a.accepted x.a.homes x.d.accepted x.d.homes h.a.outbox.converter.handed
      h.d.outbox.converter.handed bs x.client x.manager h.client_obeys h.manager_obeys h.client_asked h.manager_answered (taken_a bs on)
      (extends-on (more (answered x.client) (take 0 x.d.inbox)) (taken_d (take 0 x.d.inbox) (more (take 0 x.d.inbox) x.d.inbox)))

  pub responses_taken : (bs : List (BeatOf HeadD C)) → Extends bs x.d.inbox → ObeysRules (x.client ++ map Answer bs)
  responses_taken bs on =
      responses_obey h.a.outbox.near h.a.outbox.far x.a.accepted x.a.homes x.d.accepted x.d.homes h.a.outbox.converter.handed
      h.d.outbox.converter.handed bs x.client x.manager h.client_obeys h.manager_obeys h.client_asked h.manager_answered
      (extends-on (more (asked x.manager) (take 0 x.a.inbox)) (taken_a (take 0 x.a.inbox) (more (take 0 x.a.inbox) x.a.inbox)))
      (taken_d bs on)

  -- both sides take beats of their inboxes, and their events stay in one order
  pub all_in_order : (qs : List (BeatOf HeadA M)) (ds : List (BeatOf HeadD C)) → Extends qs x.a.inbox → Extends ds x.d.inbox →
      InOneOrder (x.client ++ map Answer ds) (x.manager ++ map Ask qs)
  all_in_order qs ds on_a on_d =
      order_goes_on x.client (x.client ++ map Answer ds) x.manager (x.manager ++ map Ask qs) (map Answer ds, refl) (map Ask qs, refl) x.a.homes x.d.homes
      (subst (λ ys. Extends ys (due rules_d M C (answered x.manager) x.d.homes)) (sym (answered-all x.client ds))
      (subst (λ q. Extends (answered x.client ++ ds) (due rules_d M C q x.d.homes)) (sym h.manager_answered) (taken_d ds on_d)))
      (subst (λ ys. Extends ys (due rules_a C M (asked x.client) x.a.homes)) (sym (asked-all x.manager qs))
      (subst (λ q. Extends (asked x.manager ++ qs) (due rules_a C M q x.a.homes)) (sym h.client_asked) (taken_a qs on_a))) h.order

  pub requests_in_order : (bs : List (BeatOf HeadA M)) → Extends bs x.a.inbox → InOneOrder x.client (x.manager ++ map Ask bs)
  requests_in_order bs on =
      subst (λ q. InOneOrder q (x.manager ++ map Ask bs)) (append-nil x.client) (all_in_order bs [] on (more [] x.d.inbox))

  pub responses_in_order : (bs : List (BeatOf HeadD C)) → Extends bs x.d.inbox → InOneOrder (x.client ++ map Answer bs) x.manager
  responses_in_order bs on =
      subst (λ q. InOneOrder (x.client ++ map Answer bs) q) (append-nil x.manager) (all_in_order [] bs (more [] x.a.inbox) on)

-- the beats taken of a channel have no fault
pub taken_fine : {H : Type 0} (r : Rules H) {w v : ℕ} (x : World H w v) → Crosses r x → DueHasNoFaults r w v → HasNoFaults r x.taken
taken_fine r x crosses fine before after b e =
    let all = fine x.accepted x.homes crosses.messages crosses.rest crosses.handed in
    all before (after ++ (x.inbox ++ (x.ring ++ x.stage))) b
    (sym crosses.beats ∙ append_assoc (x.taken ++ x.inbox) x.ring x.stage ∙ append_assoc x.taken x.inbox (x.ring ++ x.stage) ∙
    ap (λ ys. ys ++ (x.inbox ++ (x.ring ++ x.stage))) e ∙ append_assoc before (b ∷ after) (x.inbox ++ (x.ring ++ x.stage)))

begins_with : {X : Type 0} (taken inbox ring : List X) → Extends taken (taken ++ inbox ++ ring)
begins_with taken inbox ring = extends-on (more taken inbox) (more (taken ++ inbox) ring)

-- a meeting of two sides
module _ {A : Type 0} {C M : ℕ} (s : ClientState A C M) (t : ManagerState A C M) (x : ClientPast C M) (y : ManagerPast C M) (met : SidesMeet s t x y)
  where
    d_due : (bs : List (BeatOf HeadD C)) → Extends bs (answered x.history ++ s.d.inbox ++ known_items s.d) →
        Extends bs (due rules_d M C (answered y.history) y.d.homes)
    d_due bs k =
        subst (λ ys. Extends bs (due rules_d M C ys y.d.homes)) (sym met.manager.accepted)
        (subst (λ ys. Extends bs ys) met.d.crosses.beats
        (extends-on k (more (answered x.history ++ s.d.inbox ++ known_items s.d) y.d.stage)))

    a_due : (bs : List (BeatOf HeadA M)) → Extends bs (asked y.history ++ t.a.inbox ++ known_items t.a) →
        Extends bs (due rules_a C M (asked x.history) x.a.homes)
    a_due bs k =
        subst (λ ys. Extends bs (due rules_a C M ys x.a.homes)) (sym met.client.accepted)
        (subst (λ ys. Extends bs ys) met.a.crosses.beats
        (extends-on k (more (asked y.history ++ t.a.inbox ++ known_items t.a) x.a.stage)))

    handed_a : IsHandedWith rules_a (asked x.history) x.a.homes
    handed_a = subst (λ bs. IsHandedWith rules_a bs x.a.homes) (sym met.client.accepted) met.a.outbox.converter.handed

    handed_d : IsHandedWith rules_d (answered y.history) y.d.homes
    handed_d = subst (λ bs. IsHandedWith rules_d bs y.d.homes) (sym met.manager.accepted) met.d.outbox.converter.handed

    d_taken : Extends (answered x.history) (due rules_d M C (answered y.history) y.d.homes)
    d_taken = d_due (answered x.history) (begins_with (answered x.history) s.d.inbox (known_items s.d))

    a_taken : Extends (asked y.history) (due rules_a C M (asked x.history) x.a.homes)
    a_taken = a_due (asked y.history) (begins_with (asked y.history) t.a.inbox (known_items t.a))

    -- in one order both links have obeyed the rules
    pub order_obeyed : InOneOrder x.history y.history → ObeysRules x.history × ObeysRules y.history
    order_obeyed o =
        one_order_obeys met.a.outbox.near met.a.outbox.far x.history y.history o met.client.requests met.manager.responses x.a.homes y.d.homes handed_a
        handed_d (to_prefix a_taken) (to_prefix d_taken)

-- a round of two sides
module _ {A : Type 0} {C M : ℕ} (s s' : ClientState A C M) (t t' : ManagerState A C M) (x x' : ClientPast C M) (y y' : ManagerPast C M)
    (on : WentOn s s' t t' x x' y y')
  where
    pub rounds_obeyed : ObeysRules x.history × ObeysRules y.history → ObeysRules x'.history × ObeysRules y'.history
    rounds_obeyed o =
        round_obeys on.met.a.outbox.near on.met.a.outbox.far x.history x'.history y.history y'.history o.0 o.1 x.a.homes y.d.homes
        (handed_a s t x y on.met) (handed_d s t x y on.met) (d_taken s t x y on.met) (a_taken s t x y on.met)
        on.client_on on.manager_on on.client.requests on.manager.responses
        (d_due s t x y on.met (answered x'.history) (of_prefix _ _ on.d_had_come))
        (a_due s t x y on.met (asked y'.history) (of_prefix _ _ on.a_had_come))

    pub rounds_in_order : InOneOrder x.history y.history → InOneOrder x'.history y'.history
    rounds_in_order o =
        order_goes_on x.history x'.history y.history y'.history on.client_on on.manager_on x.a.homes y.d.homes
        (d_due s t x y on.met (answered x'.history) (of_prefix _ _ on.d_had_come))
        (a_due s t x y on.met (asked y'.history) (of_prefix _ _ on.a_had_come)) o
