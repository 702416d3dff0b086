-- An owner for C is a struct of an untyped pointer and an allocator, which owns a boxed value there or nothing. No
-- struct of C is generic, so each crate declares its own; the obligations of its three functions are proved here,
-- whatever is owned.
use Rattle.std.specs.Prelude.{◌≢◌, Option, None, Some}
use Rattle.std.proofs.Common.{◌≡◌, List, [], ◌∷◌, ◌++◌, refl, sym, ap, ◌∙◌, subst, lit<, w64}
use seplogic.Ra.Ura.{Ura}
use mir.Syntax.{Sym, Fn, Local, Callee, local, value_local, impl, tnil, dnil, tcons, ty_struct, ty_ptr, place, field, copy, assign, rv_opd, aggregate}
use mir.Syntax.{seq, return, int}
use mir.Val.{Val, vint, vstruct, vcons, vnil, has_ty}
use base.Logic.{SProp, ent, emp, id⊢}
use base.Fml.{Fml, ftrue, fsep}
use prog.Model.{Model}
use prog.Wp.{WpFn, Closed}
use types.Logic.{Logic}
use contract.Monad.{fact, fact_i}
use contract.Running.{Running, MachineTables, tables}
use types.Kit.{Item, ⋆, ‵, raw, ◌⊛◌, ◌$◌, ◌∵◌, !, qed, by, move, keep, drop, use0, join, split, fsplit, fjoin, fpack, feq_i, rewrite, suffices, done}
use types.Part.{whole, sub, agg}
use types.Run.{stop, fld, lit, no_more, and_then, of_opd, returns, enter}
use types.ByLocal.{alloc_all, pass_all, free_all, look_at, get, get_in, sets}
use denote.Exit.{yes, Last, left}
use denote.Param.{param}
use denote.Param.Laws.{Laws}
use denote.RattleType.{RattleType, Valss, owns}
use denote.RawPtr.{Ptr, RawPtr, null_ptr, ptr_val}
use denote.Signature.{types_at, plain}
use denote.Steps.{heard, nothing}
use denote.Struct.Struct.{Shape, Struct, within}
use denote.Triple.Clauses.{Ended, Clauses, closing}
use denote.Triple.Spec.{Meets}
use denote.Triple.Walked.{says, Stays, stay_dropped, walk_of, ends_at, Goes-dropped}
use Rattle.std.proofs.BoxSteps.Form.{Bx, D, B, word, box_typed}
use Rattle.std.proofs.BoxSteps.Steps.{box_out, box_in}
use Rattle.std.proofs.alloc.Calls.{α, handle_tells}
use Rattle.std.proofs.alloc.Global.TheLaws as heap
use Rattle.std.proofs.raw_atomic.Walks.{proved_at, leaves}
use Rattle.std.proofs.ResultValues.{and_tt}
use Rattle.std.specs.Box.Ownership.{box_owns}
use Rattle.std.specs.Global.{Global}
use Rattle.std.specs.contracts.alloc.Global as Heap
use Rattle.std.specs.contracts.impls.GlobalAllocator.TheImpl.{ghosts, dict}
use Rattle.tl_c_beats.specs.Owners.{holds}
use Rattle.tl_c_beats.specs.contracts.parts.Parts as parts

-- a pointer and the allocator, side by side
abbrev pub pair : Shape
pair = record { name = []; args = []; types = []; fields = RawPtr ∷ Heap.the_row ∷ [] }

-- an owner's row: what makes it, what it has, and that it owns what is held beside its two fields
pub record Owner (X : RattleType) : Type 2 where
  pub laws : Laws X
  pub row : RattleType
  pub name : Sym
  pub of : Ptr → Global → Option X.Denot → row.Denot
  pub ptr : row.Denot → Ptr
  pub alloc : row.Denot → Global
  pub held : row.Denot → Option X.Denot
  pub made : (o : row.Denot) → o ≡ of (ptr o) (alloc o) (held o)
  pub kept : (p : Ptr) (a : Global) (s : Option X.Denot) → held (of p a s) ≡ s
  pub owned : (p : Ptr) (a : Global) (s : Option X.Denot) (ws : List Val) →
      row.own_val (of p a s) ws ≡ fsep ((Struct pair).own_val (p, (a, tt)) ws) (holds X a p s)
  pub lies : (p : Ptr) (a : Global) (x : X.Denot) → box_owns (ghosts.dealloc_token a) X p x ≡ box_owns (ghosts.dealloc_token a) (param 0 X) p x
  pub last : (o : row.Denot) → Last (row.exit yes) o
  pub silent : (o : row.Denot) (f : Last (row.exit yes) o) → left (row.exit yes) o f ≡ ftrue

-- a function that uses up its one argument
abbrev pub using_up : (From To : RattleType) → Ended
using_up From To = record {
  signature =
      record { lifetimes = 0; outlives = []; params = plain (λ _. From) ∷ []; result = plain (λ _. To) };
  kept = (yes, tt);
}

abbrev spent : (From To : RattleType) → Stays (using_up From To).signature.params (using_up From To).kept
spent From To = (stay_dropped (plain (λ _. From)) yes, tt)

module _ {X : RattleType} (O : Owner X) where
  abbrev E : Bx
  E = record { row = X; laws = O.laws; al = record { row = Heap.the_row; laws = heap.the_row_laws; g = ghosts; d = dict; drops = impl [] tnil dnil } }

  abbrev Apart : RattleType
  Apart = parts.the_row X Heap.the_row ghosts

  abbrev apart : Sym
  apart = (parts.the_type X Heap.the_row ghosts).name

  abbrev fields : Sym → Local
  fields name = local (ty_struct name (tcons ty_ptr (tcons (α E.al) tnil))) value_local

  -- the code that moves both fields, and casts the pointer
  abbrev pub cast : (to from : Sym) → Fn
  cast to from = record {
    lifetimes = 0;
    outlives = [];
    ty_params = [];
    givens = 0;
    params = 1;
    locals = fields to ∷ fields from ∷ local ty_ptr value_local ∷ local (α E.al) value_local ∷ local ty_ptr value_local ∷ [];
    body = seq (assign (place 2 []) (rv_opd (copy (place 1 (field 0 ∷ []))))) (seq (assign (place 3 []) (rv_opd (copy (place 1 (field 1 ∷ [])))))
        (seq (assign (place 4 []) (rv_opd (copy (place 2 []))))
        (seq (assign (place 0 []) (aggregate (copy (place 4 []) ∷ copy (place 3 []) ∷ []))) return)));
  }

  -- the code that puts a null pointer beside the allocator
  abbrev pub nulled : Fn
  nulled = record {
    lifetimes = 0;
    outlives = [];
    ty_params = [];
    givens = 0;
    params = 1;
    locals = fields O.name ∷ local (α E.al) value_local ∷ [];
    body = seq (assign (place 0 []) (aggregate (int w64 0 ∷ copy (place 1 []) ∷ []))) return;
  }

  abbrev of_box : D E → O.row.Denot
  of_box v = O.of v.ptr v.alloc (Some v.value)

  abbrev apart_of : D E → Apart.Denot
  apart_of v = record { ptr = v.ptr; alloc = v.alloc; value = v.value }

  as_box : (v : D E) (ws : List Val) → Apart.own_val (apart_of v) ws ≡ (B E).own_val v ws
  as_box v ws = ap (fsep ((Struct pair).own_val (v.ptr, (v.alloc, tt)) ws)) (O.lies v.ptr v.alloc v.value)

  owns_box : (v : D E) (ws : List Val) → O.row.own_val (of_box v) ws ≡ (B E).own_val v ws
  owns_box v ws = O.owned v.ptr v.alloc (Some v.value) ws ∙ as_box v ws

  holds_box : (o : O.row.Denot) (x : X.Denot) → O.held o ≡ Some x → (ws : List Val) →
      O.row.own_val o ws ≡ (B E).own_val (record { ptr = O.ptr o; alloc = O.alloc o; value = x }) ws
  holds_box o x e ws = ap (λ (d : O.row.Denot). O.row.own_val d ws) (O.made o ∙ ap (O.of (O.ptr o) (O.alloc o)) e) ∙
      owns_box (record { ptr = O.ptr o; alloc = O.alloc o; value = x }) ws

  module _ {M : Type 1} {𝓤 : Ura M} (𝓛 : Logic 𝓤) (𝓜 : Model 𝓤 𝓛.H) (𝓡 : Running 𝓤 𝓛.H 𝓜) where
    open 𝓛 use {H}

    abbrev 𝓣 : MachineTables 𝓤 H 𝓜
    𝓣 = tables 𝓤 H 𝓜 𝓡 𝓡.env

    -- the cast runs, and what the box owned goes with its fields
    cast_runs : (to from : Sym) (v : D E) (ws : List Val) (Post : Val → SProp 𝓤) →
        ((w : Val) → ent 𝓤 (⋆ 𝓛 (‵ ((B E).own_val v (w ∷ [])) ∷ [])) (Post w))
        → ent 𝓤 (⋆ 𝓛 (‵ ((B E).own_val v ws) ∷ [])) (WpFn 𝓤 H 𝓣.C 𝓣.Λ (cast to from) (ws ++ []) Post)
    cast_runs to from v ws Post k =
        qed 𝓛 (‵ ((B E).own_val v ws) ∷ []) ∵ box_out E ! v ws (λ b o hv e us fa. box_in E ! v b o v.value e refl $
        let w = word E hv b o in
        let Γ : List (Item 𝓤) = ‵ ((B E).own_val v (w ∷ [])) ∷ [] in
        by ! (subst (λ (vs : List Val). ent 𝓤 (⋆ 𝓛 Γ) (WpFn 𝓤 H 𝓣.C 𝓣.Λ (cast to from) (vs ++ []) Post)) (sym us)
        (qed 𝓛 Γ ∵ enter ! 𝓣.C 𝓣.Λ (cast to from) (w ∷ []) _ $ alloc_all ! (λ ls. pass_all ! refl (box_typed E hv b o fa, tt) $
        sets ! (of_opd ! (get_in ! (fld ! refl (stop !)) (sub ! 0 refl (whole !)))) refl (tt, tt) $
        sets ! (of_opd ! (get_in ! (fld ! refl (stop !)) (sub ! 1 refl (whole !)))) refl fa $
        sets ! (of_opd ! (get ! refl)) refl (tt, tt) $
        sets ! (agg ! (and_then ! (get ! refl) (and_then ! (get ! refl) (no_more !)))) refl (box_typed E hv b o fa) $
        returns ! (look_at ! 0 refl) $ free_all ! refl $ by ! (k w)))))

    abbrev takes : Clauses 𝓤 (using_up Apart O.row)
    takes κs a = record { ghost = Unit {0}; requires = λ g. emp 𝓤; ensures = λ g r end. fact 𝓤 (O.held r ≡ Some a.0.value) }

    abbrev gives : Clauses 𝓤 (using_up O.row Apart)
    gives κs a = record { ghost = Unit {0}; requires = λ g. fact 𝓤 (O.held a.0 ≢ None); ensures = λ g r end. fact 𝓤 (O.held a.0 ≡ Some r.value) }

    -- `of_parts`
    pub of_parts_meets : (k : Callee) → Closed 𝓤 H 𝓣.C 𝓣.Λ k (cast O.name apart) →
        Meets 𝓛 (using_up Apart O.row).signature (𝓣.C k) (closing 𝓛 (using_up Apart O.row) takes)
    of_parts_meets k closed =
        let T = using_up Apart O.row in let hs = spent Apart O.row in
        proved_at 𝓛 T hs takes 𝓜 𝓡 (Goes-dropped 𝓛 0 (plain (λ _. Apart)) yes (λ κs x w. refl), tt) k (cast O.name apart) closed (λ z are.
        let v : D E = record { ptr = z.0.3.0.ptr; alloc = z.0.3.0.alloc; value = z.0.3.0.value } in
        qed 𝓛 ((‵ ftrue ⊛ ‵ (fsep (Apart.own_val (apart_of v) z.0.4.0) ftrue)) ∷ raw (emp 𝓤) ∷ []) ∵ split ! $ drop ! $ fsplit ! $ keep ! (0 ∷ []) $
        rewrite ! 0 (λ (F : Fml). ‵ F) (as_box v z.0.4.0) refl $
        by ! (cast_runs O.name apart v z.0.4.0 ((walk_of 𝓛 T hs takes).post z) (λ w. qed 𝓛 (‵ ((B E).own_val v (w ∷ [])) ∷ []) ∵
        rewrite ! 0 (λ (F : Fml). ‵ F) (sym (owns_box v (w ∷ []))) refl $
        suffices ! _ (ends_at 𝓛 T hs takes z w (of_box v) (tt, tt) (tt, tt)) $ says ! (O.kept v.ptr v.alloc (Some v.value)) $ nothing ! $ nothing ! $
        fjoin ! $ join ! $ nothing ! $ join ! $ done !)))

    abbrev given : (z : (walk_of 𝓛 (using_up O.row Apart) (spent O.row Apart) gives).Ghost) → List (Item 𝓤)
    given z = (‵ ftrue ⊛ ‵ (fsep (O.row.own_val z.0.3.0 z.0.4.0) ftrue)) ∷ []

    opens_each : (z : (walk_of 𝓛 (using_up O.row Apart) (spent O.row Apart) gives).Ghost) (s : Option X.Denot) →
        O.held z.0.3.0 ≡ s → O.held z.0.3.0 ≢ None
        → ent 𝓤 (⋆ 𝓛 (given z)) (WpFn 𝓤 H 𝓣.C 𝓣.Λ (cast apart O.name) (z.0.4.0 ++ [])
        ((walk_of 𝓛 (using_up O.row Apart) (spent O.row Apart) gives).post z))
    opens_each z None e has = absurd (has e)
    opens_each z (Some x) e has =
        let T = using_up O.row Apart in let hs = spent O.row Apart in let o = z.0.3.0 in
        let v : D E = record { ptr = O.ptr o; alloc = O.alloc o; value = x } in
        qed 𝓛 (given z) ∵ split ! $ drop ! $ fsplit ! $ keep ! (0 ∷ []) $ rewrite ! 0 (λ (F : Fml). ‵ F) (holds_box o x e z.0.4.0) refl $
        by ! (cast_runs apart O.name v z.0.4.0 ((walk_of 𝓛 T hs gives).post z) (λ w. qed 𝓛 (‵ ((B E).own_val v (w ∷ [])) ∷ []) ∵
        rewrite ! 0 (λ (F : Fml). ‵ F) (sym (as_box v (w ∷ []))) refl $
        suffices ! _ (ends_at 𝓛 T hs gives z w (apart_of v) (O.last z.0.3.0, tt) (tt, tt)) $ says ! e $ nothing ! $ nothing ! $ fjoin ! $
        join ! $ nothing ! $ join ! $ done !))

    -- `into_parts`: something is held, so that is a box
    pub into_parts_meets : (k : Callee) → Closed 𝓤 H 𝓣.C 𝓣.Λ k (cast apart O.name) →
        Meets 𝓛 (using_up O.row Apart).signature (𝓣.C k) (closing 𝓛 (using_up O.row Apart) gives)
    into_parts_meets k closed =
        proved_at 𝓛 (using_up O.row Apart) (spent O.row Apart) gives 𝓜 𝓡 (Goes-dropped 𝓛 0 (plain (λ _. O.row)) yes (λ κs. O.silent), tt) k
        (cast apart O.name) closed (λ z are.
        qed 𝓛 ((‵ ftrue ⊛ ‵ (fsep (O.row.own_val z.0.3.0 z.0.4.0) ftrue)) ∷ raw (fact 𝓤 (O.held z.0.3.0 ≢ None)) ∷ []) ∵
        move ! (1 ∷ []) $ heard ! (O.held z.0.3.0 ≢ None) (λ has. by ! (opens_each z (O.held z.0.3.0) refl has)))

    abbrev empties : Clauses 𝓤 (using_up Heap.the_row O.row)
    empties κs a = record { ghost = Unit {0}; requires = λ g. emp 𝓤; ensures = λ g r end. fact 𝓤 (O.held r ≡ None) }

    -- `nothing`: a null pointer owns nothing
    pub nothing_meets : (k : Callee) → Closed 𝓤 H 𝓣.C 𝓣.Λ k nulled →
        Meets 𝓛 (using_up Heap.the_row O.row).signature (𝓣.C k) (closing 𝓛 (using_up Heap.the_row O.row) empties)
    nothing_meets k closed =
        let T = using_up Heap.the_row O.row in let hs = spent Heap.the_row O.row in let W = walk_of 𝓛 T hs empties in
        proved_at 𝓛 T hs empties 𝓜 𝓡 (Goes-dropped 𝓛 0 (plain (λ _. Heap.the_row)) yes (λ κs x w. refl), tt) k nulled closed (λ z are.
        let a = z.0.3.0 in let Post : Val → SProp 𝓤 = W.post z in let Run : List Val → SProp 𝓤 = λ ws. WpFn 𝓤 H 𝓣.C 𝓣.Λ nulled ws Post in
        let o : O.row.Denot = O.of null_ptr a None in
        qed 𝓛 ((‵ ftrue ⊛ ‵ (owns (types_at T.signature.params z.0.0) z.0.3 z.0.4)) ∷ raw (emp 𝓤) ∷ []) ∵ split ! $ move ! (1 ∷ []) $ fsplit ! $
        handle_tells E.al ! a z.0.4.0 (λ hv eh fa. let w : Val = vstruct (vcons (vint w64 0) (vcons hv vnil)) in
        suffices ! (Run (hv ∷ [])) (subst (λ (us : List Val). ent 𝓤 (Run (hv ∷ [])) (Run us)) (sym (λ i. eh i ++ [])) (id⊢ 𝓤 (Run (hv ∷ [])))) $
        enter ! 𝓣.C 𝓣.Λ nulled (hv ∷ []) Post $ alloc_all ! (λ l. pass_all ! refl (fa, tt) $
        -- [the allocator; nothing; the tokens; nothing; the locals]
        sets ! (agg ! (and_then ! (lit ! tt) (and_then ! (get ! refl) (no_more !)))) refl
        (and_tt (has_ty (α E.al) hv) fa.0, (record { fits = lit< tt }, (fa.1, tt))) $
        nothing ! $ nothing ! $ move ! (2 ∷ 0 ∷ []) $ fjoin ! $ feq_i ! (List Val) (vint w64 0 ∷ []) (ptr_val null_ptr ∷ []) refl $ fjoin ! $
        feq_i ! (List Val) (w ∷ []) (w ∷ []) refl $ fjoin ! $
        fpack ! (Valss pair.fields) (within pair (null_ptr, (a, tt)) (w ∷ [])) (vint w64 0 ∷ [], (hv ∷ [], tt)) $ fjoin ! $
        rewrite ! 0 (λ (F : Fml). ‵ F) (sym (O.owned null_ptr a None (w ∷ []))) refl $
        use0 𝓛 (raw (fact 𝓤 (O.held o ≡ None))) (fact_i 𝓤 (O.held o ≡ None) (emp 𝓤) (O.kept null_ptr a None)) $ nothing ! $ nothing ! $ fjoin ! $
        -- [what is left of the parameter; the clause; the struct; nothing; the tokens]
        returns ! (look_at ! 0 refl) $ free_all ! refl $ keep ! (4 ∷ 0 ∷ 2 ∷ 1 ∷ []) $ by ! (leaves 𝓛 T hs empties z w o (tt, tt) (tt, tt)))))
