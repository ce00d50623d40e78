-- The machine values of a parked box and of what C holds. Assumes `Logic`.
use Rattle.std.proofs.Common.{◌≡◌, ℕ, ◌^◌, ◌<◌, List, [], ◌∷◌, ◌++◌, refl, sym, ap, ◌∙◌, subst, arith}
use mathlib.Core.Bool.{Bool, true, ◌&&◌}
use lib.Dec.{T}
use seplogic.Ra.Ura.{Ura}
use mir.Syntax.{ty_ptr, impl, tnil, dnil}
use mir.Raw.{raw as bare}
use mir.Val.{Val, vptr, vstruct, vcons, vnil, of_list, has_ty, WT}
use base.Logic.{never, fst∗}
use base.Fml.{Fml}
use types.Logic.{Logic, sem}
use types.Kit.{Item, Goal, Seq, Step, step, ‵, ◌$◌, move, drop, fsplit, fjoin, fpick, fpack, rewrite, feq_i, feq_l}
use denote.RattleType.{RattleType, Valss}
use denote.Builtin.{RawPtr}
use denote.Memory.{lone}
use denote.RawPtr.{Ptr, block_ptr, null_ptr, ptr_val, in_a_block}
use denote.Steps.{nothing}
use denote.Param.{layout}
use denote.Param.Laws.{Laws}
use denote.Struct.Struct.{within}
use denote.Struct.Owning.{shape}
use Rattle.core.specs.declared.alloc.Allocator.{Ghosts}
use Rattle.core.proofs.alloc.Calls.{Al, handle_tells}
use Rattle.core.proofs.cell.Inside.{Good}
use Rattle.std_alloc.specs.Box.Ownership.{box_owns}
use Rattle.std_alloc.proofs.ResultValues.{and_tt}
use Rattle.held_zone.specs.contracts.parked.Parked as parked
use Rattle.held_zone.specs.contracts.zone.Held as zone
use Rattle.held_zone.specs.Held.{chunk, held, is_there}
use Rattle.held_zone.specs.State.{State}
use Rattle.held_zone.specs.contracts.session.Session as session
use Rattle.std.specs.Prelude.{Option, Some, None, IsTrue}
use Rattle.std_heap.specs.contracts.Global as heap
use Rattle.std_heap.specs.contracts.GlobalAllocator.TheImpl.{ghosts}
use Rattle.std_heap.proofs.Global.TheLaws as heap_laws

-- a struct of two words
abbrev pub both : Val → Val → Val
both v w = vstruct (vcons v (vcons w vnil))

module _ (R Z : RattleType) (L : Laws Z) (g : Ghosts Z.Denot) where
  abbrev pub Parked : RattleType
  Parked = parked.the_row R Z g

  abbrev pub al : Al
  al = record { row = Z; laws = L; g = g; d = impl [] tnil dnil; drops = impl [] tnil dnil }

  -- the value at a pointer, and the right to free it
  abbrev Owned : Z.Denot → R.Denot → Ptr → Fml
  Owned a x p = box_owns (g.dealloc_token a) R p x

  pub parked_good : (b o : ℕ) (h : Val) → Good (layout Z) h → T (has_ty (layout Z) h && true) × WT (both (vptr b o) h)
  parked_good b o h fits = (and_tt (has_ty (layout Z) h) fits.0, (tt, (fits.1, tt)))

  module _ {M : Type 1} {𝓤 : Ura M} {𝓛 : Logic 𝓤} {K : Type 0} {Γ : List (Item 𝓤)} {G : Goal 𝓤 𝓛.H} where
    -- a parked box is two words, a pointer into a block and the allocator's handle: [what is at the pointer; the
    -- handle]
    pub parked_out : K → (d : Parked.Denot) (vs : List Val)
        → ((b o : ℕ) (h : Val) → d.at ≡ block_ptr b o → vs ≡ both (vptr b o) h ∷ [] → Good (layout Z) h → Seq K 𝓛 (‵ (Owned d.alloc d.value (block_ptr b o)) ∷ ‵ (Z.own_val d.alloc (h ∷ [])) ∷ Γ) G)
        → Seq K 𝓛 (‵ (Parked.own_val d vs) ∷ Γ) G
    parked_out t d vs k =
        let nowhere = fst∗ 𝓤 (never 𝓤) (sem 𝓛 (g.dealloc_token d.alloc (bare (lone R.mir)) null_ptr)) in
        fsplit t $ fpick t (λ parts. fsplit t $ feq_l t (λ whole_is. fsplit t $ feq_l t (λ pointer_is. fsplit t $
        handle_tells al t d.alloc parts.1.0 (λ h handle_is fits.
        move t (1 ∷ []) $ drop t $ move t (1 ∷ []) $
        in_a_block t d.at (Owned d.alloc d.value) nowhere (λ b o at_block.
        let pointer : parts.0 ≡ vptr b o ∷ [] = pointer_is ∙ ap (λ (p : Ptr). ptr_val p ∷ []) at_block in
        let words : vs ≡ both (vptr b o) h ∷ [] = whole_is ∙ (λ j. vstruct (of_list (pointer j ++ (handle_is j ++ []))) ∷ []) in
        k b o h at_block words fits)))))

    -- and the other way round
    pub parked_in : K → (b o : ℕ) (h : Val) (a : Z.Denot) (x : R.Denot)
        → Step K 𝓛 (‵ (Parked.own_val (record { at = block_ptr b o; alloc = a; value = x }) (both (vptr b o) h ∷ [])) ∷ Γ) G (‵ (Owned a x (block_ptr b o)) ∷ ‵ (Z.own_val a (h ∷ [])) ∷ Γ) G
    parked_in t b o h a x = step (λ rest.
        let whole : List Val = both (vptr b o) h ∷ [] in
        let pointer : List Val = vptr b o ∷ [] in
        let fields = within (shape (parked.the_type R Z g)) (block_ptr b o, (a, tt)) whole in
        nothing t $ move t (2 ∷ 0 ∷ []) $ fjoin t $
        feq_i t (List Val) pointer pointer refl $ fjoin t $
        feq_i t (List Val) whole whole refl $ fjoin t $
        fpack t (Valss (RawPtr ∷ Z ∷ [])) fields (pointer, (h ∷ [], tt)) $ fjoin t $ rest)

abbrev pub Zn : RattleType
Zn = heap.the_row

abbrev pub Held : RattleType
Held = zone.the_row

abbrev pub heap_al : Al
heap_al = record { row = Zn; laws = heap_laws.the_row_laws; g = ghosts; d = impl [] tnil dnil; drops = impl [] tnil dnil }

abbrev pub lone_of : Val → Val
lone_of v = vstruct (vcons v vnil)

module _ {M : Type 1} {𝓤 : Ura M} {𝓛 : Logic 𝓤} {K : Type 0} {Γ : List (Item 𝓤)} {G : Goal 𝓤 𝓛.H} where
  pub held_out : K → (d : Held.Denot) (x : State) → d.session ≡ Some x → (vs : List Val)
      → ((b o : ℕ) → d.at ≡ block_ptr b o → vs ≡ lone_of (vptr b o) ∷ [] → Seq K 𝓛 (‵ (box_owns chunk session.the_row (block_ptr b o) x) ∷ Γ) G)
      → Seq K 𝓛 (‵ (Held.own_val d vs) ∷ Γ) G
  held_out t d x is vs k =
      fsplit t $ fpick t (λ vss. fsplit t $ feq_l t (λ ev. fsplit t $ feq_l t (λ ep. drop t $
      rewrite t 0 (λ (z : Option State). ‵ (held z d.at)) is refl $
      in_a_block t d.at (λ p. box_owns chunk session.the_row p x) (fst∗ 𝓤 (never 𝓤) (sem 𝓛 (chunk (bare (lone session.the_row.mir)) null_ptr))) (λ b o e. k b o e
      (subst (λ (p : Ptr). vs ≡ vstruct (of_list (ptr_val p ∷ [])) ∷ []) e
      (subst (λ (ps : List Val). vs ≡ vstruct (of_list (ps ++ [])) ∷ []) ep ev))))))

  pub held_in : K → (b o : ℕ) (x : State)
      → Step K 𝓛 (‵ (Held.own_val (record { at = block_ptr b o; session = Some x }) (lone_of (vptr b o) ∷ [])) ∷ Γ) G (‵ (box_owns chunk session.the_row (block_ptr b o) x) ∷ Γ) G
  held_in t b o x = step (λ s. let v : Val = lone_of (vptr b o) in
      nothing t $ feq_i t (List Val) (vptr b o ∷ []) (vptr b o ∷ []) refl $ fjoin t $ feq_i t (List Val) (v ∷ []) (v ∷ []) refl $ fjoin t $
      fpack t (Valss (RawPtr ∷ [])) (within (shape zone.the_type) (block_ptr b o, tt) (v ∷ [])) (vptr b o ∷ [], tt) $ fjoin t $ s)

  pub none_in : K → (p : Ptr)
      → Step K 𝓛 (‵ (Held.own_val (record { at = p; session = None }) (lone_of (ptr_val p) ∷ [])) ∷ Γ) G Γ G
  none_in t p = step (λ s. let v : Val = lone_of (ptr_val p) in
      nothing t $ nothing t $ feq_i t (List Val) (ptr_val p ∷ []) (ptr_val p ∷ []) refl $ fjoin t $ feq_i t (List Val) (v ∷ []) (v ∷ []) refl $ fjoin t $
      fpack t (Valss (RawPtr ∷ [])) (within (shape zone.the_type) (p, tt) (v ∷ [])) (ptr_val p ∷ [], tt) $ fjoin t $ s)

pub the_session : (o : Option State) → IsTrue (is_there o) → State
the_session (Some x) there = x
the_session None there = absurd (subst (λ (b : Bool). T b) (sym there) tt)

pub is_the_session : (o : Option State) (there : IsTrue (is_there o)) → o ≡ Some (the_session o there)
unfolding the_session
is_the_session (Some x) there = refl
is_the_session None there = absurd (subst (λ (b : Bool). T b) (sym there) tt)

pub ptr_good : (p : Ptr) → T (has_ty ty_ptr (ptr_val p)) × WT (ptr_val p)
ptr_good (block_ptr b o) = (tt, tt)
ptr_good null_ptr = let low : 0 < 2 ^ 64 = omega arith in (tt, record { fits = low })

pub lone_good : (p : Ptr) → T (has_ty ty_ptr (ptr_val p) && true) × WT (lone_of (ptr_val p))
lone_good (block_ptr b o) = (tt, (tt, tt))
lone_good null_ptr = let low : 0 < 2 ^ 64 = omega arith in (tt, (record { fits = low }, tt))

abbrev pub no_session : Option State
no_session = None
