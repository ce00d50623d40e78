-- The machine values of files that C holds. Assumes `Logic`.
use Rattle.std.proofs.Common.{◌≡◌, ℕ, List, [], ◌∷◌, ◌++◌, refl, sym, subst}
use mathlib.Core.Bool.{Bool}
use lib.Dec.{T}
use seplogic.Ra.Ura.{Ura}
use mir.Raw.{raw as bare}
use mir.Val.{Val, vptr, vstruct, of_list}
use base.Logic.{never, fst∗}
use types.Logic.{Logic, sem}
use types.Kit.{Item, Goal, Seq, Step, step, ‵, ◌$◌, drop, fsplit, fjoin, fpick, fpack, rewrite, feq_i, feq_l}
use denote.RattleType.{RattleType, Valss}
use denote.Builtin.{RawPtr}
use denote.Memory.{lone}
use denote.RawPtr.{Ptr, block_ptr, null_ptr, ptr_val, in_a_block}
use denote.Steps.{nothing}
use denote.Struct.Struct.{within}
use denote.Struct.Owning.{shape}
use Rattle.std_alloc.specs.Box.Ownership.{box_owns}
use Rattle.std.specs.Prelude.{Option, Some, None, IsTrue}
use Rattle.held_files.specs.contracts.files.ForkFiles as files
use Rattle.held_files.specs.contracts.held.Held as held_row
use Rattle.held_files.specs.Forks.{ForksState}
use Rattle.held_files.specs.Held.{held, is_there}
use Rattle.held_zone.specs.Held.{chunk}
use Rattle.held_zone.proofs.Words.{lone_of}

abbrev pub Held : RattleType
Held = held_row.the_row

module _ {M : Type 1} {𝓤 : Ura M} {𝓛 : Logic 𝓤} {K : Type 0} {Γ : List (Item 𝓤)} {G : Goal 𝓤 𝓛.H} where
  pub held_out : K → (d : Held.Denot) (x : ForksState) → d.files ≡ Some x → (vs : List Val)
      → ((b o : ℕ) → d.at ≡ block_ptr b o → vs ≡ lone_of (vptr b o) ∷ [] → Seq K 𝓛 (‵ (box_owns chunk files.the_row (block_ptr b o) x) ∷ Γ) G)
      → Seq K 𝓛 (‵ (Held.own_val d vs) ∷ Γ) G
  held_out t d x is vs k =
      fsplit t $ fpick t (λ vss. fsplit t $ feq_l t (λ ev. fsplit t $ feq_l t (λ ep. drop t $
      rewrite t 0 (λ (z : Option ForksState). ‵ (held z d.at)) is refl $
      in_a_block t d.at (λ p. box_owns chunk files.the_row p x) (fst∗ 𝓤 (never 𝓤) (sem 𝓛 (chunk (bare (lone files.the_row.mir)) null_ptr))) (λ b o e. k b o e
      (subst (λ (p : Ptr). vs ≡ vstruct (of_list (ptr_val p ∷ [])) ∷ []) e
      (subst (λ (ps : List Val). vs ≡ vstruct (of_list (ps ++ [])) ∷ []) ep ev))))))

  pub held_in : K → (b o : ℕ) (x : ForksState)
      → Step K 𝓛 (‵ (Held.own_val (record { at = block_ptr b o; files = Some x }) (lone_of (vptr b o) ∷ [])) ∷ Γ) G (‵ (box_owns chunk files.the_row (block_ptr b o) x) ∷ Γ) G
  held_in t b o x = step (λ s. let v : Val = lone_of (vptr b o) in
      nothing t $ feq_i t (List Val) (vptr b o ∷ []) (vptr b o ∷ []) refl $ fjoin t $ feq_i t (List Val) (v ∷ []) (v ∷ []) refl $ fjoin t $
      fpack t (Valss (RawPtr ∷ [])) (within (shape held_row.the_type) (block_ptr b o, tt) (v ∷ [])) (vptr b o ∷ [], tt) $ fjoin t $ s)

  pub none_in : K → (p : Ptr)
      → Step K 𝓛 (‵ (Held.own_val (record { at = p; files = None }) (lone_of (ptr_val p) ∷ [])) ∷ Γ) G Γ G
  none_in t p = step (λ s. let v : Val = lone_of (ptr_val p) in
      nothing t $ nothing t $ feq_i t (List Val) (ptr_val p ∷ []) (ptr_val p ∷ []) refl $ fjoin t $ feq_i t (List Val) (v ∷ []) (v ∷ []) refl $ fjoin t $
      fpack t (Valss (RawPtr ∷ [])) (within (shape held_row.the_type) (p, tt) (v ∷ [])) (ptr_val p ∷ [], tt) $ fjoin t $ s)

pub the_files : (o : Option ForksState) → IsTrue (is_there o) → ForksState
the_files (Some x) there = x
the_files None there = absurd (subst (λ (b : Bool). T b) (sym there) tt)

pub is_the_files : (o : Option ForksState) (there : IsTrue (is_there o)) → o ≡ Some (the_files o there)
unfolding the_files
is_the_files (Some x) there = refl
is_the_files None there = absurd (subst (λ (b : Bool). T b) (sym there) tt)

abbrev pub no_files : Option ForksState
no_files = None
