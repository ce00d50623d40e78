-- Bytes of the host as bytes that are all here, and back. Assumes `Logic`.
use Rattle.std.proofs.Common.{◌≡◌, ℕ, suc, ◌+◌, ◌^◌, ◌<◌, List, [], ◌∷◌, length, refl, sym, w64}
use Rattle.std.specs.Prelude.{Option, Some, None, Bool, IsTrue}
use mathlib.Core.Path.{subst}
use lib.Dec.{T}
use seplogic.Ra.Ura.{Ura}
use base.Fraction.{full_share}
use base.Logic.{ent, emp, id⊢}
use base.Fml.{feq, fsep}
use mir.Val.{Val, vint}
use types.Logic.{Logic, sem}
use types.Kit.{Goal, Step, step, Seq, Item, ‵, ◌$◌, ◌∵◌, !, qed, by, frame, use1, rewrite, fsplit, fjoin, fpack, feq_l, feq_i, flt_i}
use denote.RattleType.{RattleType, Valss}
use denote.Array.{Array}
use denote.Builtin.{u8}
use denote.Memory.{part_at}
use denote.RawPtr.{block_ptr, ptr_val, lies_at}
use denote.RawPtr.Bytes.{bytes, bytes_apart, bytes_whole}
use denote.Steps.{nothing}
use denote.Struct.Struct.{Struct, within}
use denote.Struct.Owning.{shape}
use Rattle.raw_region.specs.Hosts.{host_bytes, are_there}
use Rattle.raw_region.specs.Ownership.{cells}
use Rattle.raw_region.specs.Span.{is_here}
use Rattle.raw_region.specs.declared.host.HostBytes.{HostBytes}
use Rattle.raw_region.specs.contracts.host.HostBytes as C
use Rattle.raw_region.proofs.Opens.{words_val, cells_val, words_had, words_made}

-- the type `HostBytes`, as the logic names it
abbrev pub HostRow : RattleType
HostRow = C.the_row

-- its two data fields, as a plain struct
abbrev pub HostWords : RattleType
HostWords = Struct (shape C.the_type)

-- the bytes that are there
pub the_bytes : (o : Option (List ℕ)) → IsTrue (are_there o) → List ℕ
the_bytes (Some xs) there = xs
the_bytes None there = absurd (subst (λ (b : Bool). T b) (sym there) tt)

pub are_the_bytes : (o : Option (List ℕ)) (there : IsTrue (are_there o)) → o ≡ Some (the_bytes o there)
unfolding the_bytes
are_the_bytes (Some xs) there = refl
are_the_bytes None there = absurd (subst (λ (b : Bool). T b) (sym there) tt)

module _ {M : Type 1} {𝓤 : Ura M} (𝓛 : Logic 𝓤) where
  pub all_here : (xs : List ℕ) (k b o : ℕ) → ent 𝓤 (sem 𝓛 (bytes full_share xs b o)) (sem 𝓛 (cells (is_here []) k xs b o))
  all_here [] k b o = id⊢ 𝓤 (emp 𝓤)
  all_here (x ∷ xs) k b o = qed 𝓛 (‵ (part_at u8 full_share x b o) ∷ ‵ (bytes full_share xs b (o + 1)) ∷ []) ∵ frame ! $ by ! (all_here xs (suc k) b (o + 1))

  pub all_there : (xs : List ℕ) (k b o : ℕ) → ent 𝓤 (sem 𝓛 (cells (is_here []) k xs b o)) (sem 𝓛 (bytes full_share xs b o))
  all_there [] k b o = id⊢ 𝓤 (emp 𝓤)
  all_there (x ∷ xs) k b o = qed 𝓛 (‵ (part_at u8 full_share x b o) ∷ ‵ (cells (is_here []) (suc k) xs b (o + 1)) ∷ []) ∵ frame ! $ by ! (all_there xs (suc k) b (o + 1))

module _ {M : Type 1} {𝓤 : Ura M} {𝓛 : Logic 𝓤} {K : Type 0} {Γ : List (Item 𝓤)} {G : Goal 𝓤 𝓛.H} where
  -- an owned `HostBytes` with bytes is taken apart: its machine value is known, and the bytes are here
  pub host_had : K → (d : HostBytes) (xs : List ℕ) → d.bytes ≡ Some xs → (vs : List Val)
      → ((b o : ℕ) → d.at ≡ block_ptr b o → vs ≡ cells_val b o d.len ∷ [] → d.len < 2 ^ 64 → length xs ≡ d.len → Seq K 𝓛 (‵ (cells (is_here []) 0 xs b o) ∷ Γ) G)
      → Seq K 𝓛 (‵ (HostRow.own_val d vs) ∷ Γ) G
  host_had t d xs is vs k =
      rewrite t 0 (λ (z : Option (List ℕ)). ‵ (fsep (HostWords.own_val (d.at, (d.len, tt)) vs) (host_bytes z d.at d.len))) is refl $
      words_had t d.at d.len (λ p. lies_at (Array u8 d.len) full_share p xs) (id⊢ 𝓤 _) vs (λ b o e told fn.
      use1 𝓛 (‵ (fsep (feq ℕ (length xs) d.len) (bytes full_share xs b o))) (bytes_apart 𝓛 full_share d.len xs b o) $ fsplit t $ feq_l t (λ long.
      use1 𝓛 (‵ (cells (is_here []) 0 xs b o)) (all_here 𝓛 xs 0 b o) $ k b o e told fn long))

  -- a `HostBytes` is made of the bytes
  pub host_made : K → (d : HostBytes) (xs : List ℕ) (b o : ℕ) → d.bytes ≡ Some xs → d.at ≡ block_ptr b o → length xs ≡ d.len → d.len < 2 ^ 64
      → Step K 𝓛 (‵ (HostRow.own_val d (cells_val b o d.len ∷ [])) ∷ Γ) G (‵ (cells (is_here []) 0 xs b o) ∷ Γ) G
  host_made t d xs b o is at long fn = step (λ s.
      use1 𝓛 (‵ (bytes full_share xs b o)) (all_there 𝓛 xs 0 b o) $ feq_i t ℕ (length xs) d.len long $ fjoin t $
      use1 𝓛 (‵ (lies_at (Array u8 d.len) full_share (block_ptr b o) xs)) (bytes_whole 𝓛 full_share d.len xs b o) $
      words_made t d.at d.len (λ p. lies_at (Array u8 d.len) full_share p xs) b o at fn $
      rewrite t 0 (λ (z : Option (List ℕ)). ‵ (fsep (HostWords.own_val (d.at, (d.len, tt)) (cells_val b o d.len ∷ [])) (host_bytes z d.at d.len))) (sym is) refl $ s)

  -- one without bytes is made of nothing
  pub host_none : K → (d : HostBytes) → d.bytes ≡ None → d.len < 2 ^ 64 → Step K 𝓛 (‵ (HostRow.own_val d (words_val d.at d.len ∷ [])) ∷ Γ) G Γ G
  host_none t d none fn = step (λ s.
      nothing t $ nothing t $ flt_i t d.len (2 ^ 64) fn $ feq_i t (List Val) (vint w64 d.len ∷ []) (vint w64 d.len ∷ []) refl $ fjoin t $ fjoin t $
      feq_i t (List Val) (ptr_val d.at ∷ []) (ptr_val d.at ∷ []) refl $ fjoin t $ feq_i t (List Val) (words_val d.at d.len ∷ []) (words_val d.at d.len ∷ []) refl $ fjoin t $
      fpack t (Valss (shape C.the_type).fields) (within (shape C.the_type) (d.at, (d.len, tt)) (words_val d.at d.len ∷ [])) (ptr_val d.at ∷ [], (vint w64 d.len ∷ [], tt)) $ fjoin t $
      rewrite t 0 (λ (z : Option (List ℕ)). ‵ (fsep (HostWords.own_val (d.at, (d.len, tt)) (words_val d.at d.len ∷ [])) (host_bytes z d.at d.len))) (sym none) refl $ s)
