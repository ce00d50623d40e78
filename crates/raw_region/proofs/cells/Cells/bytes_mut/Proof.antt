-- `bytes_mut` lends a run of the bytes, and what is written there stays. Assumes `Logic`.
use Rattle.std.proofs.Common.{◌≡◌, ℕ, ◌+◌, ◌*◌, ◌^◌, ◌<◌, ◌≤◌, List, [], ◌∷◌, length, refl, ◌∙◌, arith, MutBor, zero, suc, take, ap, sym, subst}
use seplogic.Ra.Ura.{Ura}
use base.Fraction.{full_share}
use mir.Syntax.{w64, named}
use mir.Val.{Val, vint}
use base.Logic.{SProp, ent, sep, id⊢}
use base.Fml.{Fml, ftrue, fsep, flft, GName}
use types.Logic.{Logic, sem}
use contract.Monad.{fact}
use contract.Running.{tables}
use types.Kit.{‵, raw, ◌⊛◌, later, some, at_ret, ◌$◌, ◌∵◌, !, qed, move, keep, group, use1, use2, split, split3, join, await, pick, rewrite, fsplit, fsplit3, fjoin, fpack, suffices, frame, done}
use types.Part.{whole, sub, look_in, agg}
use types.Run.{stop, fld, load, of_opd, bin, and_then, no_more, first, blocks, exec, returns, enter}
use types.ByLocal.{alloc_all, pass_all, free_all, look_at, get, through, sets, sets_last, env}
use types.SemTy.{cells as elements}
use denote.Exit.{yes, no}
use denote.Array.{Array}
use denote.Builtin.{u8, usize}
use denote.Memory.{mem, cell_at, part_of}
use denote.Index.{row, whole_in, whole_out}
use denote.RawPtr.{block_ptr}
use denote.Plain.{uint_vals, uint_Tells}
use denote.Ref.{MutRef, mut_vals, mut_Tells}
use denote.Slice.{MutSlice, slice_val}
use denote.Signature.{plain, mut_ref_to}
use denote.Steps.{nothing, heard}
use denote.Follow.{follows}
use denote.FollowSlice.{Elements, lends_Elements}
use denote.Triple.Walked.{says, Stays, stay_dropped, walk_of, ends_at, Goes-dropped, Goes-spent_ref}
use Rattle.std.proofs.raw_atomic.Walks.{proved}
use Rattle.std.proofs.VecSteps.Shapes.{after}
use Rattle.raw_region.specs.Bytes.{part}
use Rattle.raw_region.specs.Span.{is_here, IsFree}
use Rattle.raw_region.specs.Ownership.{cells}
use Rattle.raw_region.specs.CellsWritingBack.{with_written, with_part}
use Rattle.raw_region.specs.declared.cells.Cells.{Cells}
use Rattle.raw_region.proofs.Places.{free_here}
use Rattle.raw_region.proofs.Rows.{to_row, of_row, run_out, run_in, run_long, Around}
use Rattle.raw_region.proofs.Opens.{Row, memory, cells_val, cells_opens, cells_made}
use Rattle.raw_region.specs.contracts.cells.Cells.bytes_mut as f
use Rattle.raw_region.proofs.cells.Cells.bytes_mut.Statement.{statement}
use Rattle.raw_region.proofs.cells.Cells.bytes_mut.Code as code

abbrev stayed : Stays f.ended.signature.params f.ended.kept
stayed = (stay_dropped (mut_ref_to (0 ∷ []) tt (plain (λ _. Row))) no, (stay_dropped (plain (λ _. usize)) yes, (stay_dropped (plain (λ _. usize)) yes, tt)))

module _ {M : Type 1} {𝓤 : Ura M} (𝓛 : Logic 𝓤) (rb ro b o : ℕ) (h : Cells) (at n : ℕ) (inside : at + n ≤ length h.bytes) (free : IsFree h.lent at n) where
  abbrev Rest : Fml
  Rest = fsep (Around 𝓛 b (is_here h.lent) o h.bytes at n inside (is_here h.lent)) (cell_at full_share Row.mir (cells_val b o h.len ∷ []) rb ro)

  back_whole : h.at ≡ block_ptr b o → h.len < 2 ^ 64 → (ws : List ℕ) → length ws ≡ length (part h.bytes at n) → ent 𝓤 (sep 𝓤 (sem 𝓛 (elements (mem u8) ws b (at + o))) (sem 𝓛 Rest)) (sem 𝓛 ((mem Row).own_at (with_written h at ws) rb ro))
  unfolding part_of
  back_whole at_b fn ws e =
      let l : length ws ≡ n = e ∙ run_long 𝓛 b (is_here h.lent) o h.bytes at n inside in
      qed 𝓛 (‵ (elements (mem u8) ws b (at + o)) ∷ ‵ Rest ∷ []) ∵ use1 𝓛 (‵ (row u8 full_share ws b (at + o))) (whole_out 𝓛 u8 ws b (at + o)) $
      use1 𝓛 (‵ (cells (is_here h.lent) at ws b (at + o))) (of_row 𝓛 b (is_here h.lent) ws at (at + o) (λ i p q. free_here h.lent at n free i p (omega arith))) $
      move ! (1 ∷ []) $ fsplit ! $ move ! (2 ∷ 0 ∷ []) $
      use2 𝓛 (‵ (memory (with_written h at ws) b o)) (run_in 𝓛 b (is_here h.lent) o h.bytes at n inside (is_here h.lent) ws l) $
      cells_made ! (with_written h at ws) b o at_b fn $ move ! (1 ∷ 0 ∷ []) $ fjoin ! $
      fpack ! (List Val) (λ us. fsep (cell_at full_share Row.mir us rb ro) (Row.own_val (with_written h at ws) us)) (cells_val b o h.len ∷ []) $ done !

  -- the slice has n bytes, so its first n are all
  take_all : (k : ℕ) (us : List ℕ) → length us ≡ k → take k us ≡ us
  take_all zero [] is = refl
  take_all zero (u ∷ us) is = absurd (omega arith)
  take_all (suc k) [] is = absurd (omega arith)
  take_all (suc k) (u ∷ us) is = ap (λ vs. u ∷ vs) (take_all k us (omega arith))

  back : h.at ≡ block_ptr b o → h.len < 2 ^ 64 → (ws : List ℕ) → length ws ≡ length (part h.bytes at n) → ent 𝓤 (sep 𝓤 (sem 𝓛 (elements (mem u8) ws b (at + o))) (sem 𝓛 Rest)) (sem 𝓛 ((mem Row).own_at (with_part h at n ws) rb ro))
  back at_b fn ws e = subst (λ us. ent 𝓤 (sep 𝓤 (sem 𝓛 (elements (mem u8) ws b (at + o))) (sem 𝓛 Rest)) (sem 𝓛 ((mem Row).own_at (with_written h at us) rb ro))) (sym (take_all n ws (e ∙ run_long 𝓛 b (is_here h.lent) o h.bytes at n inside))) (back_whole at_b fn ws e)

pub bytes_mut_spec : {M : Type 1} → statement M
bytes_mut_spec 𝓤 𝓛 𝓜 𝓡 wired =
    let c = f.clauses 𝓛 𝓜.mem 𝓡.returns in let W = walk_of 𝓛 f.ended stayed c in let 𝓣 = tables 𝓤 𝓛.H 𝓜 𝓡 𝓡.env in
    let goes = Goes-dropped 𝓛 1 (plain (λ _. usize)) yes (λ κs x f. refl) in
    proved 𝓛 f.ended stayed c 𝓜 𝓡 (Goes-spent_ref 𝓛 1 (0 ∷ []) tt (plain (λ _. Row)), (goes, (goes, tt)))
    f.Key.name code.function (code.unfolded 𝓤 𝓛.H 𝓜 𝓡 wired)
    (λ κs. (mut_vals, (uint_vals w64, (uint_vals w64, tt)))) (λ κs. (mut_Tells (named 0) κs.0 Row, (uint_Tells w64, (uint_Tells w64, tt)))) (λ κs qs bounds a _ are.
    let κ = κs.0 in let q = qs.0 in let rb = a.0.ref_ptr.0 in let ro = a.0.ref_ptr.1 in let γ = a.0.ghost_name in let h = a.0.now in let at = a.1.0 in let n = a.1.1.0 in
    let fa = are.1.0.1 in let fl = are.1.1.0.1 in
    let y : W.Ghost = ((κs, qs, bounds, a, (mut_vals a.0, (uint_vals w64 at, (uint_vals w64 n, tt)))), tt) in let Post : Val → SProp 𝓤 = W.post y in
    qed 𝓛 (((‵ (flft κ q) ⊛ ‵ ftrue) ⊛ ‵ ((MutRef (named 0) κ Row).own_val a.0 (mut_vals a.0)) ⊛ ‵ (usize.own_val at (vint w64 at ∷ [])) ⊛ ‵ (usize.own_val n (vint w64 n ∷ [])) ⊛ ‵ ftrue) ∷ (raw (fact 𝓤 (at + n ≤ length h.bytes)) ⊛ raw (fact 𝓤 (IsFree h.lent at n))) ∷ []) ∵
    move ! (1 ∷ []) $ split ! $ heard ! _ (λ inside. heard ! _ (λ free.
    split ! $ split ! $ move ! (2 ∷ []) $ split ! $ keep ! (0 ∷ 2 ∷ []) $
    enter ! _ _ _ _ _ $ alloc_all ! (λ l. pass_all ! refl ((tt, tt), ((tt, record { fits = fa }), ((tt, record { fits = fl }), tt))) $
    fsplit3 ! $ move ! (1 ∷ 2 ∷ 3 ∷ []) $ cells_opens ! tt h rb ro (λ b o at_b fn.
    let here = is_here h.lent in let rest = Rest 𝓛 rb ro b o h at n inside free in
    let run = part h.bytes at n in let long = run_long 𝓛 b here o h.bytes at n inside in let small = h.small in let counted = h.counted in
    let roomy : length run < 2 ^ 64 = omega arith in let fitting : length run * 1 < 2 ^ 63 = omega arith in
    first ! $ blocks ! $
    sets ! (of_opd ! (load ! (through ! refl (fld ! refl (stop !))) (look_in ! 1 (sub ! 0 refl (whole !))))) refl (tt, tt) $
    sets ! (bin ! (get ! refl) (get ! refl) tt) refl (tt, tt) $
    sets_last ! (agg ! (and_then ! (get ! refl) (and_then ! (get ! refl) (no_more !)))) refl (tt, (tt, (record { fits = fl }, tt))) $
    exec ! 𝓣.C 𝓣.Λ (env code.Mir.locals l) (after 1 (code.function).body) (at_ret _ Post) $
    sets ! (of_opd ! (get ! refl)) refl (tt, (tt, (record { fits = fl }, tt))) $
    use1 𝓛 (‵ (cells here at run b (at + o)) ⊛ ‵ (Around 𝓛 b here o h.bytes at n inside here)) (run_out 𝓛 b here o h.bytes at n inside) $ split ! $
    use1 𝓛 (‵ (row u8 full_share run b (at + o))) (to_row 𝓛 b here run at (at + o) (λ i p q. free_here h.lent at n free i p (omega arith))) $
    use1 𝓛 (‵ (elements (mem u8) run b (at + o))) (whole_in 𝓛 u8 run b (at + o)) $
    -- [the run; the bytes around it; the two words; the open borrow; obs; auth]
    move ! (1 ∷ 2 ∷ []) $ fjoin ! $ move ! (2 ∷ 3 ∷ 4 ∷ 1 ∷ 0 ∷ []) $ group ! 5 $
    use1 𝓛 (later (some (λ (γ' : GName). raw (Elements 𝓛 Row u8 (with_part h at n) (named 0) κ q rb ro b (at + o) γ run (roomy, fitting) (sem 𝓛 rest) (back 𝓛 rb ro b o h at n inside free at_b fn) γ'))))
    (lends_Elements 𝓛 Row u8 (with_part h at n) (named 0) κ q rb ro b (at + o) γ run (roomy, fitting) (sem 𝓛 rest) (back 𝓛 rb ro b o h at n inside free at_b fn) (Row.coded.code h) (Row.coded.code h)) $ await ! tt $ pick ! (λ γ'.
    returns ! (look_at ! 0 refl) $ free_all ! refl $ keep ! (0 ∷ []) $
    let out : ℕ → MutBor (List ℕ) = λ _. record { ref_ptr = (b, at + o); ghost_name = γ'; now = run } in
    use1 𝓛 (‵ ((MutSlice (named 0) κ u8).own_val (out 0) (slice_val (b, at + o) (length run) ∷ [])) ⊛ ‵ (flft κ q) ⊛ ‵ (follows Row (Array u8 0) γ γ' (with_part h at n))) (id⊢ 𝓤 _) $ split3 ! $
    rewrite ! 0 (λ (k : ℕ). ‵ ((MutSlice (named 0) κ u8).own_val (out 0) (slice_val (b, at + o) k ∷ []))) long refl $
    suffices ! _ (ends_at 𝓛 f.ended stayed c y (slice_val (b, at + o) n) (out 0) (tt, (tt, (tt, tt))) (tt, (tt, (tt, tt)))) $
    nothing ! $ nothing ! $ fjoin ! $ nothing ! $ fjoin ! $ nothing ! $ fjoin ! $ join ! $ nothing ! $ move ! (2 ∷ 0 ∷ []) $ join ! $ join ! $ frame ! $ says ! refl $ done !))))))
