-- `start` reads a field. Assumes `Logic`.
use Rattle.std.proofs.Common.{◌+◌, List, [], ◌∷◌, ap, sym, refl}
use mir.Syntax.{named}
use mir.Val.{Val, vptr}
use base.Logic.{never, id⊢}
use base.Fml.{ftrue, flft}
use types.Kit.{‵, ◌⊛◌, ◌$◌, ◌∵◌, !, qed, move, keep, drop, use1, split, split3, join, fsplit, fjoin, feq_i, suffices, done}
use types.Run.{look, stop, fld, load, of_opd, returns, enter}
use types.ByLocal.{alloc_all, pass_all, free_all, look_at, through, sets}
use denote.Exit.{yes}
use denote.Builtin.{usize, RefOf}
use denote.Memory.{hidden_shr}
use denote.RawPtr.{RawPtr, Ptr, ptr_val, in_a_block}
use denote.Ref.{ShrRef, shr_vals, shr_Tells}
use denote.Signature.{plain}
use denote.Steps.{nothing}
use denote.Triple.Walked.{says, Stays, stay_dropped, walk_of, ends_at, Goes-dropped}
use Rattle.std.proofs.raw_atomic.Walks.{proved}
use Rattle.core.proofs.slots.Lent.{pointer_in, pointer_out}
use Rattle.raw_region.specs.Span.{is_here}
use Rattle.raw_region.specs.Ownership.{shown}
use Rattle.raw_region.proofs.Shown.{shows_parts}
use Rattle.raw_region.proofs.Opens.{Row}
use Rattle.raw_region.specs.contracts.cells.Cells.start as f
use Rattle.raw_region.proofs.cells.Cells.start.Statement.{statement}
use Rattle.raw_region.proofs.cells.Cells.start.Code as code

abbrev stayed : Stays f.ended.signature.params f.ended.kept
stayed = (stay_dropped (RefOf (0 ∷ []) tt (plain (λ _. Row)) (λ _. tt)) yes, tt)

pub start_spec : {M : Type 1} → statement M
start_spec 𝓤 𝓛 𝓜 𝓡 wired =
    let c = f.clauses 𝓛 𝓜.mem 𝓡.returns in let W = walk_of 𝓛 f.ended stayed c in proved 𝓛 f.ended stayed c 𝓜 𝓡 (Goes-dropped 𝓛 1 (RefOf (0 ∷ []) tt (plain (λ _. Row)) (λ _. tt)) yes (λ κs x f. refl), tt)
    f.Key.name code.function (code.unfolded 𝓤 𝓛.H 𝓜 𝓡 wired)
    (λ κs. (shr_vals, tt)) (λ κs. (shr_Tells (named 0) κs.0 Row, tt)) (λ κs qs bounds a _ are.
    let κ = κs.0 in let q = qs.0 in let rb = a.0.ref_ptr.0 in let ro = a.0.ref_ptr.1 in let h = a.0.now in
    let y : W.Ghost = ((κs, qs, bounds, a, (shr_vals a.0, tt)), tt) in
    qed 𝓛 (((‵ (flft κ q) ⊛ ‵ ftrue) ⊛ ‵ ((ShrRef (named 0) κ Row).own_val a.0 (shr_vals a.0)) ⊛ ‵ ftrue) ∷ ‵ ftrue ∷ []) ∵
    split ! $ split ! $ move ! (2 ∷ []) $ split ! $ keep ! (0 ∷ 2 ∷ []) $ fsplit ! $ drop ! $
    use1 𝓛 (‵ (hidden_shr RawPtr κ h.at rb (ro + 0)) ⊛ ‵ (hidden_shr usize κ h.len rb (ro + 8)) ⊛ ‵ (shown h.at (is_here h.lent) h.bytes κ)) (shows_parts 𝓛 κ h rb ro) $ split3 ! $ move ! (2 ∷ []) $
    in_a_block ! h.at (λ p. shown p (is_here h.lent) h.bytes κ) (id⊢ 𝓤 (never 𝓤)) (λ b o at_b. keep ! (1 ∷ 3 ∷ []) $
    enter ! _ _ _ _ _ $ alloc_all ! (λ l. pass_all ! refl ((tt, tt), tt) $ pointer_in ! tt h.at b o at_b rb (ro + 0) (λ q'.
    sets ! (of_opd ! (load ! (through ! refl (fld ! refl (stop !))) (look ! 0 refl))) refl (tt, tt) $ pointer_out ! tt h.at b o at_b rb (ro + 0) $
    returns ! (look_at ! 0 refl) $ free_all ! refl $
    suffices ! _ (ends_at 𝓛 f.ended stayed c y (vptr b o) h.at (tt, tt) (tt, tt)) $ says ! h.placed $
    feq_i ! (List Val) (vptr b o ∷ []) (ptr_val h.at ∷ []) (ap (λ (r : Ptr). ptr_val r ∷ []) (sym at_b)) $
    nothing ! $ nothing ! $ fjoin ! $ join ! $ nothing ! $ move ! (2 ∷ 0 ∷ []) $ join ! $ done !))))
