-- `of` keeps what the box owned.
use Rattle.std.proofs.Common.{◌≡◌, List, [], ◌∷◌, ◌++◌, refl, sym, ap, ◌∙◌, subst}
use mir.Syntax.{Fn, Args, a_type, dcons, dnil}
use mir.MapTy.{inst_fn}
use mir.Val.{Val, vptr, vstruct, of_list}
use mir.Raw.{raw as bare}
use base.Logic.{SProp, ent, emp, id⊢, never, fst∗}
use prog.Wp.{WpFn}
use contract.Monad.{fact, fact_i}
use contract.Running.{tables}
use types.Kit.{‵, raw, ◌⊛◌, some, later, ◌$◌, ◌∵◌, !, qed, by, move, drop, use0, use1, split, fsplit, fjoin, fpick, feq_l, pick, await, rewrite, suffices}
use types.Part.{whole, sub, agg}
use types.Run.{stop, fld, of_opd, no_more, and_then, returns, enter}
use types.ByLocal.{alloc_all, pass_all, free_all, look_at, get, get_in, sets, lands_as}
use types.Logic.{sem}
use denote.RattleType.{RattleType}
use denote.Builtin.{RawPtr}
use denote.RawPtr.{Ptr, block_ptr, null_ptr, ptr_val, in_a_block}
use denote.Steps.{nothing, heard, only}
use denote.Struct.Tuple.{Tuple}
use denote.Triple.Clauses.{Lasts, lasts}
use denote.Triple.Entry.{alive}
use denote.Param.{param, bounded, layout}
use denote.Param.Laws.{Laws, param_laws}
use denote.Signature.{plain}
use denote.Triple.Call.{calls_at}
use denote.Triple.Spec.{triple_of}
use denote.Triple.Table.{framed}
use denote.Triple.Walked.{Stays, stay_dropped, walk_of}
use Rattle.core.proofs.alloc.Calls.{Goes-blank, handle_tells}
use Rattle.core.proofs.cell.Inside.{one}
use Rattle.std.proofs.raw_atomic.Walks.{proved_at, leaves}
use Rattle.std_alloc.specs.Box.Ownership.{box_owns}
use Rattle.std_alloc.specs.contracts.boxed.Box as box
use Rattle.std_alloc.proofs.boxed.Box.TheLaws as box_laws
use Rattle.std_alloc.specs.contracts.boxed.Box.into_raw_with_allocator as taken
use Rattle.std_alloc.proofs.boxed.Box.into_raw_with_allocator.Met as taken_met
use Rattle.held_zone.proofs.Words.{both, al, parked_good, parked_in}
use Rattle.held_zone.specs.contracts.parked.Parked.of as f
use Rattle.held_zone.specs.contracts.parked.Parked.of.Key.{name as #self}
use Rattle.held_zone.proofs.parked.Parked.of.Statement.{statement}
use Rattle.held_zone.proofs.parked.Parked.of.Code as code

pub of_spec : {M : Type 1} → statement M
of_spec 𝓤 𝓛 𝓜 𝓡 wired Y Z L LZ g d dY dZ met metY metZ =
    let H = 𝓛.H in let 𝓣 = tables 𝓤 H 𝓜 𝓡 𝓡.env in
    let R : RattleType = param 0 Y in let A : RattleType = param 1 Z in
    let Bx : RattleType = box.the_row R A g in
    let LB : Laws Bx = box_laws.the_row_laws R A g (param_laws 0 Y L) (param_laws 1 Z LZ) in
    let args : Args = bounded (a_type ∷ a_type ∷ []) (Y, (Z, tt)) (dcons d (dcons dY (dcons dZ dnil))) in
    let En = f.ended Y Z g d dY dZ in let c = f.clauses Y Z g d dY dZ 𝓛 𝓜.mem 𝓡.returns in let fn : Fn = inst_fn args code.function in
    let hs : Stays En.signature.params En.kept = (stay_dropped (plain (λ _. Bx)) En.kept.0, tt) in
    proved_at 𝓛 En hs c 𝓜 𝓡 (Goes-blank 𝓛 2 (plain (λ _. Bx)) En.kept.0 (λ κs x f. tt), tt) (#self args) fn (code.unfolded 𝓤 H 𝓜 𝓡 wired (Y, (Z, tt)) d dY dZ) (λ z are.
    let G = triple_of 𝓛 (taken.signature Y Z g d dZ dY) (taken.spec Y Z g d dZ dY 𝓛 𝓜.mem 𝓡.returns) in
    let T = taken.ended Y Z g d dZ dY in let Post : Val → SProp 𝓤 = (walk_of 𝓛 En hs c).post z in let Run : List Val → SProp 𝓤 = λ ws. WpFn 𝓤 H 𝓣.C 𝓣.Λ fn ws Post in
    let b = z.0.3.0 in let vs = z.0.4.0 in
    let found = one (layout Bx) vs ((LB.lawful 𝓛).typed b vs are.0) in
    let w : Val = found.0 in let good = found.2 in
    let asked : List Val → G.Ghost = λ us. ((z.0.0, z.0.1, tt, z.0.3, (us, tt)), z.1) in
    qed 𝓛 (raw (G.pre (asked vs)) ∷ []) ∵ rewrite ! 0 (λ us. raw (G.pre (asked us))) found.1 refl $
    suffices ! (Run (w ∷ [])) (subst (λ (us : List Val). ent 𝓤 (Run (w ∷ [])) (Run us)) (sym (λ i. found.1 i ++ [])) (id⊢ 𝓤 (Run (w ∷ [])))) $
    enter ! 𝓣.C 𝓣.Λ fn (w ∷ []) Post $ alloc_all ! (λ l. pass_all ! refl (good, tt) $
    sets ! (of_opd ! (get ! refl)) refl good $
    calls_at ! (framed 𝓤 H 𝓜 𝓣) G (taken_met.met 𝓤 𝓛 𝓜 𝓡 (code.calls-std_alloc::boxed::Box::into_raw_with_allocator 𝓡.env wired) Y Z L LZ g d dZ dY met metZ metY) (asked (w ∷ []))
    (and_then ! (get ! refl) (no_more !)) (λ v.
    use1 𝓛 (later (some (λ (r : Ptr × Z.Denot). (raw (alive 𝓛 T.signature z.0.0 z.0.1) ⊛ ‵ ((Tuple (RawPtr ∷ A ∷ [])).own_val r (v ∷ []))) ⊛
    some (λ (ws : Lasts T z.0.0 z.0.3). ‵ (lasts T z.0.0 z.0.3 ws) ⊛ raw (fact 𝓤 (r.1 ≡ b.alloc)) ⊛ ‵ (box_owns (g.dealloc_token b.alloc) R r.0 b.value))))) (id⊢ 𝓤 _) $
    await ! tt $ pick ! (λ r. split ! $ split ! $ move ! (2 ∷ []) $ pick ! (λ ws. split ! $ drop ! $ split ! $ heard ! (r.1 ≡ b.alloc) (λ same.
    -- [the memory; the tokens; the pair]
    in_a_block ! r.0 (λ p. box_owns (g.dealloc_token b.alloc) R p b.value) (fst∗ 𝓤 (never 𝓤) (sem 𝓛 (g.dealloc_token b.alloc (bare (layout R)) null_ptr))) (λ m o at_block.
    move ! (2 ∷ []) $ fpick ! (λ parts. fsplit ! $ feq_l ! (λ whole_is. fsplit ! $ feq_l ! (λ pointer_is. fsplit ! $ handle_tells (al Y Z LZ g) ! r.1 parts.1.0 (λ h handle_is fits.
    move ! (1 ∷ []) $ drop ! $ rewrite ! 1 (λ (x : Z.Denot). ‵ (box_owns (g.dealloc_token x) R (block_ptr m o) b.value)) (sym same) refl $
    -- [the handle; the memory; the tokens]
    let pointer : parts.0 ≡ vptr m o ∷ [] = pointer_is ∙ ap (λ (p : Ptr). ptr_val p ∷ []) at_block in
    let words : v ∷ [] ≡ both (vptr m o) h ∷ [] = whole_is ∙ (λ i. vstruct (of_list (pointer i ++ (handle_is i ++ []))) ∷ []) in
    let two = parked_good R A (param_laws 1 Z LZ) g m o h fits in
    lands_as ! (ap only words) refl two $
    sets ! (of_opd ! (get_in ! (fld ! refl (stop !)) (sub ! 0 refl (whole !)))) refl (tt, tt) $
    sets ! (of_opd ! (get_in ! (fld ! refl (stop !)) (sub ! 1 refl (whole !)))) refl fits $
    sets ! (of_opd ! (get ! refl)) refl fits $
    sets ! (agg ! (and_then ! (get ! refl) (and_then ! (get ! refl) (no_more !)))) refl two $
    move ! (1 ∷ 0 ∷ []) $ parked_in R A (param_laws 1 Z LZ) g ! m o h r.1 b.value $
    use0 𝓛 (raw (fact 𝓤 (b.value ≡ b.value))) (fact_i 𝓤 (b.value ≡ b.value) (emp 𝓤) refl) $ nothing ! $ nothing ! $ fjoin ! $
    returns ! (look_at ! 0 refl) $ free_all ! refl $ move ! (3 ∷ 0 ∷ 2 ∷ 1 ∷ []) $
    by ! (leaves 𝓛 En hs c z (both (vptr m o) h) (record { at = block_ptr m o; alloc = r.1; value = b.value }) ((tt, (tt, tt)), tt) (tt, tt)))))))))))))
