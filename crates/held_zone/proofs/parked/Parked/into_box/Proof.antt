-- `into_box` gives the box what was kept.
use Rattle.std.proofs.Common.{◌≡◌, List, [], ◌∷◌, ◌++◌, refl, sym, subst}
use mir.Syntax.{Fn, Args, a_type, dcons, dnil}
use mir.MapTy.{inst_fn}
use mir.Val.{Val, vptr}
use base.Logic.{SProp, ent, emp, id⊢}
use base.Fml.{ftrue}
use prog.Wp.{WpFn}
use contract.BorrowLft.{◌⊑◌}
use contract.Monad.{fact, fact_i}
use contract.Running.{tables}
use types.Kit.{‵, raw, ◌⊛◌, some, later, at_ret, ◌$◌, ◌∵◌, !, qed, by, move, drop, use0, use1, use2, split, join, fsplit, fjoin, feq_i, pick, await, suffices}
use types.Part.{whole, sub}
use types.Run.{stop, fld, of_opd, no_more, and_then, first, blocks, exec, returns, enter}
use types.ByLocal.{alloc_all, pass_all, free_all, look_at, get, get_in, sets, lands_last, env}
use denote.RattleType.{RattleType, owns}
use denote.Laws.{shows}
use denote.RawPtr.{block_ptr}
use denote.Steps.{nothing, heard, peeks}
use denote.Param.{param, bounded}
use denote.Param.Laws.{Laws, param_laws}
use denote.Signature.{types_at, plain}
use denote.Triple.Call.{calls_at_last}
use denote.Triple.Clauses.{Lasts, lasts}
use denote.Triple.Entry.{alive}
use denote.Triple.Spec.{triple_of}
use denote.Triple.Table.{framed}
use denote.Triple.Walked.{Stays, stay_dropped, walk_of}
use Rattle.core.proofs.alloc.Calls.{Goes-blank}
use Rattle.std.proofs.raw_atomic.Walks.{proved_at, leaves}
use Rattle.std.proofs.VecSteps.Shapes.{after}
use Rattle.std_alloc.specs.contracts.boxed.Box as box
use Rattle.std_alloc.proofs.boxed.Box.TheLaws as box_laws
use Rattle.std_alloc.specs.contracts.boxed.Box.from_raw as made
use Rattle.std_alloc.proofs.boxed.Box.from_raw.Met as made_met
use Rattle.held_zone.proofs.Words.{both, Parked, parked_good, parked_out}
use Rattle.held_zone.specs.contracts.parked.Parked.into_box as f
use Rattle.held_zone.specs.contracts.parked.Parked.into_box.Key.{name as #self}
use Rattle.held_zone.proofs.parked.Parked.into_box.Statement.{statement}
use Rattle.held_zone.proofs.parked.Parked.into_box.Code as code

pub into_box_spec : {M : Type 1} → statement M
into_box_spec 𝓤 𝓛 𝓜 𝓡 wired Y Z L LZ g d dY dZ met metY metZ =
    let H = 𝓛.H in let 𝓣 = tables 𝓤 H 𝓜 𝓡 𝓡.env in
    let R : RattleType = param 0 Y in let A : RattleType = param 1 Z in
    let LA : Laws A = param_laws 1 Z LZ in let Bx : RattleType = box.the_row R A g in
    let LB : Laws Bx = box_laws.the_row_laws R A g (param_laws 0 Y L) LA in
    let P : RattleType = Parked R A LA g in
    let args : Args = bounded (a_type ∷ a_type ∷ []) (Y, (Z, tt)) (dcons d (dcons dY (dcons dZ dnil))) in
    let En = f.ended Y Z g d dY dZ in let c = f.clauses Y Z g d dY dZ 𝓛 𝓜.mem 𝓡.returns in let fn : Fn = inst_fn args code.function in
    let hs : Stays En.signature.params En.kept = (stay_dropped (plain (λ _. P)) En.kept.0, tt) in
    proved_at 𝓛 En hs c 𝓜 𝓡 (Goes-blank 𝓛 2 (plain (λ _. P)) En.kept.0 (λ κs x f. tt), tt) (#self args) fn (code.unfolded 𝓤 H 𝓜 𝓡 wired (Y, (Z, tt)) d dY dZ) (λ z are.
    let G = triple_of 𝓛 (made.signature Y Z g d dZ) (made.spec Y Z g d dZ 𝓛 𝓜.mem 𝓡.returns) in let T = made.ended Y Z g d dZ in
    let Post : Val → SProp 𝓤 = (walk_of 𝓛 En hs c).post z in let Run : List Val → SProp 𝓤 = λ ws. WpFn 𝓤 H 𝓣.C 𝓣.Λ fn ws Post in
    let v = z.0.3.0 in
    let LivesY : Type 0 = z.0.0.0 ⊑ Y.lives in let LivesZ : Type 0 = z.0.0.1.0 ⊑ Z.lives in
    qed 𝓛 ((raw (alive 𝓛 En.signature z.0.0 z.0.1) ⊛ ‵ (owns (types_at En.signature.params z.0.0) z.0.3 z.0.4)) ∷ (raw (fact 𝓤 LivesY) ⊛ raw (fact 𝓤 LivesZ) ⊛ ‵ ftrue) ∷ []) ∵
    move ! (1 ∷ []) $ split ! $ heard ! LivesY (λ lives_y. split ! $ heard ! LivesZ (λ lives_z. drop ! $ split ! $ move ! (1 ∷ []) $
    fsplit ! $ move ! (1 ∷ []) $ drop ! $ parked_out R A LA g ! v z.0.4.0 (λ m o h at_block words fits.
    -- [the memory; the handle; the tokens]
    let w : Val = both (vptr m o) h in
    suffices ! (Run (w ∷ [])) (subst (λ (us : List Val). ent 𝓤 (Run (w ∷ [])) (Run us)) (sym (λ i. words i ++ [])) (id⊢ 𝓤 (Run (w ∷ [])))) $
    enter ! 𝓣.C 𝓣.Λ fn (w ∷ []) Post $ alloc_all ! (λ l. pass_all ! refl (parked_good R A LA g m o h fits, tt) $
    sets ! (of_opd ! (get_in ! (fld ! refl (stop !)) (sub ! 0 refl (whole !)))) refl (tt, tt) $
    sets ! (of_opd ! (get_in ! (fld ! refl (stop !)) (sub ! 1 refl (whole !)))) refl fits $
    first ! $ blocks ! $ sets ! (of_opd ! (get ! refl)) refl fits $
    nothing ! $ feq_i ! (List Val) (vptr m o ∷ []) (vptr m o ∷ []) refl $ fjoin ! $ move ! (2 ∷ 0 ∷ []) $ fjoin ! $ move ! (2 ∷ 0 ∷ []) $ join ! $ move ! (1 ∷ []) $
    use0 𝓛 (raw (fact 𝓤 LivesZ)) (fact_i 𝓤 LivesZ (emp 𝓤) lives_z) $ join ! $ use0 𝓛 (raw (fact 𝓤 LivesY)) (fact_i 𝓤 LivesY (emp 𝓤) lives_y) $ join ! $ move ! (1 ∷ []) $
    let asked : G.Ghost = ((z.0.0, z.0.1, tt, (v.alloc, (block_ptr m o, tt)), (h ∷ [], (vptr m o ∷ [], tt))), v.value) in
    use2 𝓛 (raw (G.pre asked)) (id⊢ 𝓤 _) $
    calls_at_last ! (framed 𝓤 H 𝓜 𝓣) G (made_met.met 𝓤 𝓛 𝓜 𝓡 (code.calls-std_alloc::boxed::Box::from_raw 𝓡.env wired) Y Z L LZ g d dZ met metZ) asked
    (and_then ! (get ! refl) (and_then ! (get ! refl) (no_more !))) (λ u.
    use1 𝓛 (later (some (λ (r : Bx.Denot). (raw (alive 𝓛 T.signature z.0.0 z.0.1) ⊛ ‵ (Bx.own_val r (u ∷ []))) ⊛
    some (λ (ws : Lasts T z.0.0 asked.0.3). ‵ (lasts T z.0.0 asked.0.3 ws) ⊛ raw (fact 𝓤 (r.value ≡ v.value)) ⊛ raw (fact 𝓤 (r.alloc ≡ v.alloc)))))) (id⊢ 𝓤 _) $
    await ! tt $ pick ! (λ r. split ! $ split ! $ move ! (2 ∷ []) $ pick ! (λ ws. split ! $ drop ! $ split ! $ heard ! (r.value ≡ v.value) (λ same. heard ! (r.alloc ≡ v.alloc) (λ also.
    -- [the tokens; the box]
    move ! (1 ∷ []) $ peeks ! Bx _ (shows 𝓛 Bx) r (u ∷ []) (λ is. let good = ((LB.lawful 𝓛).typed r (u ∷ []) is).0 in
    lands_last ! refl good $ exec ! 𝓣.C 𝓣.Λ (env fn.locals l) (after 3 fn.body) (at_ret _ Post) $
    sets ! (of_opd ! (get ! refl)) refl good $
    use0 𝓛 (raw (fact 𝓤 (r.value ≡ v.value))) (fact_i 𝓤 (r.value ≡ v.value) (emp 𝓤) same) $ nothing ! $ nothing ! $ fjoin ! $
    returns ! (look_at ! 0 refl) $ free_all ! refl $ move ! (3 ∷ 0 ∷ 2 ∷ 1 ∷ []) $
    by ! (leaves 𝓛 En hs c z u r ((tt, (tt, tt)), tt) (tt, tt)))))))))))))
