-- `hand_back` gives the bytes to the host. Assumes `Logic`.
use Rattle.std.proofs.Common.{◌≡◌, ℕ, List, [], ◌∷◌, refl, sym, ap, ◌∙◌}
use Rattle.std.specs.Prelude.{Some}
use mir.Val.{Val}
use base.Logic.{SProp}
use base.Fml.{ftrue}
use contract.Monad.{fact}
use contract.Running.{tables}
use prog.Wp.{WpFn}
use types.Kit.{‵, raw, ◌⊛◌, prop, ◌$◌, ◌∵◌, !, qed, move, keep, split, join, rewrite, regoal, fjoin, suffices, done}
use types.Part.{whole, sub, agg}
use types.Run.{stop, fld, of_opd, and_then, no_more, returns, enter}
use types.ByLocal.{alloc_all, pass_all, free_all, look_at, get, get_in, sets}
use denote.Exit.{yes}
use denote.RawPtr.{Ptr, ◌+ₚ◌}
use denote.Signature.{plain}
use denote.Steps.{nothing, heard}
use denote.Triple.Walked.{says, Stays, stay_dropped, walk_of, ends_at}
use Rattle.core.proofs.alloc.Calls.{Goes-blank}
use Rattle.std.proofs.raw_atomic.Walks.{proved}
use Rattle.raw_region.specs.Ownership.{cells}
use Rattle.raw_region.specs.Span.{Span, is_here}
use Rattle.raw_region.specs.declared.cells.Cells.{Cells}
use Rattle.raw_region.specs.declared.host.HostBytes.{HostBytes}
use Rattle.raw_region.proofs.Hosts.{host_made}
use Rattle.raw_region.proofs.Opens.{Row, words_val, cells_val, cells_had, nearest}
use Rattle.raw_region.proofs.cells.Cells.TheLaws.{lowers}
use Rattle.raw_region.specs.contracts.cells.Cells.hand_back as f
use Rattle.raw_region.proofs.cells.Cells.hand_back.Statement.{statement}
use Rattle.raw_region.proofs.cells.Cells.hand_back.Code as code

abbrev stayed : Stays f.ended.signature.params f.ended.kept
stayed = (stay_dropped (plain (λ _. Row)) yes, tt)

abbrev vals : Cells → List Val
vals d = words_val d.at d.len ∷ []

abbrev given : Cells → HostBytes
given d = record { at = d.at; len = d.len; bytes = Some d.bytes; small = d.small }

pub hand_back_spec : {M : Type 1} → statement M
hand_back_spec 𝓤 𝓛 𝓜 𝓡 wired =
    let c = f.clauses 𝓛 𝓜.mem 𝓡.returns in let W = walk_of 𝓛 f.ended stayed c in let 𝓣 = tables 𝓤 𝓛.H 𝓜 𝓡 𝓡.env in
    proved 𝓛 f.ended stayed c 𝓜 𝓡 (Goes-blank 𝓛 0 (plain (λ _. Row)) yes (λ κs x f. tt), tt)
    f.Key.name code.function (code.unfolded 𝓤 𝓛.H 𝓜 𝓡 wired)
    (λ κs. (vals, tt)) (λ κs. ((λ d us is. lowers.val_is d us is), tt)) (λ κs qs bounds a _ are.
    let d = a.0 in let n = d.len in let y : W.Ghost = ((κs, qs, bounds, a, (vals d, tt)), tt) in let Post : Val → SProp 𝓤 = W.post y in
    let Asked : Type 0 = (d.lent ≡ []) × (d.from ≡ 0) in
    qed 𝓛 ((‵ ftrue ⊛ ‵ (Row.own_val d (vals d)) ⊛ ‵ ftrue) ∷ raw (fact 𝓤 Asked) ∷ []) ∵
    move ! (1 ∷ []) $ heard ! _ (λ asked. let here : d.at ≡ d.home.0 = d.placed ∙ ap (λ (k : ℕ). d.home.0 +ₚ k) asked.1 ∙ nearest d.home.0 in
    split ! $ move ! (1 ∷ []) $ split ! $ keep ! (0 ∷ []) $
    cells_had ! d (vals d) (λ b o at_b is fn.
    regoal ! (λ (p : Ptr). prop (WpFn 𝓤 𝓛.H 𝓣.C 𝓣.Λ code.function (words_val p n ∷ []) Post)) at_b refl $
    enter ! _ _ _ _ _ $ alloc_all ! (λ l. pass_all ! refl ((tt, (tt, (record { fits = fn }, tt))), tt) $
    sets ! (of_opd ! (get_in ! (fld ! refl (stop !)) (sub ! 0 refl (whole !)))) refl (tt, tt) $
    sets ! (of_opd ! (get_in ! (fld ! refl (stop !)) (sub ! 1 refl (whole !)))) refl (tt, record { fits = fn }) $
    sets ! (agg ! (and_then ! (get ! refl) (and_then ! (get ! refl) (no_more !)))) refl (tt, (tt, (record { fits = fn }, tt))) $
    rewrite ! 0 (λ (ss : List Span). ‵ (cells (is_here ss) 0 d.bytes b o)) asked.0 refl $
    host_made ! (given d) d.bytes b o refl at_b (sym d.counted) fn $
    returns ! (look_at ! 0 refl) $ free_all ! refl $
    suffices ! _ (ends_at 𝓛 f.ended stayed c y (cells_val b o n) (given d) (tt, tt) (tt, tt)) $ says ! (refl, here, d.counted) $
    nothing ! $ nothing ! $ fjoin ! $ join ! $ nothing ! $ join ! $ done !))))
