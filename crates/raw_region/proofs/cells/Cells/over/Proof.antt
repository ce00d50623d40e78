-- `over` takes the bytes of the host. Assumes `Logic`.
use Rattle.std.proofs.Common.{◌≡◌, ℕ, List, [], ◌∷◌, length, refl, sym}
use Rattle.std.specs.Prelude.{Some, IsTrue}
use mir.Val.{Val}
use base.Logic.{SProp}
use base.Fml.{ftrue}
use contract.Monad.{fact}
use contract.Running.{tables}
use prog.Wp.{WpFn}
use types.Kit.{‵, raw, ◌⊛◌, prop, ◌$◌, ◌∵◌, !, qed, move, keep, split, join, regoal, fjoin, suffices, done}
use types.Part.{whole, sub, agg}
use types.Run.{stop, fld, of_opd, and_then, no_more, returns, enter}
use types.ByLocal.{alloc_all, pass_all, free_all, look_at, get, get_in, sets}
use denote.Exit.{yes}
use denote.RawPtr.{Ptr}
use denote.Signature.{plain}
use denote.Steps.{nothing, heard}
use denote.Triple.Walked.{says, Stays, stay_dropped, walk_of, ends_at}
use Rattle.core.proofs.alloc.Calls.{Goes-blank}
use Rattle.std.proofs.raw_atomic.Walks.{proved}
use Rattle.raw_region.specs.Hosts.{are_there}
use Rattle.raw_region.specs.declared.cells.Cells.{Cells}
use Rattle.raw_region.specs.declared.host.HostBytes.{HostBytes}
use Rattle.raw_region.proofs.Hosts.{HostRow, host_had, the_bytes, are_the_bytes}
use Rattle.raw_region.proofs.Opens.{words_val, cells_val, cells_made, nearest}
use Rattle.raw_region.proofs.host.HostBytes.TheLaws.{lowers}
use Rattle.raw_region.specs.contracts.cells.Cells.over as f
use Rattle.raw_region.proofs.cells.Cells.over.Statement.{statement}
use Rattle.raw_region.proofs.cells.Cells.over.Code as code

abbrev stayed : Stays f.ended.signature.params f.ended.kept
stayed = (stay_dropped (plain (λ _. HostRow)) yes, tt)

abbrev vals : HostBytes → List Val
vals d = words_val d.at d.len ∷ []

abbrev whole_of : (d : HostBytes) (xs : List ℕ) → length xs ≡ d.len → Cells
whole_of d xs long = record { at = d.at; len = d.len; home = (d.at, xs); from = 0; bytes = xs; lent = []; placed = sym (nearest d.at); counted = sym long; loans = refl; small = d.small }

pub over_spec : {M : Type 1} → statement M
over_spec 𝓤 𝓛 𝓜 𝓡 wired =
    let c = f.clauses 𝓛 𝓜.mem 𝓡.returns in let W = walk_of 𝓛 f.ended stayed c in let 𝓣 = tables 𝓤 𝓛.H 𝓜 𝓡 𝓡.env in
    proved 𝓛 f.ended stayed c 𝓜 𝓡 (Goes-blank 𝓛 0 (plain (λ _. HostRow)) yes (λ κs x f. tt), tt)
    f.Key.name code.function (code.unfolded 𝓤 𝓛.H 𝓜 𝓡 wired)
    (λ κs. (vals, tt)) (λ κs. ((λ d us is. lowers.val_is d us is), tt)) (λ κs qs bounds a _ are.
    let d = a.0 in let n = d.len in let y : W.Ghost = ((κs, qs, bounds, a, (vals d, tt)), tt) in let Post : Val → SProp 𝓤 = W.post y in
    qed 𝓛 ((‵ ftrue ⊛ ‵ (HostRow.own_val d (vals d)) ⊛ ‵ ftrue) ∷ raw (fact 𝓤 (IsTrue (are_there d.bytes))) ∷ []) ∵
    move ! (1 ∷ []) $ heard ! _ (λ there. let xs : List ℕ = the_bytes d.bytes there in let is : d.bytes ≡ Some xs = are_the_bytes d.bytes there in
    split ! $ move ! (1 ∷ []) $ split ! $ keep ! (0 ∷ []) $
    host_had ! d xs is (vals d) (λ b o at_b told fn long.
    regoal ! (λ (p : Ptr). prop (WpFn 𝓤 𝓛.H 𝓣.C 𝓣.Λ code.function (words_val p n ∷ []) Post)) at_b refl $
    enter ! _ _ _ _ _ $ alloc_all ! (λ l. pass_all ! refl ((tt, (tt, (record { fits = fn }, tt))), tt) $
    sets ! (of_opd ! (get_in ! (fld ! refl (stop !)) (sub ! 0 refl (whole !)))) refl (tt, tt) $
    sets ! (of_opd ! (get_in ! (fld ! refl (stop !)) (sub ! 1 refl (whole !)))) refl (tt, record { fits = fn }) $
    sets ! (agg ! (and_then ! (get ! refl) (and_then ! (get ! refl) (no_more !)))) refl (tt, (tt, (record { fits = fn }, tt))) $
    cells_made ! (whole_of d xs long) b o at_b fn $
    returns ! (look_at ! 0 refl) $ free_all ! refl $
    suffices ! _ (ends_at 𝓛 f.ended stayed c y (cells_val b o n) (whole_of d xs long) (tt, tt) (tt, tt)) $ says ! (is, refl, refl, refl, long) $
    nothing ! $ nothing ! $ fjoin ! $ join ! $ nothing ! $ join ! $ done !))))
