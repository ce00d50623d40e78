-- `nothing_at` owns nothing. Assumes `Logic`.
use Rattle.std.proofs.Common.{◌^◌, ◌<◌, [], ◌∷◌, refl, arith, lit<}
use Rattle.std.specs.Prelude.{None}
use mathlib.Core.Bool.{true, ◌&&◌}
use lib.Dec.{T}
use mir.Syntax.{ty_ptr}
use mir.Val.{has_ty, WT}
use base.Fml.{ftrue}
use contract.Running.{tables}
use types.Kit.{‵, raw, ◌$◌, ◌∵◌, !, qed, drop, join, fjoin, suffices, done}
use types.Part.{agg}
use types.Run.{lit, and_then, no_more, returns, enter}
use types.ByLocal.{alloc_all, pass_all, free_all, look_at, get, sets}
use denote.Exit.{yes}
use denote.RawPtr.{Ptr, RawPtr, block_ptr, null_ptr, ptr_val, rawptr_vals, rawptr_Tells, rawptr_Lawful}
use denote.Signature.{plain}
use denote.Steps.{nothing}
use denote.Triple.Entry.{on_entry}
use denote.Triple.Walked.{says, Stays, stay_dropped, walk_of, ends_at, Goes-dropped}
use Rattle.std.proofs.raw_atomic.Walks.{proved}
use Rattle.raw_region.specs.declared.host.HostBytes.{HostBytes}
use Rattle.raw_region.proofs.Hosts.{host_none}
use Rattle.raw_region.proofs.Opens.{words_val}
use Rattle.raw_region.specs.contracts.host.HostBytes.nothing_at as f
use Rattle.raw_region.proofs.host.HostBytes.nothing_at.Statement.{statement}
use Rattle.raw_region.proofs.host.HostBytes.nothing_at.Code as code

abbrev stayed : Stays f.ended.signature.params f.ended.kept
stayed = (stay_dropped (plain (λ _. RawPtr)) yes, tt)

abbrev nothing_of : Ptr → HostBytes
nothing_of p = record { at = p; len = 0; bytes = None; small = omega arith }

words_good : (p : Ptr) → T (has_ty ty_ptr (ptr_val p) && true) × WT (words_val p 0)
words_good (block_ptr b o) = (tt, (tt, (record { fits = lit< tt }, tt)))
words_good null_ptr = (tt, (record { fits = lit< tt }, (record { fits = lit< tt }, tt)))

pub nothing_at_spec : {M : Type 1} → statement M
nothing_at_spec 𝓤 𝓛 𝓜 𝓡 wired =
    let c = f.clauses 𝓛 𝓜.mem 𝓡.returns in let W = walk_of 𝓛 f.ended stayed c in let 𝓣 = tables 𝓤 𝓛.H 𝓜 𝓡 𝓡.env in
    proved 𝓛 f.ended stayed c 𝓜 𝓡 (Goes-dropped 𝓛 0 (plain (λ _. RawPtr)) yes (λ κs x w. refl), tt)
    f.Key.name code.function (code.unfolded 𝓤 𝓛.H 𝓜 𝓡 wired)
    (λ κs. (rawptr_vals, tt)) (λ κs. (rawptr_Tells, tt)) (λ κs qs bounds a _ are.
    let p : Ptr = a.0 in let low : 0 < 2 ^ 64 = lit< tt in
    let y : W.Ghost = ((κs, qs, bounds, a, (rawptr_vals p, tt)), tt) in
    let good = (rawptr_Lawful 𝓛).typed p _ refl in
    qed 𝓛 (raw (on_entry 𝓛 f.signature κs qs a y.0.4) ∷ ‵ ftrue ∷ []) ∵ drop ! $ drop ! $
    enter ! _ _ _ _ _ $ alloc_all ! (λ l. pass_all ! refl good $
    sets ! (agg ! (and_then ! (get ! refl) (and_then ! (lit ! tt) (no_more !)))) refl (words_good p) $
    host_none ! (nothing_of p) refl low $
    returns ! (look_at ! 0 refl) $ free_all ! refl $
    suffices ! _ (ends_at 𝓛 f.ended stayed c y (words_val p 0) (nothing_of p) (tt, tt) (tt, tt)) $ says ! refl $
    nothing ! $ nothing ! $ fjoin ! $ join ! $ nothing ! $ join ! $ done !))
