-- A record has no bytes, so any list may be the one that it records.
use denote.Laws.{Is}
use denote.Param.{layouts, param}
use denote.RattleType.{RattleType, Valss, owns}
use denote.Signature.{types_at}
use denote.Steps.{nothing, owned}
use denote.Struct.Laws.{makes}
use denote.Struct.Struct.{within}
use denote.Triple.Entry.{alive}
use denote.Triple.Walked.{ends_at, says}
use mir.MapTy.{inst_fn}
use mir.Syntax.{a_type}
use mir.Val.{Val, vcons, vnil, vstruct}
use types.ByLocal.{alloc_all, free_all, get, look_at, pass_all, sets}
use types.Kit.{‵, raw, ◌⊛◌, ◌$◌, ◌∵◌, !, done, feq_i, fjoin, fpack, keep, move, qed, split, suffices}
use types.Part.{agg}
use types.Run.{and_then, enter, no_more, returns}
use Rattle.fork_disk.proofs.record.Record.of_events.Code as code
use Rattle.fork_disk.proofs.record.Record.of_events.Statement.{statement}
use Rattle.fork_disk.specs.contracts.record.Record.of_events as f
use Rattle.std.proofs.Common.{List, [], ◌∷◌, refl}
use Rattle.std.proofs.raw_atomic.Walks.{proved}
use Rattle.std.specs.contracts.marker.PhantomData as Mark

pub of_events_spec : {M : Type 1} → statement M
of_events_spec 𝓤 𝓛 𝓜 𝓡 wired T laws =
    let Of : RattleType = Mark.the_row (param 0 T) in let none : Val = vstruct vnil in let one : Val = vstruct (vcons none vnil) in
    let args = layouts (a_type ∷ []) (T, tt) in let c = f.clauses T 𝓛 𝓜.mem 𝓡.returns in
    proved 𝓛 (f.ended T) tt c 𝓜 𝓡 tt (f.Key.name args) (inst_fn args code.function) (code.unfolded 𝓤 𝓛.H 𝓜 𝓡 wired (T, tt)) (λ κs. tt) (λ κs. tt)
    (λ κs qs bounds a picked are.
    qed 𝓛 ((raw (alive 𝓛 (f.signature T) κs qs) ⊛ ‵ (owns (types_at (f.signature T).params κs) a tt)) ∷ raw ((c κs a).requires picked) ∷ []) ∵
    keep ! (0 ∷ []) $ split ! $ keep ! (0 ∷ []) $
    enter ! _ _ _ _ _ $ alloc_all ! (λ l. pass_all ! refl tt $
    sets ! (agg ! (no_more !)) refl (tt, tt) $
    sets ! (agg ! (and_then ! (get ! refl) (no_more !))) refl (tt, (tt, tt)) $
    nothing ! $ owned ! Of (Is Of) (makes (Mark.the_type (param 0 T)) tt 𝓛) (record {}) (none ∷ []) (tt, (refl, tt)) $
    nothing ! $ move ! (1 ∷ 0 ∷ []) $ fjoin ! $ feq_i ! (List Val) (one ∷ []) (one ∷ []) refl $ fjoin ! $
    fpack ! (Valss (Of ∷ [])) (within (record { name = []; args = []; types = []; fields = Of ∷ [] }) (record {}, tt) (one ∷ [])) (none ∷ [], tt) $ fjoin ! $
    returns ! (look_at ! 0 refl) $ free_all ! refl $
    suffices ! _ (ends_at 𝓛 (f.ended T) tt c ((κs, qs, bounds, a, tt), picked) one (record { of = record {}; events = picked }) tt tt) $ says ! refl $
    nothing ! $ move ! (2 ∷ 0 ∷ 1 ∷ []) $ done !))
