use Rattle.std.proofs.Common.{◌≡◌, ◌∙◌, ℕ, List, ap, subst, sym}
use Rattle.std.specs.Prelude.{MatchBool}
use Rattle.mac_base.specs.ZoneState.{ZoneState}
use Rattle.mem_calls.proofs.FlagsTaken.{part-all}
use Rattle.held_zone.specs.NilFlags.{NoNilFlags}
use Rattle.held_zone.specs.State.{State}
use Rattle.held_zone.proofs.session.Session.has_nil_flags.Goals as goal

pub has_any-requires-clause-long : goal.has_any-requires-clause-long
has_any-requires-clause-long c =
    c.bytes.ensures.len ∙ c.len.ensures ∙ c.requires.long ∙ sym (ap (λ (s : State). s.zone.shape.limit) c.self.view_is) ∙ sym (ap (λ (z : ZoneState). z.shape.limit) c.linked.ensures.zone)

pub returns : goal.returns
returns c =
    let given = c.args.region.now.bytes in let b = c.has_any.result in
    let bytes : c.bytes.result.now ≡ given = c.bytes.ensures.value ∙ part-all given c.len.result c.len.ensures in
    subst (λ (s : State). MatchBool b (NoNilFlags s.zone given → ⊥) (NoNilFlags s.zone given)) c.self.view_is
    (subst (λ (z : ZoneState). MatchBool b (NoNilFlags z given → ⊥) (NoNilFlags z given)) c.linked.ensures.zone
    (subst (λ (bs : List ℕ). MatchBool b (NoNilFlags c.linked.result.now bs → ⊥) (NoNilFlags c.linked.result.now bs)) bytes c.has_any.ensures))
