use Rattle.std.proofs.Common.{◌≡◌, refl, sym, subst, Bool, Result, Ok, Err, IsOk, IfOk}
use Rattle.mac_base.specs.ZoneSizes.{ZoneSizes, ArePossible, AreUsual}
use Rattle.macheap.specs.Asking.{IsAllowed}
use Rattle.macheap.proofs.asked.spec_of.Goals as goal

-- what holds of these sizes where there is a zone holds of the zone
held : {E : Type 0} (P : ZoneSizes → Type 0) (sizes : ZoneSizes) (made : Result ZoneSizes E) → (IsOk made → P sizes) → IfOk made (λ spec. spec ≡ sizes) → IfOk made P
held P sizes (Ok spec) holds is = subst P (sym is) (holds refl)
held P sizes (Err fault) holds is = tt

pub returns-then-is_large-clause-allowed : goal.returns-then-is_large-clause-allowed
returns-then-is_large-clause-allowed c = subst (λ (large : Bool). IfOk c.large.result (IsAllowed large)) (sym c.if-is_large.true) (held ArePossible _ c.large.result c.large.ensures.possible.0 c.large.ensures.spec)

pub returns-else-is_large-clause-allowed : goal.returns-else-is_large-clause-allowed
returns-else-is_large-clause-allowed c = subst (λ (large : Bool). IfOk c.with_kind.result (IsAllowed large)) (sym c.if-is_large.false) (held AreUsual _ c.with_kind.result c.with_kind.ensures.possible.0 c.with_kind.ensures.spec)
