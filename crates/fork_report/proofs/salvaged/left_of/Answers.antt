use Rattle.std.proofs.Common.{◌≡◌, ◌∙◌, ap, sym, Bool, false, Option, Some, None}
use Rattle.std.specs.Prelude.{MatchOption}
use Rattle.fork_list.proofs.Reading.{some_if}
use Rattle.fork_report.specs.declared.damage.Tally.{Tally}
use Rattle.fork_report.specs.Damage.{is_readable}
use Rattle.fork_report.proofs.Refusing.{faulty, told_left}
use Rattle.fork_report.proofs.salvaged.left_of.Goals as goal

-- the answer of is_some_and
readable_of : (tally : Option Tally) (answer : Bool) → MatchOption tally (answer ≡ false) (λ (some : Tally). answer ≡ is_readable (Some some)) → answer ≡ is_readable tally
readable_of None answer known = known
readable_of (Some some) answer known = known

pub returns-then-not-is_some_and-clause-nothing : goal.returns-then-not-is_some_and-clause-nothing
returns-then-not-is_some_and-clause-nothing c = (
  c.nothing_left.ensures,
  (some_if _ _ c.is_empty.ensures c.if-is_empty.false, faulty _ _ c.first_fault.ensures.refuses c.if-is_none.ensures),
  sym ((readable_of _ _ c.is_some_and.ensures) ∙ ap (λ (t : Option Tally). is_readable t) c.tally_of-tally.ensures) ∙ c.if-not-is_some_and.true,
)

pub returns-clause-told : goal.returns-clause-told
returns-clause-told c =
    told_left _ _ (some_if _ _ c.is_empty.ensures c.if-is_empty.false, faulty _ _ c.first_fault.ensures.refuses c.if-is_none.ensures) c.tally_of-tally.ensures
    (sym (readable_of _ _ c.is_some_and.ensures) ∙ c.if-not-is_some_and.false)
