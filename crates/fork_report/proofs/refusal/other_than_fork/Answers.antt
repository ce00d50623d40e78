use Rattle.std.proofs.Common.{inl, sym, ◌∙◌, ap}
use Rattle.mac_files.specs.Kinds.{is_known}
use Rattle.fork_list.proofs.Reading.{some_if}
use Rattle.fork_report.proofs.Salvaging.{empty_taken, others_refused, others_taken, whole_taken}
use Rattle.fork_report.proofs.refusal.other_than_fork.Goals as goal

pub returns-then-is_known-clause-taken : goal.returns-then-is_known-clause-taken
returns-then-is_known-clause-taken c = inl (ap is_known (sym c.requires) ∙ sym c.is_known.ensures ∙ c.if-is_known.true)

pub returns-then-is_empty-clause-taken : goal.returns-then-is_empty-clause-taken
returns-then-is_empty-clause-taken c = empty_taken c.args.bytes.now (sym c.is_empty.ensures ∙ c.if-is_empty.true)

pub returns-in_default-clause-taken : goal.returns-in_default-clause-taken
returns-in_default-clause-taken c =
    whole_taken c.args.bytes.now (ap is_known (sym c.requires) ∙ sym c.is_known.ensures ∙ c.if-is_known.false) c.in_default.ensures.none

pub returns-clause-other : goal.returns-clause-other
returns-clause-other c =
    others_refused c.args.bytes.now _ _ _ (some_if _ _ c.is_empty.ensures c.if-is_empty.false)
    (ap is_known (sym c.requires) ∙ sym c.is_known.ensures ∙ c.if-is_known.false) c.in-Some.ensures.damage.1 c.of_other.ensures.other

pub returns-clause-taken : goal.returns-clause-taken
returns-clause-taken c = others_taken c.args.bytes.now _ _ _ c.in-Some.ensures.damage.1 c.of_other.ensures.taken
