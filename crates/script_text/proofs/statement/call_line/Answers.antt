use Rattle.std.proofs.Common.{◌∷◌, map}
use Rattle.std.specs.Option.{option_copied}
use Rattle.script_lang.specs.Table.{signature}
use Rattle.script_text.specs.Front.{view}
use Rattle.script_text.specs.Tokens.{Word}
use Rattle.script_text.proofs.CallLines.{Parted, no_named, no_assigned, no_operands}
use Rattle.script_text.proofs.statement.call_line.Goals as goal

pub returns-in_default-clause-line : goal.returns-in_default-clause-line
returns-in_default-clause-line c =
    let parted : Parted (map view c.args.line.now) (option_copied c.assigned_name.result.0) (map view c.assigned_name.result.1.now) = record { parts = c.assigned_name.ensures.parts; by = c.assigned_name.ensures.name } in
    λ x h. no_named c.args.names.now _ _ _ parted c.in_default.ensures.none x h

pub returns-then-not-may_assign-clause-line : goal.returns-then-not-may_assign-clause-line
returns-then-not-may_assign-clause-line c =
    let parted : Parted (map view c.args.line.now) (option_copied c.assigned_name.result.0) (Word (signature c.in-Some.call).name ∷ map view c.in-Some.line.now) =
    record { parts = rw (← c.in-Some.ensures.found) c.assigned_name.ensures.parts; by = c.assigned_name.ensures.name }
    in
    λ x h. no_assigned c.args.names.now _ _ c.in-Some.call _ parted c.if-not-may_assign.ensures x h

pub returns-in_default-2-clause-line : goal.returns-in_default-2-clause-line
returns-in_default-2-clause-line c =
    let call = c.in-Some.call in
    let parted : Parted (map view c.args.line.now) (option_copied c.assigned_name.result.0) (Word (signature call).name ∷ map view c.in-Some.line.now) =
    record { parts = rw (← c.in-Some.ensures.found) c.assigned_name.ensures.parts; by = c.assigned_name.ensures.name }
    in
    λ x h. no_operands c.args.names.now _ _ call _ parted (rw c.in_default-2.is at c.in_ok-call.ensures) x h

pub returns-clause-line : goal.returns-clause-line
returns-clause-line c =
    let is = rw c.in-Some-2.is at c.in_ok-call.ensures in (
      option_copied c.assigned_name.result.0,
      map view c.in-Some.line.now,
      rw is.0 (rw (← c.in-Some.ensures.found) c.assigned_name.ensures.parts),
      rw is.0 c.if-not-may_assign.ensures,
      c.in_ok-assigned.ensures.name,
      is.1,
    )
