use Rattle.std.proofs.Common.{◌≡◌, ◌∙◌, ◌++◌, ◌∷◌, ap, sym, subst, drop, arith, Bool, None, Some, if◌then◌else◌}
use Rattle.core.specs.List.{cons_option}
use Rattle.std.specs.Prelude.{filter_map, find}
use Rattle.mac_base.specs.ZoneSizes.{shape_of}
use Rattle.res_update.specs.Changes.{Files, rows_of}
use Rattle.held_files.specs.Elsewhere.{handle_reached, is_on}
use Rattle.held_files.proofs.Outside.{away, found, is_there, none_left, none_reached, passed, row_there, unreached, within}
use Rattle.held_files.proofs.files.ForkFiles.first_on.Goals as goal
use Rattle.held_files.proofs.files.ForkFiles.first_on.Goals.{else-is_on-via-then-is_on+else-reaches, else-is_on-via-else-is_on}

pub returns-then-reaches : goal.returns-then-reaches
returns-then-reaches c =
    let some = c.in-Some.ensures.some in let r = some.1 in
    let on = is_on (shape_of c.args.zone) c.args.side in let f = handle_reached c.args.reach in
    let is = subst (λ (files : Files). drop c.loop-found.from (rows_of c.args.number files) ≡ some.0 ++ some.1 ∷ some.2) c.files-files.ensures some.3 in
    let same = subst (λ (files : Files). find on (filter_map f (drop c.loop-found.from (rows_of c.args.number files))) ≡ find on (filter_map f (rows_of c.args.number files))) c.files-files.ensures c.loop-found.invariant in
    let rows = rows_of c.args.number c.args.self.now.files in let none = none_reached c.args.reach some.0 some.4 in
    let there = row_there c.args.number c.in-Some.found.0 c.args.self.now.files r (is_there on f rows c.loop-found.from c.in-Some.found.0 c.in-Some.found.1 some.0 r some.2 is none some.6) in
    let reached = sym (c.reaches.ensures r there) ∙ ap (λ (b : Bool). if b then r.handle else None) c.if-reaches.true ∙ some.5 in
    let here = ap on (sym c.number.ensures) ∙ sym c.is_on.ensures ∙ c.if-is_on.true in
    ap Some c.number-then-reaches.ensures ∙ sym (found on f rows c.loop-found.from c.in-Some.found.0 c.in-Some.found.1 some.0 r some.2 is none some.6 reached here) ∙ same

pub overflow_add-from : goal.overflow_add-from
overflow_add-from c =
    let some = c.in-Some.ensures.some in
    let inside = within (is_on (shape_of c.args.zone) c.args.side) (handle_reached c.args.reach) (rows_of c.args.number c.files-files.result.now.files) c.loop-found.from c.in-Some.found.0 c.in-Some.found.1
    some.0 some.1 some.2 some.3 (none_reached c.args.reach some.0 some.4) some.6 in
    let few = c.in-Some.ensures.few in
    omega arith

pub loop-found-preserved : goal.loop-found-preserved
loop-found-preserved c =
    let some = c.in-Some.ensures.some in let r = some.1 in
    let on = is_on (shape_of c.args.zone) c.args.side in let f = handle_reached c.args.reach in
    let is = subst (λ (files : Files). drop c.loop-found.from (rows_of c.args.number files) ≡ some.0 ++ some.1 ∷ some.2) c.files-files.ensures some.3 in
    let none = none_reached c.args.reach some.0 some.4 in let later = filter_map f some.2 in
    let there = row_there c.args.number c.in-Some.found.0 c.args.self.now.files r
    (is_there on f (rows_of c.args.number c.args.self.now.files) c.loop-found.from c.in-Some.found.0 c.in-Some.found.1 some.0 r some.2 is none some.6) in
    let skips : find on (cons_option (f r) later) ≡ find on later = elim c.else-is_on.branch [
      | else-is_on-via-then-is_on+else-reaches w ↦ unreached on c.args.reach r later (ap (λ (b : Bool). if b then r.handle else None) (sym w.if-reaches.false) ∙ w.reaches.ensures r there)
      | else-is_on-via-else-is_on w ↦ away on c.args.reach r c.in-Some.found.1 later some.5 (ap on (sym c.number.ensures) ∙ sym c.is_on.ensures ∙ w.if-is_on.false)
    ] in
    sym (passed on f (rows_of c.args.number c.files-files.result.now.files) c.loop-found.from c.in-Some.found.0 c.in-Some.found.1 some.0 r some.2 some.3 none some.6 skips) ∙ c.loop-found.invariant

pub returns : goal.returns
returns c =
    let on = is_on (shape_of c.args.zone) c.args.side in let f = handle_reached c.args.reach in
    let left = none_left on f (drop c.loop-found.from (rows_of c.args.number c.files-files.result.now.files)) (none_reached c.args.reach _ c.in_default.ensures.none) in
    subst (λ (files : Files). None ≡ find on (filter_map f (rows_of c.args.number files))) c.files-files.ensures (sym left ∙ c.loop-found.invariant)
