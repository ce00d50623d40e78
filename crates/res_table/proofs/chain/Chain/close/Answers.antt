use Rattle.std.proofs.Common.{sym, ap, ◌∙◌}
use Rattle.res_table.proofs.Forgetting.{past_end}
use Rattle.res_table.proofs.Files.{file_found, none_open, closed_found, closed_none}
use Rattle.res_table.proofs.chain.Chain.close.Goals as goal
use Rattle.res_table.proofs.chain.Chain.close.Goals.{then-was_current, else-was_current}
use Rattle.std.proofs.Common.{Option, Bool, List, ℕ, option_map, get_or, remove, if◌then◌else◌}
use Rattle.res_table.specs.OpenFiles.{OpenFiles, table_in, last_number}
use Rattle.res_table.specs.declared.chain.OpenFile.{OpenFile}

pub returns-in_err-at-clause-table : goal.returns-in_err-at-clause-table
returns-in_err-at-clause-table g c =
    c.from_residual.ensures ∙ sym (ap (option_map table_in) ((none_open c.args.number c.args.self.now.files (past_end _ _ (sym c.position_of.ensures ∙ c.in_err-at.was))).1))

pub returns-in_err-at-clause-closed : goal.returns-in_err-at-clause-closed
returns-in_err-at-clause-closed g c =
    closed_none c.args.number c.args.self.now ((none_open c.args.number c.args.self.now.files (past_end _ _ (sym c.position_of.ensures ∙ c.in_err-at.was))).0)

pub returns-clause-table : goal.returns-clause-table
returns-clause-table g c =
    let read = c.remove-file.ensures.value ∙ ap (λ (chain : OpenFiles _). get_or chain.files c.in_ok-at.at c.remove-file.result) c.self.view_is in
    let found = file_found c.args.number c.args.self.now.files c.in_ok-at.at c.remove-file.result (sym c.position_of.ensures ∙ c.in_ok-at.was) read in
    sym (ap (option_map table_in) found.file)

pub returns-clause-closed : goal.returns-clause-closed
returns-clause-closed g c =
    let read = c.remove-file.ensures.value ∙ ap (λ (chain : OpenFiles _). get_or chain.files c.in_ok-at.at c.remove-file.result) c.self.view_is in
    let found = file_found c.args.number c.args.self.now.files c.in_ok-at.at c.remove-file.result (sym c.position_of.ensures ∙ c.in_ok-at.was) read in
    let left = c.remove-file.ensures.items ∙ ap (λ (chain : OpenFiles _). remove chain.files c.in_ok-at.at) c.self.view_is in
    let closed = closed_found c.args.number c.args.self.now c.in_ok-at.at c.remove-file.result found in
    elim c.if-was_current.branch [
      | then-was_current w ↦
          w.self-is ∙ ap (λ (current : Option ℕ). let chain : OpenFiles _ = record { files = c.remove-file.new.self.items; current = current } in chain) w.last_number-self-inside.ensures
          ∙ ap (λ (files : List (OpenFile _)). let chain : OpenFiles _ = record { files = files; current = last_number files } in chain) left
          ∙ ap (λ (b : Bool). let chain : OpenFiles _ = record { files = remove c.args.self.now.files c.in_ok-at.at; current = if b then last_number (remove c.args.self.now.files c.in_ok-at.at) else c.args.self.now.current } in chain) w.if-was_current.ensures
          ∙ sym closed
      | else-was_current w ↦
          w.self-is ∙ ap (λ (current : Option ℕ). let chain : OpenFiles _ = record { files = c.remove-file.new.self.items; current = current } in chain) (ap (λ (chain : OpenFiles _). chain.current) c.self.view_is)
          ∙ ap (λ (files : List (OpenFile _)). let chain : OpenFiles _ = record { files = files; current = c.args.self.now.current } in chain) left
          ∙ ap (λ (b : Bool). let chain : OpenFiles _ = record { files = remove c.args.self.now.files c.in_ok-at.at; current = if b then last_number (remove c.args.self.now.files c.in_ok-at.at) else c.args.self.now.current } in chain) w.if-was_current.ensures
          ∙ sym closed
    ]
