use Rattle.std.proofs.Common.{◌-◌, length, sym, ap, ◌∙◌, List}
use Rattle.std.specs.List.{slice_get}
use Rattle.res_table.specs.declared.chain.OpenFile.{OpenFile}
use Rattle.res_table.specs.OpenFiles.{OpenFiles, last_number}
use Rattle.res_table.proofs.Files.{last_is}
use Rattle.res_table.proofs.chain.Chain.last_number.Goals as goal

pub returns : goal.returns
returns g c =
    sym (last_is c.self.inside.files.items c.in_ok-last.field-0.now (c.in_ok-last.ensures.value ∙ ap (λ (files : List (OpenFile _)). slice_get files (length files - 1)) c.deref.ensures.value))
    ∙ ap (λ (chain : OpenFiles _). last_number chain.files) c.self.view_is
