use Rattle.std.proofs.Common.{◌∙◌, subst, sym}
use Rattle.mac_write.specs.Parts.{IsFile, Parts}
use Rattle.fork_edit.proofs.Lost.{held_whole}
use Rattle.fork_edit.proofs.convert.converted.Goals as goal

pub returns-clause-whole : goal.returns-clause-whole
returns-clause-whole c = λ none.
    held_whole c.args.asked.now (sym c.in_ok-lost.ensures ∙ none) (subst (λ (file : Parts). IsFile file) c.new_file-new.ensures c.know_file.ensures)
    c.written_laws.ensures.lost
