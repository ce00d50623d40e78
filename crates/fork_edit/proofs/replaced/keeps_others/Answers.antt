use Rattle.std.proofs.Common.{◌≡◌, ◌∙◌, ℕ, List, subst, sym}
use Rattle.std.proofs.lemmas.Slice.Eq.{bytes_eq-Decides}
use Rattle.fork_edit.specs.Files.{HasTable}
use Rattle.fork_edit.proofs.replaced.keeps_others.Goals as goal

pub returns-in-Ok : goal.returns-in-Ok
returns-in-Ok c = λ keeps. (
    let same = (bytes_eq-Decides c.as_slice.result.now c.args.new.now).0 (sym c.eq.ensures ∙ keeps) in
    let P : List ℕ → Type 0 = λ bytes. HasTable c.args.file.now c.args.table.now bytes in
    subst P (sym c.as_slice.ensures.value ∙ same) c.in-Ok.ensures.holds)
