use Rattle.std.proofs.Common.{◌≡◌, ℕ, List, [], Some, refl, ◌∙◌, ap, rules}
use Rattle.file_replace.specs.declared.place.PlainFile.{PlainFile}
use Rattle.file_replace.specs.Memory.{seen}
use Rattle.file_replace.proofs.mem_place.MemPlaceReplaces.create.Goals as goal

abbrev empty_of : List ℕ → PlainFile
empty_of bytes = record { bytes = bytes; owner = record { user = 0; group = 0 }; mode = 420 }

pub returns-clause-creates : goal.returns-clause-creates
returns-clause-creates c =
    let is : seen c.answer-2.new.self.beside ≡ Some (empty_of []) = ap seen c.answer-2.ensures.beside ∙ ap (λ (l : List ℕ). Some (empty_of l)) c.new.ensures.items in
    let empty : (file : PlainFile) × (seen c.answer-2.new.self.beside ≡ Some file) × (file.bytes ≡ []) = (empty_of [], is, refl) in search rules
