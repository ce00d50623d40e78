use Rattle.std.proofs.Common.{◌≡◌, ℕ, List, [], Option, Some, None, Result, Ok, refl, sym, ◌∙◌, ap, subst, rules}
use Rattle.fork_disk.specs.declared.disk.DiskFault.{DiskFault}
use Rattle.file_replace.specs.declared.mem_place.MemFile.{MemFile}
use Rattle.file_replace.specs.declared.place.PlainFile.{PlainFile}
use Rattle.file_replace.specs.declared.rights.Owner.{Owner}
use Rattle.file_replace.specs.Memory.{folder, seen, with_owner}
use Rattle.file_replace.specs.OnPlace.{IsGiven, now_of}
use Rattle.file_replace.proofs.mem_place.MemPlaceReplaces.set_owner.Goals as goal

abbrev bytes_of : Option PlainFile → List ℕ
bytes_of None = []
bytes_of (Some file) = file.bytes

is_given : (now : Owner) (path later : Option MemFile) (old new : Option MemFile) → new ≡ with_owner now old → IsGiven now (folder path old) (folder later new)
is_given now path later None new is file beside = let e : None ≡ Some file = beside in absurd (cc)
is_given now path later (Some old) new is file beside = (record { bytes = old.bytes.items; owner = now; mode = old.mode }, ap seen is, ap bytes_of beside, refl)

pub returns-clause-sets : goal.returns-clause-sets
returns-clause-sets c =
    let now = c.given-now.result in let new = c.answer-2.new.self in
    let beside : new.beside ≡ with_owner now c.args.self.now.beside = c.answer-2.ensures.beside ∙ c.give.ensures ∙ ap (with_owner now) c.is_turn.ensures.beside in
    let same : c.answer-2.result ≡ Ok now = c.answer-2.ensures.same in
    let given : IsGiven (now_of c.args.owner c.answer-2.result) (folder c.args.self.now.path c.args.self.now.beside) (folder new.path new.beside)
    = subst (λ (r : Result Owner DiskFault). IsGiven (now_of c.args.owner r) (folder c.args.self.now.path c.args.self.now.beside) (folder new.path new.beside)) (sym same)
    (is_given now c.args.self.now.path new.path c.args.self.now.beside new.beside beside) in search rules
