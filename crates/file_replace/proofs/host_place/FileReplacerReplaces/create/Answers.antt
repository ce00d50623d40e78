use Rattle.std.proofs.Common.{◌≡◌, ℕ, List, Bool, Option, Some, Result, Ok, Err, sym, ◌∙◌, ap, subst}
use Rattle.std.specs.Path.{path_buf_bytes}
use Rattle.fork_disk.specs.declared.record.Record.{Record}
use Rattle.host_paths.specs.Asked.{Log}
use Rattle.host_paths.specs.declared.beside.Beside.{Beside}
use Rattle.host_paths.specs.declared.host.HostCall.{HostCall}
use Rattle.file_replace.specs.declared.host_place.FileReplacer.{FileReplacer}
use Rattle.file_replace.specs.Beneath.{MakesIt}
use Rattle.file_replace.proofs.host_place.FileReplacerReplaces.create.Goals.{in-Ok, in-Err}
use Rattle.file_replace.proofs.host_place.FileReplacerReplaces.create.Goals as goal

-- the file, the answer and the calls are kept
kept : {T E : Type 0} (path : List ℕ) (is_private : Bool) (beside now : Option Beside) (result answer : Result T E) (old mid new : Log)
    → now ≡ beside → answer ≡ result → new ≡ mid → MakesIt path is_private beside result old mid → MakesIt path is_private now answer old new
kept {T} {E} path is_private beside now result answer old mid new same told noted made =
    subst (λ (b : Option Beside). MakesIt path is_private b answer old new) (sym same)
    (subst (λ (r : Result T E). MakesIt path is_private beside r old new) (sym told) (subst (λ (log : Log). MakesIt path is_private beside result old log) (sym noted) made))

pub returns-clause-made : goal.returns-clause-made
returns-clause-made g c =
    let path = path_buf_bytes c.args.self.now.path in let start = c.args.self.now.asked.events in let later = c.make.new.log.events in let answered = c.answered.ensures in
    elim c.match-make.branch [
      | in-Ok w ↦
          kept path c.args.is_private (Some w.in-Ok.beside) c.answered.new.self.beside (Ok tt) c.answered.result start later c.answered.new.self.asked.events
          (answered.beside ∙ ap (λ (place : FileReplacer g.row.W.Denot). place.beside) w.self-is) (answered.same ∙ w.answer-is)
          (ap (λ (calls : Record HostCall). calls.events) answered.asked ∙ ap (λ (place : FileReplacer g.row.W.Denot). place.asked.events) w.self-is)
          (w.in-Ok.ensures.made, w.in-Ok.ensures.only)
      | in-Err w ↦
          kept path c.args.is_private c.args.self.now.beside c.answered.new.self.beside (Err w.in-Err.error) c.answered.result start later c.answered.new.self.asked.events
          (answered.beside ∙ ap (λ (place : FileReplacer g.row.W.Denot). place.beside) w.self-is) (answered.same ∙ w.answer-is)
          (ap (λ (calls : Record HostCall). calls.events) answered.asked ∙ ap (λ (place : FileReplacer g.row.W.Denot). place.asked.events) w.self-is)
          w.in-Err.ensures.only
    ]
