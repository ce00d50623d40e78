-- What a command read that first looked whether something would be written in a disk image.
use Rattle.std.proofs.Common.{◌≡◌, Bool, true, refl, subst}
use Rattle.std.specs.Prelude.{is_none}
use Rattle.fork_words.specs.declared.asked.Asked.{Asked}
use Rattle.fork_words.specs.declared.asked.Asked.TheVariants as asked
use Rattle.fork_words.specs.declared.asked.Salvage.{Salvage}
use Rattle.fork_words.specs.declared.asked.Salvage.TheVariants as salvage
use Rattle.fork_words.specs.declared.work.Work.TheVariants as work
use Rattle.fork_words.specs.Outputs.{salvage_output}
use Rattle.file_acts.specs.Acts.{Log, WritesNothing}
use Rattle.fork_shows.specs.Outputs.{NamesNone}
use Rattle.fork_shows.specs.Salvages.{only_lists}
use Rattle.resfork.specs.Running.{ReadsAsked, only_reads}

-- a salvage that only lists writes nothing new
only_listed : (what : Salvage) → only_lists what ≡ true → is_none (salvage_output what) ≡ true
only_listed (salvage.List letters) lists = refl
only_listed (salvage.Fork path) lists = lists
only_listed (salvage.Data path) lists = lists

-- where nothing was done, nothing was read
pub reads_none : (it : Asked) (log : Log) → ReadsAsked it log log
reads_none (asked.Show showing) log = λ paths may before. before
reads_none (asked.Report reporting) log = λ paths may before. before
reads_none (asked.Salvage salvaging) log = λ paths may before. before
reads_none (asked.View viewing) log = λ paths may before. before
reads_none (asked.Unpack unpacking file) log = λ paths may before. before
reads_none (asked.Page paging) log = λ paths may before. before
reads_none (asked.Find finding) log = λ before. before
reads_none (asked.Change (work.Put it)) log = λ before. before
reads_none (asked.Change (work.Remove it)) log = λ before. before
reads_none (asked.Change (work.Set it)) log = λ before. before
reads_none (asked.Change (work.Copy it)) log = λ before. before
reads_none (asked.Change (work.Compare it)) log = λ paths may other before. before
reads_none (asked.Change (work.Derez it)) log = λ paths may before. before
reads_none (asked.Change (work.Rez it)) log = λ before. before
reads_none (asked.Change (work.Pack it)) log = λ before. before
reads_none (asked.Change (work.Convert it)) log = λ before. before
reads_none (asked.Change (work.Texts file)) log = λ paths may before. before
reads_none (asked.Change (work.PutTexts it)) log = λ before. before
reads_none (asked.Tell text) log = λ paths before. before

-- where nothing new is named, nothing was done before
reads_same : (it : Asked) (old mid new : Log) → NamesNone it → (NamesNone it → mid ≡ old) → ReadsAsked it mid new → ReadsAsked it old new
reads_same it old mid new names none done = subst (λ (log : Log). ReadsAsked it log new) (none names) done

-- of a command that only reads, what was read before is no more than it may read
pub reads_after : (it : Asked) (old mid new : Log) → only_reads it ≡ true → (NamesNone it → mid ≡ old) → WritesNothing old mid → ReadsAsked it mid new → ReadsAsked it old new
reads_after (asked.Show showing) old mid new reads none quiet done = reads_same (asked.Show showing) old mid new (reads, refl) none done
reads_after (asked.Report reporting) old mid new reads none quiet done = reads_same (asked.Report reporting) old mid new (refl, refl) none done
reads_after (asked.Salvage salvaging) old mid new reads none quiet done = reads_same (asked.Salvage salvaging) old mid new (only_listed salvaging.what reads, refl) none done
reads_after (asked.View viewing) old mid new reads none quiet done = reads_same (asked.View viewing) old mid new (reads, refl) none done
reads_after (asked.Unpack unpacking file) old mid new reads none quiet done = reads_same (asked.Unpack unpacking file) old mid new (reads, refl) none done
reads_after (asked.Page paging) old mid new reads none quiet done = reads_same (asked.Page paging) old mid new (reads, refl) none done
reads_after (asked.Find finding) old mid new reads none quiet done = λ before. done (quiet before)
reads_after (asked.Change (work.Put it)) old mid new reads none quiet done = λ before. done (quiet before)
reads_after (asked.Change (work.Remove it)) old mid new reads none quiet done = λ before. done (quiet before)
reads_after (asked.Change (work.Set it)) old mid new reads none quiet done = λ before. done (quiet before)
reads_after (asked.Change (work.Copy it)) old mid new reads none quiet done = λ before. done (quiet before)
reads_after (asked.Change (work.Compare it)) old mid new reads none quiet done = reads_same (asked.Change (work.Compare it)) old mid new (refl, refl) none done
reads_after (asked.Change (work.Derez it)) old mid new reads none quiet done = reads_same (asked.Change (work.Derez it)) old mid new (refl, refl) none done
reads_after (asked.Change (work.Rez it)) old mid new reads none quiet done = λ before. done (quiet before)
reads_after (asked.Change (work.Pack it)) old mid new reads none quiet done = λ before. done (quiet before)
reads_after (asked.Change (work.Convert it)) old mid new reads none quiet done = λ before. done (quiet before)
reads_after (asked.Change (work.Texts file)) old mid new reads none quiet done = reads_same (asked.Change (work.Texts file)) old mid new (refl, refl) none done
reads_after (asked.Change (work.PutTexts it)) old mid new reads none quiet done = λ before. done (quiet before)
reads_after (asked.Tell text) old mid new reads none quiet done = reads_same (asked.Tell text) old mid new (refl, refl) none done
