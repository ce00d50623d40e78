use Rattle.std.proofs.Common.{◌++◌, List, ℕ, map, sym, ap, ◌∙◌}
use Rattle.std.proofs.lemmas.List.{append_assoc}
use Rattle.mac_files.specs.declared.fault.Entry.{Entry}
use Rattle.mac_files.specs.Apple.{entries_of}
use Rattle.mac_write.specs.Apple.{changed, entry_text, fork_entry, list_text}
use Rattle.mac_write.proofs.Entries.{all_added, list_more}
use Rattle.mac_write.proofs.apple.push_list.Goals as goal

pub returns-in_ok-push_entry : goal.returns-in_ok-push_entry
returns-in_ok-push_entry c =
    let file = c.args.plan.now.file.now in let f = changed file c.args.plan.now.count in let start = c.args.new.now.items in
    let added = all_added file (sym c.args.plan.now.listed_is ∙ c.if-not-plan.true) in
    let own = fork_entry file in let listed = list_text (map f (entries_of file)) in
    c.in_ok-push_entry.ensures
    ∙ ap (λ (e : Entry). c.push_listed.new.new.items ++ entry_text e) (c.changed.ensures.entry ∙ ap f c.args.plan.now.fork_is)
    ∙ ap (λ (xs : List ℕ). xs ++ entry_text (f own)) c.in_ok-push_listed.ensures
    ∙ append_assoc start listed (entry_text (f own))
    ∙ ap (λ (xs : List ℕ). start ++ xs) (sym (list_more f (entries_of file) own))
    ∙ ap (λ (es : List Entry). start ++ list_text (map f es)) (sym added)
