use Rattle.std.proofs.Common.{◌≡◌, ◌∙◌, ◌<◌, ◌+◌, ◌-◌, ◌*◌, ◌++◌, List, Option, sym, ap, arith}
use Rattle.std.specs.List.{cons_option, filter_map}
use Rattle.mac_files.specs.Apple.{entries_from, entry_at, entry_count}
use Rattle.mac_files.specs.declared.fault.Entry.{Entry}
use Rattle.mac_files.proofs.Steps.{entries_step}
use Rattle.fork_edit.specs.Extras.{extra_of}
use Rattle.fork_edit.specs.declared.extra.Extra.{Extra}
use Rattle.fork_edit.proofs.extra.entry_extras.Goals as goal

pub loop-index-preserved : goal.loop-index-preserved
loop-index-preserved c =
    let file = c.args.file.now in let i = c.loop-index.index in let old = c.loop-index.extras.items in
    let rest : List Extra = filter_map (extra_of file) (entries_from file (26 + 12 * (i + 1)) (entry_count file - (i + 1))) in
    let found : c.extra_of.result ≡ extra_of file (entry_at file (26 + 12 * i)) = c.extra_of.ensures ∙ ap (extra_of file) c.entry_at-entry.ensures.entry in
    let below : i < entry_count file = omega (arith, c.entry_count-index-end.ensures) in
    c.in_ok-push_extra.ensures rest
    ∙ (ap (λ (extra : Option Extra). old ++ cons_option extra rest) found
    ∙ (ap (λ (entries : List Entry). old ++ filter_map (extra_of file) entries) (sym (entries_step file (entry_count file) i below)) ∙ c.loop-index.invariant))
