use Rattle.std.proofs.Common.{rules, ◌∙◌, Some}
use Rattle.held_zone.specs.Told.{shown_outcome}
use Rattle.held_zone.proofs.Shown.{bytes-shown, code-shown}
use Rattle.macheap_c.proofs.bytes.mh_lent_peek.Goals as goal

pub returns : goal.returns
returns c =
    let code = c.done.ensures ∙ code-shown c.lent_peek-done.result c.lent_peek-done.new.bytes in
    (Some (shown_outcome c.lent_peek-done.result c.lent_peek-done.new.bytes), search rules, bytes-shown c.lent_peek-done.result c.args.bytes.now c.lent_peek-done.new.bytes c.lent_peek-done.ensures.kept, search rules)
