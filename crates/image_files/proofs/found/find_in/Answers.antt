use Rattle.std.proofs.Common.{sym, ◌∙◌}
use Rattle.image_files.proofs.Missing.{finds_thing}
use Rattle.image_files.proofs.found.find_in.Goals as goal

pub returns-in-Some : goal.returns-in-Some
returns-in-Some c =
    finds_thing c.args.number c.args.volume.now.files c.args.before c.args.names.now c.is_empty.result c.in-Some.thing c.found_at.result c.is_empty.ensures c.if-is_empty.false
    (sym c.find_thing_in.ensures ∙ c.in-Some.is) c.found_at.ensures
