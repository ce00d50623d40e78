use Rattle.script_lang.specs.declared.table.CallName.TheVariants as name
use Rattle.script_text.proofs.CallLaws.{name_last, too_few, type_second}
use Rattle.script_text.proofs.call.add_resource.Goals as goal

pub returns-in_default : goal.returns-in_default
returns-in_default c = λ x is. too_few c.args.names.now name.AddResource c.args.tokens.now x c.in_default.len_below is

pub returns-in_default-2 : goal.returns-in_default-2
returns-in_default-2 c = λ x is.
    let none = rw c.in_default-2.is at c.in_ok-kind.ensures in
    let both = type_second c.args.names.now c.args.tokens.now _ x c.in-len3-up.len_at_least is in
    none both.0 both.1

pub returns-in_default-3 : goal.returns-in_default-3
returns-in_default-3 c = λ x is.
    let none = rw c.in_default-3.is at c.in_ok-name.ensures in
    let bytes = name_last c.args.names.now c.args.tokens.now x c.in-len3-up.len_at_least is in
    none bytes.0 bytes.1
