use Rattle.std.proofs.Common.{arith}
use Rattle.std.proofs.lemmas.Bool.{ltb-true, ltb-false}
use Rattle.script_lang.specs.declared.table.CallName.TheVariants as name
use Rattle.script_text.proofs.CallLaws.{index_last, too_few, too_many}
use Rattle.script_text.proofs.call.get_ind_resource.Goals as goal
use Rattle.script_text.proofs.call.get_ind_resource.Goals.{in_default-via-then-tokens-lt2, in_default-via-else-tokens-lt2+else-tokens-lt3}

pub returns-in_default : goal.returns-in_default
returns-in_default c = λ x is. elim c.in_default.branch [
  | in_default-via-then-tokens-lt2 w ↦ too_few c.args.names.now name.GetIndResource c.args.tokens.now x (ltb-true _ _ w.if-tokens-lt2-1.true) is
  | in_default-via-else-tokens-lt2+else-tokens-lt3 w ↦ too_many c.args.names.now name.GetIndResource c.args.tokens.now x (omega (arith, ltb-false _ _ w.if-tokens-lt3-1.false)) is
]

pub returns-in-None : goal.returns-in-None
returns-in-None c = λ x is.
    let index = index_last c.args.names.now c.args.tokens.now _ x c.in-len2.len_at_least is in
    c.in-None.ensures index.0 index.1
