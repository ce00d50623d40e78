use Rattle.std.proofs.Common.{List, ℕ, Option, IfOk, subst}
use Rattle.std.specs.Prelude.{IfNone}
use Rattle.res_types.specs.Bits.{byte_bits}
use Rattle.res_types.specs.Meaning.{decode}
use Rattle.fork_texts.specs.declared.kinds.TextType.{TextType}
use Rattle.fork_texts.specs.Putting.{PutsBytes, PutsParts}
use Rattle.fork_texts.proofs.row.bytes_put.Goals as goal

pub returns-in-Some-clause-none : goal.returns-in-Some-clause-none
returns-in-Some-clause-none c =
    let one = c.in-Some.one.now in
    let texts = c.args.texts.now in
    let P : Option TextType → Type 0 = λ t. IfOk c.typed_put.result (λ found. IfNone found ((new : List ℕ) → ¬ PutsBytes t texts c.args.row.now.datum new)) in
    let Q : List ℕ → Type 0 = λ b. IfOk c.typed_put.result (λ found. IfNone found ((new : List ℕ) → ¬ PutsParts one texts b new (decode one.declaration (byte_bits b)))) in
    subst P c.in-Some.ensures (subst Q c.as_slice.ensures c.typed_put.ensures.none)
