use Rattle.std.proofs.Common.{◌≡◌, ◌∙◌, List, ℕ, None, get_or, length, sym, ap, ◌<◌}
use Rattle.std.specs.Prelude.{option_map}
use Rattle.fork_rez.specs.declared.attribute.Attribute.TheVariants.{SysHeap}
use Rattle.fork_rez.specs.Text.{attributes, word_of}
use Rattle.fork_rez.specs.Reading.{after_word}
use Rattle.fork_rez.proofs.Written.{word_next}
use Rattle.fork_rez.proofs.attribute.word_bit.Goals as goal

pub loop-attribute-preserved : goal.loop-attribute-preserved
loop-attribute-preserved c =
    let text = c.args.text.now in
    let i = c.loop-attribute.attribute-index in
    let less : i < length attributes = c.loop-attribute-test.true in
    let none : after_word (word_of (get_or attributes i SysHeap)) text ≡ None =
    ap (λ (word : List ℕ). after_word word text) (sym c.word.ensures) ∙ sym c.after_word.ensures ∙ ap (option_map (λ rest. rest.now)) c.in_default.is in
    word_next attributes i SysHeap text less none ∙ c.loop-attribute.invariant
