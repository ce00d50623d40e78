use Rattle.std.proofs.Common.{◌++◌, sym, ap, ◌∙◌, get_or, take, List, ℕ}
use Rattle.std.proofs.lemmas.List.{take_more}
use Rattle.std.specs.Prelude.{encode_utf8}
use Rattle.fork_list.specs.Roman.{roman_text}
use Rattle.fork_list.proofs.Texts.{text_more}
use Rattle.fork_list.proofs.text.text_of.Goals as goal

pub loop-byte-preserved : goal.loop-byte-preserved
loop-byte-preserved c =
    let i = c.loop-byte.byte-index in
    let bytes = c.args.bytes.now in
    let more = take_more bytes i 0 c.loop-byte-test.true in
    c.in_ok-push.ensures.bytes
    ∙ ap (λ (t : List ℕ). t ++ encode_utf8 c.char_of.result) c.loop-byte.invariant
    ∙ ap (λ (n : ℕ). roman_text (take i bytes) ++ encode_utf8 n) c.char_of.ensures
    ∙ sym (text_more (take i bytes) (get_or bytes i 0))
    ∙ ap roman_text (sym more)
