use Rattle.std.proofs.Common.{◌≡◌, ◌++◌, ◌<◌, sym, ap, ◌∙◌, List, ℕ, append_assoc, arith}
use Rattle.std.specs.Prelude.{encode_utf8}
use Rattle.fork_list.specs.Roman.{roman_char, roman_text}
use Rattle.fork_texts.proofs.Romans.{text_more}
use Rattle.fork_texts.proofs.roman.roman_of.Goals as goal

pub loop-character-preserved : goal.loop-character-preserved
loop-character-preserved c =
    let character = c.in-Some.character in
    let byte = c.in-Some-byte_of.byte in
    let done = c.loop-character.bytes.items in
    let rest = c.next.new.self.rest.now in
    let small : byte < 256 = omega arith in
    let same : roman_char byte ≡ character = (c.in-Some-byte_of.ensures byte small).0 cc in
    c.loop-character.invariant
    ∙ ap (λ (t : List ℕ). roman_text done ++ t) c.in-Some.ensures.steps.0
    ∙ ap (λ (n : ℕ). roman_text done ++ (encode_utf8 n ++ rest)) (sym same)
    ∙ sym (append_assoc (roman_text done) (encode_utf8 (roman_char byte)) rest)
    ∙ ap (λ (t : List ℕ). t ++ rest) (sym (text_more done byte))
    ∙ ap (λ (t : List ℕ). roman_text t ++ rest) (sym c.in_ok-push.ensures.items)
