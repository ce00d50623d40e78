use Rattle.std.proofs.Common.{ℕ, ◌≤◌, List, ◌∙◌, ap, subst, sym}
use Rattle.mac_files.specs.BinHex.{decoded_from, values_of}
use Rattle.mac_salvage.proofs.Opening.{read_left}
use Rattle.mac_salvage.proofs.text.bytes_left.Goals as goal

pub returns-clause-bytes : goal.returns-clause-bytes
returns-clause-bytes c =
    let same = c.in_ok-bytes.ensures.same_text in
    read_left c.args.text.now c.deref.result.now c.in_ok-bytes.field-0.bytes.items c.in-Some.start c.in-Some-decoded_length.count c.in-Some.ensures.place
    (c.deref.ensures.value ∙ c.in_ok-mended.ensures) c.in-Some-decoded_length.ensures.some
    (subst (λ (n : ℕ). c.in-Some-decoded_length.count ≤ n) c.most_of.ensures c.if-most_of-count.false)
    (
    c.in_ok-bytes.ensures.decoded.bytes ∙ ap (λ (n : ℕ). values_of (decoded_from n c.in_ok-bytes.field-0.text.now)) same.1
    ∙ ap (λ (t : List ℕ). values_of (decoded_from 0 t)) (same.0 ∙ c.deref-2.ensures.value ∙ sym c.deref.ensures.value)
    )
