use Rattle.std.proofs.Common.{◌≡◌, subst, sym, ◌∙◌, Bool, true, false, List, [], ◌∷◌, length, IfOk, string_bytes}
use Rattle.std.specs.Prelude.{if◌then◌else◌}
use Rattle.fork_bytes.specs.Rows.{Row}
use Rattle.fork_list.specs.Compressed.{unpacked_length}
use Rattle.fork_list.specs.Listing.{listing}
use Rattle.fork_list.specs.declared.letters.Letters.TheVariants.{Roman}
use Rattle.fork_find.specs.Sought.{found_line, is_sought}
use Rattle.fork_find.proofs.found_line.Goals as goal

pub returns-then-is_sought : goal.returns-then-is_sought
unfolding found_line
returns-then-is_sought c =
    let row = c.args.row.now in
    let shown = subst (λ (rows : List Row). IfOk c.listing.result (λ text. string_bytes text ≡ listing length unpacked_length Roman [] rows)) c.from_ref.ensures.value c.listing.ensures in
    subst (λ (is : Bool). IfOk c.listing.result (λ text. string_bytes text ≡ (if is then listing length unpacked_length Roman [] (row ∷ []) else []))) (sym (sym c.is_sought.ensures ∙ c.if-is_sought.true)) shown

pub returns-else-is_sought : goal.returns-else-is_sought
unfolding found_line
returns-else-is_sought c =
    let row = c.args.row.now in
    subst (λ (is : Bool). string_bytes c.new.result ≡ (if is then listing length unpacked_length Roman [] (row ∷ []) else [])) (sym (sym c.is_sought.ensures ∙ c.if-is_sought.false)) c.new.ensures.bytes
