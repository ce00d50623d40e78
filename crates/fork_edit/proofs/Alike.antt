-- The first entries with the ids of which the first is read are enough to say what an entry has.
use Rattle.std.proofs.Common.{◌≡◌, ℕ, Bool, true, false, if◌then◌else◌, List, Option, None, Some, refl, sym, ap, ◌∙◌}
use Rattle.std.specs.Prelude.{◌||◌}
use Rattle.mac_files.specs.Apple.{entry_of}
use Rattle.mac_files.specs.Parts.{bytes_of}
use Rattle.mac_files.specs.declared.fault.Entry.{Entry}
use Rattle.fork_edit.specs.Extras.{dates_extra, extra_in, finder_extra, first_with, is_found, is_read}
use Rattle.fork_edit.specs.declared.extra.Extra.{Extra}
use Rattle.fork_edit.specs.declared.extra.Extra.TheVariants as extra

-- of another id an entry is named
unread : (a b c : Bool) (dates finder other : Option Extra) → (a || b || c) ≡ false → (if a then None else if b then dates else if c then finder else other) ≡ other
unread true b c dates finder other is = absurd (cc is)
unread false true c dates finder other is = absurd (cc is)
unread false false true dates finder other is = absurd (cc is)
unread false false false dates finder other is = refl

either : (b : Bool) (x : Option Extra) → (if b then x else x) ≡ x
either true x = refl
either false x = refl

alike_by : (read : Bool) (file : List ℕ) (entry : Entry) (found : Option Entry) → is_read entry.id ≡ read → found ≡ (if read then entry_of entry.id file else None) →
    (if is_found entry found then extra_in entry.id (bytes_of entry.part file) else Some (extra.Entry entry.id))
    ≡ (if is_found entry (entry_of entry.id file) then extra_in entry.id (bytes_of entry.part file) else Some (extra.Entry entry.id))
alike_by true file entry found is at =
    ap (λ (o : Option Entry). if is_found entry o then extra_in entry.id (bytes_of entry.part file) else Some (extra.Entry entry.id)) at
alike_by false file entry found is at =
    let other : Option Extra = Some (extra.Entry entry.id) in
    let bytes = bytes_of entry.part file in
    let named : extra_in entry.id bytes ≡ other = unread _ _ _ (dates_extra bytes) (finder_extra bytes) other is in
    ap (λ (o : Option Entry). if is_found entry o then extra_in entry.id bytes else other) at
    ∙ sym (ap (λ (x : Option Extra). if is_found entry (entry_of entry.id file) then x else other) named ∙ either (is_found entry (entry_of entry.id file)) other)

-- what an entry has, by the first entry of its id where that one is read
pub alike : (file : List ℕ) (entry : Entry) (found : Option Entry) → found ≡ first_with entry.id file →
    (if is_found entry found then extra_in entry.id (bytes_of entry.part file) else Some (extra.Entry entry.id))
    ≡ (if is_found entry (entry_of entry.id file) then extra_in entry.id (bytes_of entry.part file) else Some (extra.Entry entry.id))
alike file entry found at = alike_by (is_read entry.id) file entry found refl at
