use Rattle.std.proofs.Common.{◌≡◌, ◌++◌, ◌+◌, ◌*◌, length, ℕ, List, sym, ap, ◌∙◌, arith}
use Rattle.fork_bytes.specs.declared.layout.Header.{Header}
use Rattle.fork_bytes.specs.Written.{header_for, map_header_text, names_offset, types_text, references_text, names_text, plain_rows}
use Rattle.fork_bytes.proofs.Steps.{two_added}
use Rattle.fork_bytes.proofs.Plain.{plain_map_text}
use Rattle.fork_bytes.proofs.write.push_map.Goals as goal

pub returns : goal.returns
returns g c =
    let text = g.D.Datum.text in let rows = c.args.rows.now in let attributes = c.args.map_attributes in let plain = plain_rows text rows in
    let start = c.args.fork.now.items in let a = c.push_map_header.new.fork.items in let b = c.push_types.new.fork.items in let d = c.push_references.new.fork.items in let whole = c.push_names.new.fork.items in
    let header = map_header_text (header_for plain) attributes (names_offset rows) in
    let types = types_text rows in let references = references_text 0 0 plain in let names = names_text rows in
    let count = c.type_count-types.ensures.types in
    let offset : 30 + 8 * c.type_count-types.result + 12 * length rows ≡ names_offset rows = omega arith in
    let first : a ≡ start ++ header = c.in_ok-push_map_header.ensures
    ∙ ap (λ (h : Header). start ++ map_header_text h attributes (30 + 8 * c.type_count-types.result + 12 * length rows)) c.requires.header
    ∙ ap (λ (n : ℕ). start ++ map_header_text (header_for plain) attributes n) offset in
    two_added start a whole header (types ++ (references ++ names)) first
    (two_added a b whole types (references ++ names) c.in_ok-push_types.ensures (two_added b d whole references names c.in_ok-push_references.ensures c.in_ok-push_names.ensures))
    ∙ ap (λ (xs : List ℕ). start ++ xs) (sym (plain_map_text text rows attributes))
