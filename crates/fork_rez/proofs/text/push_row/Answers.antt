use Rattle.std.proofs.Common.{rules, ◌≡◌, ◌∙◌, ◌++◌, List, ℕ, ap}
use Rattle.std.specs.Prelude.{codes}
use Rattle.std.specs.List.{flat_map}
use Rattle.std.specs.Fmt.{signed_decimal}
use Rattle.fork_rez.specs.Text.{attributes_text, commented, lines_of, name_text, written}
use Rattle.fork_rez.proofs.Pieces.{ten_pieces}
use Rattle.fork_rez.proofs.text.push_row.Goals as goal

pub returns : goal.returns
returns c =
    let row = c.args.row.now in
    let kind = flat_map (written 39) row.kind in
    let id = signed_decimal row.id in
    let name = name_text row.name in
    let attributes = attributes_text row.attributes.0 in
    let lines = flat_map commented (lines_of row.datum) in
    let e1 = c.in_ok-extend_from_slice.ensures.items in
    let e2 = c.in_ok-push_kind.ensures ∙ ap (λ (t : List ℕ). t ++ kind) e1 in
    let e3 = c.in_ok-extend_from_slice-2.ensures.items ∙ ap (λ (t : List ℕ). t ++ codes "' (") e2 in
    let here : c.push_id.new.out.items ≡ c.extend_from_slice-2.new.self.items ++ id = search rules in
    let e4 = here ∙ ap (λ (t : List ℕ). t ++ id) e3 in
    let e5 = c.in_ok-push_name.ensures ∙ ap (λ (t : List ℕ). t ++ name) e4 in
    let worded : c.push_attributes.new.out.items ≡ c.push_name.new.out.items ++ attributes = search rules in
    let e6 = worded ∙ ap (λ (t : List ℕ). t ++ attributes) e5 in
    let e7 = c.in_ok-extend_from_slice-3.ensures.items ∙ ap (λ (t : List ℕ). t ++ codes ") {\n") e6 in
    let lined : c.push_lines.new.out.items ≡ c.extend_from_slice-3.new.self.items ++ lines = search rules in
    let e8 = lined ∙ ap (λ (t : List ℕ). t ++ lines) e7 in
    c.in_ok-extend_from_slice-4.ensures.items ∙ ap (λ (t : List ℕ). t ++ codes "};\n\n") e8
    ∙ ten_pieces c.args.out.now.items (codes "data '") kind (codes "' (") id name attributes (codes ") {\n") lines (codes "};\n\n")
