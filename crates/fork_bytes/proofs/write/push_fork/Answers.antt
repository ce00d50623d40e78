use Rattle.std.proofs.Common.{◌≡◌, ◌++◌, ap, ◌∙◌}
use Rattle.fork_bytes.specs.declared.layout.Header.{Header}
use Rattle.fork_bytes.specs.Written.{data_text, header_for, header_text, front_text, map_text, plain_rows, plain_table}
use Rattle.fork_bytes.proofs.Steps.{two_added}
use Rattle.fork_bytes.proofs.write.push_fork.Goals as goal

pub returns : goal.returns
returns g c =
    let table = plain_table g.D.Datum.text c.args.rows.now c.args.extra.now c.args.map_attributes in let plain = plain_rows g.D.Datum.text c.args.rows.now in
    let start = c.args.fork.now.items in let a = c.push_header.new.fork.items in let b = c.extend_from_slice.new.self.items in let d = c.push_data.new.fork.items in let whole = c.push_map.new.fork.items in
    let parts = data_text plain in
    let first : a ≡ start ++ header_text (header_for plain) = c.in_ok-push_header.ensures ∙ ap (λ (h : Header). start ++ header_text h) c.requires.header in
    let second : b ≡ start ++ front_text table = two_added start a b (header_text (header_for plain)) table.extra first c.in_ok-extend_from_slice.ensures.items in
    two_added start b whole (front_text table) (parts ++ map_text table) second (two_added b d whole parts (map_text table) c.in_ok-push_data.ensures c.in_ok-push_map.ensures)
