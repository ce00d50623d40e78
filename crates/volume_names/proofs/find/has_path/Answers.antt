use Rattle.std.proofs.Common.{◌≡◌, ℕ, ◌-◌, ◌&&◌, Bool, true, false, List, length, get_or, take, map, sym, ap, ◌∙◌}
use Rattle.std.specs.Prelude.{◌||◌}
use Rattle.std.specs.Global.{Vec}
use Rattle.hfs_volume.specs.Entries.{is_folder, is_file}
use Rattle.hfs_volume.specs.Names.{name_bytes}
use Rattle.volume_names.specs.Letters.{is_same_text}
use Rattle.volume_names.specs.Paths.{has_texts, items_of, path_of}
use Rattle.volume_names.proofs.Texts.{or_first, or_second, thing_texts}
use Rattle.volume_names.proofs.find.has_path.Goals as goal
use Rattle.volume_names.proofs.find.has_path.Goals.{else-not-is_folder-via-then-not-is_folder+else-not-is_file, else-not-is_folder-via-else-not-is_folder}

pub returns-then-not-is_same_text : goal.returns-then-not-is_same_text
returns-then-not-is_same_text c = λ entries has.
    let path = c.args.path.now in
    let thing = c.args.thing.now in
    let kind : (is_folder thing || is_file thing) ≡ true = elim c.else-not-is_folder.branch [
      | else-not-is_folder-via-then-not-is_folder+else-not-is_file w ↦ or_second (is_folder thing) (is_file thing) (sym w.is_file.ensures ∙ w.if-not-is_file.false)
      | else-not-is_folder-via-else-not-is_folder w ↦ or_first (is_folder thing) (is_file thing) (sym c.is_folder.ensures ∙ w.if-not-is_folder.false)
    ] in
    let told = rw (c.as_bytes.ensures, c.deref.ensures.value) at c.is_same_text.ensures in
    let says : is_same_text c.args.rule (name_bytes thing.name) (get_or path (length path - 1) c.name-item.result).items ≡ false =
    ap (λ (v : Vec ℕ). is_same_text c.args.rule (name_bytes thing.name) v.items) (sym c.name-item.is) ∙ sym told ∙ c.if-not-is_same_text.true in
    sym (thing_texts c.args.rule path c.name-item.result entries thing c.in-len1-up.len_at_least kind
    ∙ ap (λ (b : Bool). b && has_texts c.args.rule (map items_of (take (length path - 1) path)) (path_of entries thing.parent)) says)

pub returns : goal.returns
returns c = λ entries has.
    let path = c.args.path.now in
    let thing = c.args.thing.now in
    let kind : (is_folder thing || is_file thing) ≡ true = elim c.else-not-is_folder.branch [
      | else-not-is_folder-via-then-not-is_folder+else-not-is_file w ↦ or_second (is_folder thing) (is_file thing) (sym w.is_file.ensures ∙ w.if-not-is_file.false)
      | else-not-is_folder-via-else-not-is_folder w ↦ or_first (is_folder thing) (is_file thing) (sym c.is_folder.ensures ∙ w.if-not-is_folder.false)
    ] in
    let told = rw (c.as_bytes.ensures, c.deref.ensures.value) at c.is_same_text.ensures in
    let says : is_same_text c.args.rule (name_bytes thing.name) (get_or path (length path - 1) c.name-item.result).items ≡ true =
    ap (λ (v : Vec ℕ). is_same_text c.args.rule (name_bytes thing.name) v.items) (sym c.name-item.is) ∙ sym told ∙ c.if-not-is_same_text.false in
    c.leads_to.ensures entries has
    ∙ sym (thing_texts c.args.rule path c.name-item.result entries thing c.in-len1-up.len_at_least kind
    ∙ ap (λ (b : Bool). b && has_texts c.args.rule (map items_of (take (length path - 1) path)) (path_of entries thing.parent)) says)
