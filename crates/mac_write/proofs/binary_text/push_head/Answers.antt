use Rattle.std.proofs.Common.{◌≡◌, ◌/◌, ◌%◌, ◌++◌, ◌∷◌, [], List, ℕ, length, replicate, ap, ◌∙◌}
use Rattle.std.specs.Prelude.{codes}
use Rattle.byteorder.specs.Endian.{big_bytes}
use Rattle.mac_write.specs.Bytes.{filled}
use Rattle.mac_write.proofs.Added.{after}
use Rattle.mac_write.proofs.binary_text.push_head.Goals as goal

pub returns : goal.returns
returns c =
    let file = c.args.file.now in let finder = file.finder in
    let first = c.extend_from_slice.new.self.items in let name = c.push_filled.new.bytes.items in
    let kind = c.extend_from_slice-2.new.self.items in let creator = c.extend_from_slice-3.new.self.items in
    let high = c.extend_from_slice-4.new.self.items in let zeros = c.push_zeros.new.bytes.items in
    let forks = c.push_four.new.bytes.items in let resources = c.push_four-2.new.bytes.items in
    let created = c.push_four-3.new.bytes.items in let modified = c.push_four-4.new.bytes.items in
    let comment = c.push_two.new.bytes.items in let low = c.extend_from_slice-5.new.self.items in
    let mark = c.extend_from_slice-6.new.self.items in let unused = c.push_zeros-2.new.bytes.items in
    let end = c.extend_from_slice-7.new.self.items in
    let t14 = 130 ∷ 129 ∷ [] in let t13 = replicate 16 0 ++ t14 in let t12 = codes "mBIN" ++ t13 in let t11 = (finder.flags % 256) ∷ [] ++ t12 in
    let t10 = big_bytes 2 (length file.comment.now) ++ t11 in let t9 = big_bytes 4 file.modified ++ t10 in let t8 = big_bytes 4 file.created ++ t9 in
    let t7 = big_bytes 4 (length file.resource_fork.now) ++ t8 in let t6 = big_bytes 4 (length file.data_fork.now) ++ t7 in
    let t5 = replicate 9 0 ++ t6 in let t4 = (finder.flags / 256) ∷ [] ++ t5 in let t3 = finder.creator ++ t4 in let t2 = finder.kind ++ t3 in
    let r13 = after mark unused end (replicate 16 0) t14 c.in_ok-push_zeros-2.ensures c.in_ok-extend_from_slice-7.ensures.items in
    let r12 = after low mark end (codes "mBIN") t13 c.in_ok-extend_from_slice-6.ensures.items r13 in
    let r11 = after comment low end ((finder.flags % 256) ∷ []) t12 c.in_ok-extend_from_slice-5.ensures.items r12 in
    let r10 = after modified comment end (big_bytes 2 (length file.comment.now)) t11 c.in_ok-push_two.ensures r11 in
    let r9 = after created modified end (big_bytes 4 file.modified) t10 c.in_ok-push_four-4.ensures r10 in
    let r8 = after resources created end (big_bytes 4 file.created) t9 c.in_ok-push_four-3.ensures r9 in
    let r7 = after forks resources end (big_bytes 4 (length file.resource_fork.now)) t8 c.in_ok-push_four-2.ensures r8 in
    let r6 = after zeros forks end (big_bytes 4 (length file.data_fork.now)) t7 c.in_ok-push_four.ensures r7 in
    let r5 = after high zeros end (replicate 9 0) t6 c.in_ok-push_zeros.ensures r6 in
    let r4 = after creator high end ((finder.flags / 256) ∷ []) t5 c.in_ok-extend_from_slice-4.ensures.items r5 in
    let r3 = after kind creator end finder.creator t4 c.in_ok-extend_from_slice-3.ensures.items r4 in
    let r2 = after name kind end finder.kind t3 c.in_ok-extend_from_slice-2.ensures.items r3 in
    let r1 = after first name end (filled 63 file.name.now) t2 c.in_ok-push_filled.ensures r2 in
    let start : first ≡ 0 ∷ length file.name.now ∷ [] =
    c.in_ok-extend_from_slice.ensures.items ∙ ap (λ (xs : List ℕ). xs ++ 0 ∷ length file.name.now ∷ []) c.requires.empty in
    r1 ∙ ap (λ (xs : List ℕ). xs ++ (filled 63 file.name.now ++ t2)) start
