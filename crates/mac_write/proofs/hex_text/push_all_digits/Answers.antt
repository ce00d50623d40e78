use Rattle.std.proofs.Common.{◌≡◌, ◌+◌, ◌-◌, ◌*◌, ℕ, ◌++◌, take, drop, ap, ◌∙◌, arith}
use Rattle.mac_write.specs.HexText.{digits}
use Rattle.mac_write.proofs.HexLines.{group_added}
use Rattle.mac_write.proofs.hex_text.push_all_digits.Goals as goal

pub loop-group-preserved : goal.loop-group-preserved
loop-group-preserved c =
    let group = c.loop-group.group in let bytes = c.args.bytes.now in
    let three : 3 * group + 3 - 3 * group ≡ 3 = omega arith in
    group_added c.loop-group.new.items c.push_digits.new.new.items (c.args.new.now.items ++ digits bytes) bytes group (omega arith)
    (c.in_ok-push_digits.ensures ∙ ap (λ (n : ℕ). c.loop-group.new.items ++ digits (take n (drop (3 * group) bytes))) three) c.loop-group.invariant
