use Rattle.std.proofs.Common.{◌≡◌, ◌≤◌, ◌++◌, take, vec_capacity}
use Rattle.std.specs.List.{flat_map}
use Rattle.script_lang.specs.Text as texts
use Rattle.script_lang.proofs.printing.push_blocks.Given as goal

-- the lines of the blocks so far are after what was there, and the room didn't shrink
abbrev pub invariant-loop-block : goal.invariant-loop-block
invariant-loop-block l = (l.text.items ≡ l.fn.text.items ++ flat_map texts.block_text (take l.block-index l.blocks)) × (vec_capacity l.fn.text ≤ vec_capacity l.text)
