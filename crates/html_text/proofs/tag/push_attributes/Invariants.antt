use Rattle.std.proofs.Common.{◌≡◌, ◌++◌, map, take}
use Rattle.html_text.specs.Texts.{attributes_text, pair_of}
use Rattle.html_text.proofs.tag.push_attributes.Given as goal

-- the attributes so far
abbrev pub invariant-loop-attribute : goal.invariant-loop-attribute
invariant-loop-attribute l = l.page.items ≡ l.fn.page.items ++ attributes_text (map pair_of (take l.attribute-index l.attributes))
