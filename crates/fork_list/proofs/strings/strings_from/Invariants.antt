use Rattle.std.proofs.Common.{◌≡◌, ◌-◌, ◌++◌, List, ℕ, map}
use Rattle.std.specs.Prelude.{option_map}
use Rattle.fork_list.specs.Strings.{strings_from}
use Rattle.fork_list.proofs.strings.strings_from.Given as goal

-- the strings so far, before those that are left, are all
abbrev pub invariant-loop-string : goal.invariant-loop-string
invariant-loop-string l =
    option_map (λ (texts : List (List ℕ)). map (λ text. text.now) l.texts.items ++ texts) (strings_from (l.count - l._string) l.left) ≡ strings_from l.count l.bytes
