use Rattle.std.proofs.Common.{rules, ◌≡◌, ◌++◌, ◌∷◌, [], ℕ, ap, ◌∙◌, FitsSigned}
use Rattle.std.proofs.lemmas.Int.{to_z-of_z}
use Rattle.std.specs.Int.{w16, cast_unsigned}
use Rattle.byteorder.specs.Endian.{big_bytes}
use Rattle.fork_bytes.proofs.Steps.{two_added}
use Rattle.fork_bytes.proofs.write.push_reference.Goals as goal

pub returns : goal.returns
returns g c =
    let row = c.args.row.now in let start = c.args.fork.now.items in
    let a = c.push_two.new.fork.items in let b = c.push_two-2.new.fork.items in let d = c.push.new.self.items in let e = c.push_three.new.fork.items in let whole = c.push_four.new.fork.items in
    let id = big_bytes 2 (cast_unsigned w16 row.id) in let name = big_bytes 2 c.args.name in let flags = row.attributes.0 ∷ [] in let place = big_bytes 3 c.args.datum in let none = big_bytes 4 0 in
    let fits : FitsSigned w16 row.id = search rules in
    let first : a ≡ start ++ id = c.in_ok-push_two.ensures ∙ ap (λ (n : ℕ). start ++ big_bytes 2 n) (c.cast_unsigned.ensures ∙ ap (cast_unsigned w16) (to_z-of_z w16 row.id fits)) in
    let third : d ≡ b ++ flags = c.in_ok-push.ensures.items ∙ ap (λ (n : ℕ). b ++ n ∷ []) (c.bits.ensures tt) in
    two_added start a whole id (name ++ (flags ++ (place ++ none))) first
    (two_added a b whole name (flags ++ (place ++ none)) c.in_ok-push_two-2.ensures
    (two_added b d whole flags (place ++ none) third (two_added d e whole place none c.in_ok-push_three.ensures c.in_ok-push_four.ensures)))
