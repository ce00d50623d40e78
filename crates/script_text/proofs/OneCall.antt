-- Tokens are the operands of one call of a name at most.
use Rattle.std.proofs.Common.{◌≡◌, ℕ, List, Some, None}
use Rattle.script_lang.specs.declared.line.NamedCall.{NamedCall}
use Rattle.script_lang.specs.declared.line.NamedCall.TheVariants as named
use Rattle.script_lang.specs.Lines.{name_of}
use Rattle.script_text.specs.Tokens.{Token}
use Rattle.script_text.specs.Operands.{operands_of, AreOperands}
use Rattle.script_text.proofs.OneOperand.{AreAllAlike, one_operands}

-- calls of one name have operands of the same sorts, in the same places
alike : (x y : NamedCall) → name_of x ≡ name_of y → AreAllAlike (operands_of x) (operands_of y)
alike (named.Plain call) (named.Plain call2) e = tt
alike (named.Number call one) (named.Number call2 one2) e = (tt, tt)
alike (named.TwoNumbers call first second) (named.TwoNumbers call2 first2 second2) e = (tt, (tt, tt))
alike (named.ThreeNumbers call first second third) (named.ThreeNumbers call2 first2 second2 third2) e = (tt, (tt, (tt, tt)))
alike (named.BlockMove from start to offset count) (named.BlockMove from2 start2 to2 offset2 count2) e = (tt, (tt, (tt, (tt, (tt, tt)))))
alike (named.Bytes call block offset bytes) (named.Bytes call2 block2 offset2 bytes2) e = (tt, (tt, (tt, tt)))
alike (named.Resource call kind id) (named.Resource call2 kind2 id2) e = (tt, (tt, tt))
alike (named.GetIndResource kind index) (named.GetIndResource kind2 index2) e = (tt, (tt, tt))
alike (named.Kind call kind) (named.Kind call2 kind2) e = (tt, tt)
alike (named.AddResource handle kind id None) (named.AddResource handle2 kind2 id2 None) e = (tt, (tt, (tt, tt)))
alike (named.AddResource handle kind id None) (named.AddResource handle2 kind2 id2 (Some name2)) e = (tt, (tt, (tt, tt)))
alike (named.AddResource handle kind id (Some name)) (named.AddResource handle2 kind2 id2 None) e = (tt, (tt, (tt, tt)))
alike (named.AddResource handle kind id (Some name)) (named.AddResource handle2 kind2 id2 (Some name2)) e = (tt, (tt, (tt, (tt, tt))))
alike (named.File call None) (named.File call2 None) e = tt
alike (named.File call None) (named.File call2 (Some file2)) e = tt
alike (named.File call (Some file)) (named.File call2 None) e = tt
alike (named.File call (Some file)) (named.File call2 (Some file2)) e = (tt, tt)
alike x y e = absurd cc

-- a call is its name and its operands
same_call : (x y : NamedCall) → name_of x ≡ name_of y → operands_of x ≡ operands_of y → x ≡ y
same_call (named.Plain call) (named.Plain call2) e o = cc
same_call (named.Number call one) (named.Number call2 one2) e o = cc
same_call (named.TwoNumbers call first second) (named.TwoNumbers call2 first2 second2) e o = cc
same_call (named.ThreeNumbers call first second third) (named.ThreeNumbers call2 first2 second2 third2) e o = cc
same_call (named.BlockMove from start to offset count) (named.BlockMove from2 start2 to2 offset2 count2) e o = cc
same_call (named.Bytes call block offset bytes) (named.Bytes call2 block2 offset2 bytes2) e o = cc
same_call (named.Resource call kind id) (named.Resource call2 kind2 id2) e o = cc
same_call (named.GetIndResource kind index) (named.GetIndResource kind2 index2) e o = cc
same_call (named.Kind call kind) (named.Kind call2 kind2) e o = cc
same_call (named.AddResource handle kind id None) (named.AddResource handle2 kind2 id2 None) e o = cc
same_call (named.AddResource handle kind id None) (named.AddResource handle2 kind2 id2 (Some name2)) e o = absurd cc
same_call (named.AddResource handle kind id (Some name)) (named.AddResource handle2 kind2 id2 None) e o = absurd cc
same_call (named.AddResource handle kind id (Some name)) (named.AddResource handle2 kind2 id2 (Some name2)) e o = cc
same_call (named.File call None) (named.File call2 None) e o = cc
same_call (named.File call None) (named.File call2 (Some file2)) e o = absurd cc
same_call (named.File call (Some file)) (named.File call2 None) e o = absurd cc
same_call (named.File call (Some file)) (named.File call2 (Some file2)) e o = cc
same_call x y e o = absurd cc

-- tokens are the operands of one call of a name at most
pub one_named : (names : List (List ℕ)) (tokens : List Token) (x y : NamedCall) → name_of x ≡ name_of y → AreOperands names tokens (operands_of x) → AreOperands names tokens (operands_of y) → x ≡ y
one_named names tokens x y e p q = same_call x y e (one_operands names tokens (operands_of x) (operands_of y) (alike x y e) p q)
