-- Which tokens are the operands of a call of a name.
use Rattle.std.proofs.Common.{ℕ, ◌-◌, ◌<◌, ◌≤◌, List, [], ◌∷◌, length, get_or, map, Option, Some, None, ap, subst, sym, refl, take, drop, arith, lit≤}
use Rattle.std.specs.Prelude.{option_to_list}
use Rattle.std.proofs.lemmas.List.{length-map, take_all}
use Rattle.script_lang.specs.declared.line.NamedCall.{NamedCall}
use Rattle.script_lang.specs.declared.line.NamedCall.TheVariants as named
use Rattle.script_lang.specs.declared.line.NumberOperand.{NumberOperand}
use Rattle.script_lang.specs.declared.line.IdOperand.{IdOperand}
use Rattle.script_lang.specs.declared.table.BytesName.{BytesName}
use Rattle.script_lang.specs.declared.table.NumberName.{NumberName}
use Rattle.script_lang.specs.declared.table.ResourceName.{ResourceName}
use Rattle.script_lang.specs.declared.table.ThreeNumbersName.{ThreeNumbersName}
use Rattle.script_lang.specs.declared.table.TwoNumbersName.{TwoNumbersName}
use Rattle.script_lang.specs.declared.table.CallName.{CallName}
use Rattle.script_lang.specs.declared.table.CallName.TheVariants as name
use Rattle.script_lang.specs.Lines.{name_of}
use Rattle.script_text.specs.declared.token.Token.{Token as Read}
use Rattle.script_text.specs.Front.{view}
use Rattle.script_text.specs.Operands.{Bytes, AreTwoNumbers, AreTypeAndId, IsNumberOperand, IsBytesOperand, operands_of, AreOperands, IsNamedCall}
use Rattle.script_text.proofs.OperandLaws.{AreOperands-length}

-- the fewest operands that a call of this name has
abbrev pub fewest : CallName → ℕ
fewest (name.Plain call) = 0
fewest (name.Number call) = 1
fewest (name.TwoNumbers call) = 2
fewest (name.ThreeNumbers call) = 3
fewest name.BlockMove = 5
fewest (name.Bytes call) = 3
fewest (name.Resource call) = 2
fewest name.GetIndResource = 2
fewest (name.Kind call) = 1
fewest name.AddResource = 3
fewest (name.File call) = 0

-- the most
abbrev pub most : CallName → ℕ
most name.AddResource = 4
most (name.File call) = 1
most name = fewest name

few_operands : (call : NamedCall) → fewest (name_of call) ≤ length (operands_of call)
few_operands (named.AddResource handle kind id None) = lit≤ tt
few_operands (named.AddResource handle kind id (Some name)) = lit≤ tt
few_operands (named.File call None) = lit≤ tt
few_operands (named.File call (Some file)) = lit≤ tt
few_operands _ = lit≤ tt

many_operands : (call : NamedCall) → length (operands_of call) ≤ most (name_of call)
many_operands (named.AddResource handle kind id None) = lit≤ tt
many_operands (named.AddResource handle kind id (Some name)) = lit≤ tt
many_operands (named.File call None) = lit≤ tt
many_operands (named.File call (Some file)) = lit≤ tt
many_operands _ = lit≤ tt

-- no call has more than five operands
pub five_operands : (call : NamedCall) → length (operands_of call) ≤ 5
five_operands (named.AddResource handle kind id None) = lit≤ tt
five_operands (named.AddResource handle kind id (Some name)) = lit≤ tt
five_operands (named.File call None) = lit≤ tt
five_operands (named.File call (Some file)) = lit≤ tt
five_operands _ = lit≤ tt

-- fewer tokens than operands
pub too_few : (names : List (List ℕ)) (name : CallName) (tokens : List Read) (call : NamedCall) → length tokens < fewest name → ¬ IsNamedCall names name (map view tokens) call
too_few names name tokens call few is =
    let count = AreOperands-length names (map view tokens) (operands_of call) is.1 in
    omega (arith, few, count, length-map tokens view, few_operands call, ap fewest is.0)

-- more tokens than operands
pub too_many : (names : List (List ℕ)) (name : CallName) (tokens : List Read) (call : NamedCall) → most name < length tokens → ¬ IsNamedCall names name (map view tokens) call
too_many names name tokens call many is =
    let count = AreOperands-length names (map view tokens) (operands_of call) is.1 in
    omega (arith, many, count, length-map tokens view, many_operands call, ap most is.0)

-- more tokens than bytes that may be left out
pub too_many_bytes : (names : List (List ℕ)) (tokens : List Read) (bytes : Option (List ℕ)) → 1 < length tokens → ¬ AreOperands names (map view tokens) (map Bytes (option_to_list bytes))
too_many_bytes names tokens None many are = omega (arith, many, AreOperands-length names (map view tokens) [] are, length-map tokens view)
too_many_bytes names tokens (Some bytes) many are = omega (arith, many, AreOperands-length names (map view tokens) (Bytes bytes ∷ []) are, length-map tokens view)

-- a call of this name begins with two numbers
abbrev pub BeginsWithTwo : CallName → Type 0
BeginsWithTwo (name.TwoNumbers call) = Unit {0}
BeginsWithTwo (name.ThreeNumbers call) = Unit {0}
BeginsWithTwo name.BlockMove = Unit {0}
BeginsWithTwo (name.Bytes call) = Unit {0}
BeginsWithTwo name = ⊥

-- the first two operands of such a call
pub two_first : (names : List (List ℕ)) (name : CallName) (tokens : List Read) (d : Read) (x : NamedCall) (n : ℕ) → BeginsWithTwo name → 2 ≤ n → n ≤ length tokens → IsNamedCall names name (map view tokens) x
    → (both : NumberOperand × NumberOperand) × AreTwoNumbers names (view (get_or tokens 0 d)) (view (get_or tokens 1 d)) both
two_first names name (a ∷ b ∷ tokens) d (named.TwoNumbers call first second) n two many some is = ((first, second), (is.1.0, is.1.1.0))
two_first names name (a ∷ b ∷ tokens) d (named.ThreeNumbers call first second third) n two many some is = ((first, second), (is.1.0, is.1.1.0))
two_first names name (a ∷ b ∷ tokens) d (named.BlockMove from start to offset count) n two many some is = ((from, start), (is.1.0, is.1.1.0))
two_first names name (a ∷ b ∷ tokens) d (named.Bytes call block offset bytes) n two many some is = ((block, offset), (is.1.0, is.1.1.0))
two_first names name (a ∷ b ∷ tokens) d x n two many some is = absurd (subst BeginsWithTwo (sym is.0) two)
two_first names name tokens d x n two many some is = absurd (omega arith)

-- the third operand of a call of three numbers
pub third_last : (names : List (List ℕ)) (call : ThreeNumbersName) (tokens : List Read) (d : Read) (x : NamedCall) → 3 ≤ length tokens → IsNamedCall names (name.ThreeNumbers call) (map view tokens) x
    → (third : NumberOperand) × IsNumberOperand names (view (get_or tokens 2 d)) third
third_last names call (a ∷ b ∷ c ∷ tokens) d (named.ThreeNumbers other first second third) some is = (third, is.1.1.1.0)
third_last names call (a ∷ b ∷ c ∷ tokens) d x some is = let same = is.0 in absurd cc
third_last names call tokens d x some is = absurd (omega arith)

-- the operand of a call of one number
pub number_first : (names : List (List ℕ)) (call : NumberName) (tokens : List Read) (d : Read) (x : NamedCall) → 1 ≤ length tokens → IsNamedCall names (name.Number call) (map view tokens) x
    → (one : NumberOperand) × IsNumberOperand names (view (get_or tokens 0 d)) one
number_first names call (a ∷ tokens) d (named.Number other one) some is = (one, is.1.0)
number_first names call (a ∷ tokens) d x some is = let same = is.0 in absurd cc
number_first names call tokens d x some is = absurd (omega arith)

-- the index of GetIndResource
pub index_last : (names : List (List ℕ)) (tokens : List Read) (d : Read) (x : NamedCall) → 2 ≤ length tokens → IsNamedCall names name.GetIndResource (map view tokens) x → (index : NumberOperand) × IsNumberOperand names (view (get_or tokens 1 d)) index
index_last names (a ∷ b ∷ tokens) d (named.GetIndResource kind index) some is = (index, is.1.1.0)
index_last names (a ∷ b ∷ tokens) d x some is = let same = is.0 in absurd cc
index_last names tokens d x some is = absurd (omega arith)

-- the name of AddResource, which may be left out
pub name_last : (names : List (List ℕ)) (tokens : List Read) (x : NamedCall) → 3 ≤ length tokens → IsNamedCall names name.AddResource (map view tokens) x
    → (bytes : Option (List ℕ)) × AreOperands names (map view (take (length tokens - 3) (drop 3 tokens))) (map Bytes (option_to_list bytes))
name_last names (a ∷ b ∷ c ∷ tokens) (named.AddResource handle kind id bytes) some is =
    let all = take_all (length (a ∷ b ∷ c ∷ tokens) - 3) tokens (omega arith) in
    (bytes, subst (λ (t : List Read). AreOperands names (map view t) (map Bytes (option_to_list bytes))) (sym all) is.1.1.1.1)
name_last names (a ∷ b ∷ c ∷ tokens) x some is = let same = is.0 in absurd cc
name_last names tokens x some is = absurd (omega arith)

-- two tokens are the operands of a call of two numbers, and three those of one of three
pub is_two : (names : List (List ℕ)) (call : TwoNumbersName) (tokens : List Read) (d : Read) (both : NumberOperand × NumberOperand) → 2 ≤ length tokens → length tokens < 3
    → AreTwoNumbers names (view (get_or tokens 0 d)) (view (get_or tokens 1 d)) both → IsNamedCall names (name.TwoNumbers call) (map view tokens) (named.TwoNumbers call both.0 both.1)
is_two names call (a ∷ b ∷ []) d both some few p = (refl, (p.0, (p.1, tt)))
is_two names call tokens d both some few p = absurd (omega arith)

pub is_three : (names : List (List ℕ)) (call : ThreeNumbersName) (tokens : List Read) (d : Read) (both : NumberOperand × NumberOperand) (third : NumberOperand) → 3 ≤ length tokens → length tokens < 4
    → AreTwoNumbers names (view (get_or tokens 0 d)) (view (get_or tokens 1 d)) both → IsNumberOperand names (view (get_or tokens 2 d)) third
    → IsNamedCall names (name.ThreeNumbers call) (map view tokens) (named.ThreeNumbers call both.0 both.1 third)
is_three names call (a ∷ b ∷ c ∷ []) d both third some few p q = (refl, (p.0, (p.1, (q, tt))))
is_three names call tokens d both third some few p q = absurd (omega arith)

-- five tokens are the operands of BlockMove
pub is_move : (names : List (List ℕ)) (tokens : List Read) (d : Read) (first next : NumberOperand × NumberOperand) (count : NumberOperand) → 5 ≤ length tokens → length tokens < 6
    → AreTwoNumbers names (view (get_or tokens 0 d)) (view (get_or tokens 1 d)) first → AreTwoNumbers names (view (get_or tokens 2 d)) (view (get_or tokens 3 d)) next
    → IsNumberOperand names (view (get_or tokens 4 d)) count → IsNamedCall names name.BlockMove (map view tokens) (named.BlockMove first.0 first.1 next.0 next.1 count)
is_move names (a ∷ b ∷ c ∷ e ∷ f ∷ []) d first next count some few p q r = (refl, (p.0, (p.1, (q.0, (q.1, (r, tt))))))
is_move names tokens d first next count some few p q r = absurd (omega arith)

-- the third and the fourth operand of BlockMove
pub two_next : (names : List (List ℕ)) (tokens : List Read) (d : Read) (x : NamedCall) → 5 ≤ length tokens → IsNamedCall names name.BlockMove (map view tokens) x
    → (both : NumberOperand × NumberOperand) × AreTwoNumbers names (view (get_or tokens 2 d)) (view (get_or tokens 3 d)) both
two_next names (a ∷ b ∷ c ∷ e ∷ f ∷ tokens) d (named.BlockMove from start to offset count) some is = ((to, offset), (is.1.1.1.0, is.1.1.1.1.0))
two_next names (a ∷ b ∷ c ∷ e ∷ f ∷ tokens) d x some is = let same = is.0 in absurd cc
two_next names tokens d x some is = absurd (omega arith)

-- the type and the id of a call that begins with them
pub type_first : (names : List (List ℕ)) (call : ResourceName) (tokens : List Read) (d : Read) (x : NamedCall) → 2 ≤ length tokens → IsNamedCall names (name.Resource call) (map view tokens) x
    → (both : List ℕ × IdOperand) × AreTypeAndId names (view (get_or tokens 0 d)) (view (get_or tokens 1 d)) both
type_first names call (a ∷ b ∷ tokens) d (named.Resource other kind id) some is = ((kind, id), (is.1.0, is.1.1.0))
type_first names call (a ∷ b ∷ tokens) d x some is = let same = is.0 in absurd cc
type_first names call tokens d x some is = absurd (omega arith)

-- the type and the id of AddResource
pub type_second : (names : List (List ℕ)) (tokens : List Read) (d : Read) (x : NamedCall) → 3 ≤ length tokens → IsNamedCall names name.AddResource (map view tokens) x
    → (both : List ℕ × IdOperand) × AreTypeAndId names (view (get_or tokens 1 d)) (view (get_or tokens 2 d)) both
type_second names (a ∷ b ∷ c ∷ tokens) d (named.AddResource handle kind id name) some is = ((kind, id), (is.1.1.0, is.1.1.1.0))
type_second names (a ∷ b ∷ c ∷ tokens) d x some is = let same = is.0 in absurd cc
type_second names tokens d x some is = absurd (omega arith)

-- the last operand of a call that puts bytes into a block
pub bytes_last : (names : List (List ℕ)) (call : BytesName) (tokens : List Read) (d : Read) (x : NamedCall) → 3 ≤ length tokens → IsNamedCall names (name.Bytes call) (map view tokens) x → (bytes : List ℕ) × IsBytesOperand (view (get_or tokens 2 d)) bytes
bytes_last names call (a ∷ b ∷ c ∷ tokens) d (named.Bytes other block offset bytes) some is = (bytes, is.1.1.1.0)
bytes_last names call (a ∷ b ∷ c ∷ tokens) d x some is = let same = is.0 in absurd cc
bytes_last names call tokens d x some is = absurd (omega arith)

-- the last operand of BlockMove
pub count_last : (names : List (List ℕ)) (tokens : List Read) (d : Read) (x : NamedCall) → 5 ≤ length tokens → IsNamedCall names name.BlockMove (map view tokens) x → (count : NumberOperand) × IsNumberOperand names (view (get_or tokens 4 d)) count
count_last names (a ∷ b ∷ c ∷ e ∷ f ∷ tokens) d (named.BlockMove from start to offset count) some is = (count, is.1.1.1.1.1.0)
count_last names (a ∷ b ∷ c ∷ e ∷ f ∷ tokens) d x some is = let same = is.0 in absurd cc
count_last names tokens d x some is = absurd (omega arith)
