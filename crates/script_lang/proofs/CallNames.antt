-- No two calls have one name, and the table has each call.
use Rattle.std.proofs.Common.{◌≡◌, ◌≢◌, ℕ, suc, inl, inr, ◌+◌, ◌<◌, Bool, true, false, cond, List, [], ◌∷◌, length, get_or, map, Option, Some, refl, sym, ap, ◌∙◌, arith}
use Rattle.std.specs.Prelude.{find}
use Rattle.std.specs.Str.{bytes_eq}
use Rattle.std.proofs.lemmas.Bool.{cases_eq}
use Rattle.std.proofs.lemmas.List.{get_or-map, length-map}
use Rattle.std.proofs.lemmas.Slice.Eq.{bytes_eq-Decides}
use Rattle.script_lang.specs.declared.table.CallName.{CallName}
use Rattle.script_lang.specs.declared.table.CallName.TheVariants as name
use Rattle.script_lang.specs.declared.table.HandleName.{HandleName}
use Rattle.script_lang.specs.declared.table.HandleName.TheVariants as handle
use Rattle.script_lang.specs.declared.table.ResourceHandleName.{ResourceHandleName}
use Rattle.script_lang.specs.declared.table.ResourceHandleName.TheVariants as resource_handle
use Rattle.script_lang.specs.declared.table.NumberName.{NumberName}
use Rattle.script_lang.specs.declared.table.NumberName.TheVariants as number
use Rattle.script_lang.specs.declared.table.PlainName.{PlainName}
use Rattle.script_lang.specs.declared.table.PlainName.TheVariants as plain
use Rattle.script_lang.specs.declared.table.TwoNumbersName.{TwoNumbersName}
use Rattle.script_lang.specs.declared.table.TwoNumbersName.TheVariants as two_numbers
use Rattle.script_lang.specs.declared.table.ThreeNumbersName.{ThreeNumbersName}
use Rattle.script_lang.specs.declared.table.ThreeNumbersName.TheVariants as three_numbers
use Rattle.script_lang.specs.declared.table.BytesName.{BytesName}
use Rattle.script_lang.specs.declared.table.BytesName.TheVariants as bytes
use Rattle.script_lang.specs.declared.table.ResourceName.{ResourceName}
use Rattle.script_lang.specs.declared.table.ResourceName.TheVariants as resource
use Rattle.script_lang.specs.declared.table.FileName.{FileName}
use Rattle.script_lang.specs.declared.table.FileName.TheVariants as file
use Rattle.script_lang.specs.declared.table.KindName.{KindName}
use Rattle.script_lang.specs.declared.table.KindName.TheVariants as kind
use Rattle.script_lang.specs.declared.table.Row.{Row}
use Rattle.script_lang.specs.Table.{signature, all_calls}

-- a call, for places past the end of a list
abbrev pub some_call : CallName
some_call = name.Plain plain.NewEmptyHandle

-- whether a call has the name
abbrev has_name : List ℕ → CallName → Bool
has_name word call = bytes_eq (signature call).name word

-- the first call that has the name
abbrev call_named : List ℕ → Option CallName
call_named word = find (has_name word) all_calls

handle_again : (call : HandleName) → call_named (signature (name.Number (number.Handle call))).name ≡ Some (name.Number (number.Handle call))
handle_again handle.DisposeHandle = refl
handle_again _ = refl

resource_handle_again : (call : ResourceHandleName) → call_named (signature (name.Number (number.ResourceHandle call))).name ≡ Some (name.Number (number.ResourceHandle call))
resource_handle_again resource_handle.LoadResource = refl
resource_handle_again _ = refl

number_again : (call : NumberName) → call_named (signature (name.Number call)).name ≡ Some (name.Number call)
number_again (number.Handle call) = handle_again call
number_again (number.ResourceHandle call) = resource_handle_again call
number_again number.NewHandle = refl
number_again _ = refl

plain_again : (call : PlainName) → call_named (signature (name.Plain call)).name ≡ Some (name.Plain call)
plain_again plain.NewEmptyHandle = refl
plain_again _ = refl

two_numbers_again : (call : TwoNumbersName) → call_named (signature (name.TwoNumbers call)).name ≡ Some (name.TwoNumbers call)
two_numbers_again two_numbers.SetHandleSize = refl
two_numbers_again _ = refl

three_numbers_again : (call : ThreeNumbersName) → call_named (signature (name.ThreeNumbers call)).name ≡ Some (name.ThreeNumbers call)
three_numbers_again three_numbers.PtrToXHand = refl
three_numbers_again _ = refl

bytes_again : (call : BytesName) → call_named (signature (name.Bytes call)).name ≡ Some (name.Bytes call)
bytes_again bytes.Poke = refl
bytes_again _ = refl

resource_again : (call : ResourceName) → call_named (signature (name.Resource call)).name ≡ Some (name.Resource call)
resource_again resource.GetResource = refl
resource_again _ = refl

file_again : (call : FileName) → call_named (signature (name.File call)).name ≡ Some (name.File call)
file_again file.UpdateResFile = refl
file_again _ = refl

kind_again : (call : KindName) → call_named (signature (name.Kind call)).name ≡ Some (name.Kind call)
kind_again kind.UniqueID = refl
kind_again _ = refl

-- each call is the first that has its name
named_again : (call : CallName) → call_named (signature call).name ≡ Some call
named_again (name.Number call) = number_again call
named_again (name.Plain call) = plain_again call
named_again (name.TwoNumbers call) = two_numbers_again call
named_again (name.ThreeNumbers call) = three_numbers_again call
named_again (name.Bytes call) = bytes_again call
named_again (name.Resource call) = resource_again call
named_again (name.File call) = file_again call
named_again (name.Kind call) = kind_again call
named_again name.BlockMove = refl
named_again name.GetIndResource = refl
named_again name.AddResource = refl

-- no two calls have one name
pub one_call : (a b : CallName) → (signature a).name ≡ (signature b).name → a ≡ b
one_call a b e = let same : Some a ≡ Some b = sym (named_again a) ∙ ap call_named e ∙ named_again b in cc

-- where a call is that was found
record StandsAt (test : CallName → Bool) (calls : List CallName) : Type 0 where
  place : ℕ
  within : place < length calls
  passes : test (get_or calls place some_call) ≡ true

further : (test : CallName → Bool) (first : CallName) (calls : List CallName) → StandsAt test calls → StandsAt test (first ∷ calls)
further test first calls s = let w = s.within in record { place = suc s.place; within = omega arith; passes = s.passes }

stands_by : (test : CallName → Bool) (first : CallName) (calls : List CallName) (call : CallName) (b : Bool) → test first ≡ b → cond b (Some first) (find test calls) ≡ Some call → (find test calls ≡ Some call → StandsAt test calls) → StandsAt test (first ∷ calls)
stands_by test first calls call true passes e more = record { place = 0; within = omega arith; passes = passes }
stands_by test first calls call false fails e more = further test first calls (more e)

stands_at : (test : CallName → Bool) (calls : List CallName) (call : CallName) → find test calls ≡ Some call → StandsAt test calls
stands_at test [] call e = absurd cc
stands_at test (first ∷ calls) call e = stands_by test first calls call (test first) refl e (stands_at test calls call)

-- a row, for places past the end of a list
abbrev pub some_row : Row
some_row = record { name = record { ref_ptr = (0, 0); now = [] }; call = some_call }

-- a row's name is its call's
pub own_name : (rows : List Row) (k : ℕ) → map (λ (r : Row). r.call) rows ≡ all_calls → map (λ (r : Row). r.name.now) rows ≡ map (λ call. (signature call).name) all_calls → k < length rows → (signature (get_or rows k some_row).call).name ≡ (get_or rows k some_row).name.now
own_name rows k calls names lt =
    let here = get_or-map (λ (r : Row). r.name.now) rows k some_row [] lt in
    let called = get_or-map (λ (r : Row). r.call) rows k some_row some_call lt in
    let inside : k < length all_calls = let many = length-map rows (λ (r : Row). r.call) in let all = ap length calls in omega (arith, lt, many, all) in
    let there = get_or-map (λ call. (signature call).name) all_calls k some_call [] inside in
    ap (λ (c : CallName). (signature c).name) (sym called ∙ ap (λ (cs : List CallName). get_or cs k some_call) calls) ∙ sym there ∙ ap (λ (ns : List (List ℕ)). get_or ns k []) (sym names) ∙ here

-- the next row has another name as well
pub unnamed_further : (word : List ℕ) (rows : List Row) (n : ℕ) → bytes_eq (get_or rows n some_row).name.now word ≡ false → ((k : ℕ) → k < n → (get_or rows k some_row).name.now ≢ word) → (k : ℕ) → k < n + 1 → (get_or rows k some_row).name.now ≢ word
unnamed_further word rows n other before k lt same =
    elim (cases_eq k n) [
      | inl at ↦ let equal : bytes_eq (get_or rows n some_row).name.now word ≡ true = (bytes_eq-Decides (get_or rows n some_row).name.now word).1 (ap (λ (i : ℕ). (get_or rows i some_row).name.now) (sym at) ∙ same) in absurd cc
      | inr below ↦ before k (omega (arith, below)) same
    ]

-- a word that no row of the table has is the name of no call
pub unnamed : (word : List ℕ) (rows : List Row) → map (λ (r : Row). r.call) rows ≡ all_calls → map (λ (r : Row). r.name.now) rows ≡ map (λ call. (signature call).name) all_calls → ((k : ℕ) → k < length rows → (get_or rows k some_row).name.now ≢ word) → (call : CallName) → (signature call).name ≢ word
unnamed word rows calls names none call e =
    let named : find (has_name word) all_calls ≡ Some call = ap call_named (sym e) ∙ named_again call in
    let found = stands_at (has_name word) all_calls call named in
    let there : (signature (get_or all_calls found.place some_call)).name ≡ word = (bytes_eq-Decides (signature (get_or all_calls found.place some_call)).name word).0 found.passes in
    let within : found.place < length rows = let w = found.within in let many = length-map rows (λ (r : Row). r.call) in let all = ap length calls in omega (arith, w, many, all) in
    let called = get_or-map (λ (r : Row). r.call) rows found.place some_row some_call within in
    none found.place within (sym (own_name rows found.place calls names within) ∙ ap (λ (c : CallName). (signature c).name) (sym called ∙ ap (λ (cs : List CallName). get_or cs found.place some_call) calls) ∙ there)
