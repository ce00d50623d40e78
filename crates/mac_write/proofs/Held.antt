-- Where nothing is lost, a container holds the file.
use Rattle.std.proofs.Common.{◌≡◌, ℕ, zero, suc, Bool, true, false, List, [], ◌∷◌, length, replicate, refl, sym, arith}
use Rattle.std.specs.Prelude.{◌==◌, ◌||◌, not}
use Rattle.std.proofs.lemmas.Bool.{eqb-true}
use Rattle.mac_write.specs.declared.detail.Detail.TheVariants.{Comment, DataFork, Dates, Finder, Name}
use Rattle.mac_write.specs.declared.target.Target.TheVariants.{Raw, AppleDouble, AppleSingle, MacBinary, BinHex}
use Rattle.mac_write.specs.Lost.{NothingIsLost, says_something}

not_not : (b : Bool) → not b ≡ false → b ≡ true
not_not true is = refl
not_not false is = absurd (cc is)

pub neither : (a b : Bool) → (a || b) ≡ false → (a ≡ false) × (b ≡ false)
neither true b none = absurd (cc none)
neither false b none = (refl, none)

nothing : (xs : List ℕ) → not (length xs == 0) ≡ false → xs ≡ []
nothing [] none = refl
nothing (x ∷ xs) none = let zero_is = eqb-true (length (x ∷ xs)) 0 (not_not _ none) in absurd (omega arith)

pub number_is : (x : ℕ) → not (x == 0) ≡ false → x ≡ 0
number_is x none = eqb-true x 0 (not_not _ none)

zeros_are : (n : ℕ) (xs : List ℕ) → length xs ≡ n → says_something xs ≡ false → xs ≡ replicate n 0
zeros_are zero [] long none = refl
zeros_are zero (x ∷ xs) long none = absurd (omega arith)
zeros_are (suc n) [] long none = absurd (omega arith)
zeros_are (suc n) (x ∷ xs) long none =
    let both = neither (not (x == 0)) (says_something xs) none in
    let first = number_is x both.0 in let rest = zeros_are n xs (omega arith) both.1 in rw (first, rest) refl

pub nothing_lost : NothingIsLost
nothing_lost Raw file is none =
    let first = neither _ _ (none Finder) in let second = neither _ _ first.0 in
    let dates = neither _ _ (none Dates) in
    let name = nothing file.name (none Name) in
    let kind = zeros_are 4 file.finder.kind is.kind_length second.0 in
    let creator = zeros_are 4 file.finder.creator is.creator_length second.1 in
    let flags = number_is file.finder.flags first.1 in
    let created = number_is file.created dates.0 in
    let modified = number_is file.modified dates.1 in
    let comment = nothing file.comment (none Comment) in
    let forks = nothing file.data_fork (none DataFork) in
    sym (rw (name, kind, creator, flags, created, modified, comment, forks) refl)
nothing_lost AppleDouble file is none = sym (rw (nothing file.data_fork (none DataFork)) refl)
nothing_lost AppleSingle file is none = refl
nothing_lost MacBinary file is none = refl
nothing_lost BinHex file is none =
    let dates = neither _ _ (none Dates) in
    let created = number_is file.created dates.0 in
    let modified = number_is file.modified dates.1 in
    let comment = nothing file.comment (none Comment) in
    sym (rw (created, modified, comment) refl)
