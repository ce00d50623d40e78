-- Names that are read byte by byte, and paths that are read name by name.
use Rattle.std.proofs.Common.{◌≡◌, ◌≢◌, ◌==◌, Bool, true, false, ℕ, zero, suc, ◌+◌, ◌-◌, ◌<◌, ◌≤◌, List, [], ◌∷◌, ◌++◌, length, take, drop, map, Option, None, Some, option_map, Result, Ok, Err, refl, sym, ap, ◌∙◌, append_assoc, append-nil, arith}
use Rattle.std.proofs.lemmas.Bool.{eqb-true, eqb-false}
use Rattle.std.proofs.lemmas.List.{map-append, nil_from_length}
use Rattle.std.specs.Global.{Vec}
use Rattle.fork_list.specs.Roman.{roman_text}
use Rattle.image_paths.specs.declared.path.PathFault.{PathFault}
use Rattle.image_paths.specs.declared.path.PathFault.TheVariants.{Empty, NotRoman, Escape, TooLong, HostFull}
use Rattle.image_paths.specs.Names.{first_byte, name_from, with_byte}
use Rattle.image_paths.specs.Paths.{IsStopped, Refuses, StopsFor, end_of, names_in, items_of, name_in, names_before, names_from, with_name}

-- a text is empty where the test for it says so, and has some bytes where it doesn't
pub empty_if : (xs : List ℕ) (test : Bool) → test ≡ (length xs == 0) → test ≡ true → xs ≡ []
empty_if xs test is passes = nil_from_length xs (eqb-true _ _ (sym is ∙ passes))

pub some_if : (xs : List ℕ) (test : Bool) → test ≡ (length xs == 0) → test ≡ false → xs ≢ []
some_if xs test is fails empty = eqb-false _ _ (sym is ∙ fails) (ap (λ (t : List ℕ). length t) empty)

-- a name so far, and what comes after it
abbrev pub name_before : List ℕ → Option (List ℕ) → Option (List ℕ)
name_before name None = None
name_before name (Some others) = Some (name ++ others)

-- the text ends
name_ends : (more : ℕ) → name_from more [] ≡ Some []
unfolding name_from
name_ends zero = refl
name_ends (suc more) = refl

pub name_done : (whole : Option (List ℕ)) (name : List ℕ) (more : ℕ) (rest : List ℕ) → rest ≡ [] → whole ≡ name_before name (name_from more rest) → whole ≡ Some name
name_done whole name more rest empty is = is ∙ ap (λ (r : List ℕ). name_before name (name_from more r)) empty ∙ ap (name_before name) (name_ends more) ∙ ap (λ (n : List ℕ). Some n) (append-nil name)

pub name_last : (whole : Option (List ℕ)) (name : List ℕ) (more : ℕ) (rest : List ℕ) → more ≡ 0 → whole ≡ name_before name (name_from more rest) → whole ≡ Some name
unfolding name_from
name_last whole name more rest none is = is ∙ ap (λ (m : ℕ). name_before name (name_from m rest)) none ∙ ap (λ (n : List ℕ). Some n) (append-nil name)

-- one byte more
name_step : (more : ℕ) (rest : List ℕ) → rest ≢ [] → name_from (suc more) rest ≡ with_byte (first_byte rest) (name_from more)
unfolding name_from
name_step more [] some = absurd (some refl)
name_step more (c ∷ rest) some = refl

byte_on : (name : List ℕ) (byte : ℕ) (others : Option (List ℕ)) → name_before name (option_map (λ n. byte ∷ n) others) ≡ name_before (name ++ byte ∷ []) others
byte_on name byte None = refl
byte_on name byte (Some others) = ap (λ (n : List ℕ). Some n) (sym (append_assoc name (byte ∷ []) others))

pub name_more : (whole : Option (List ℕ)) (name : List ℕ) (more next : ℕ) (rest : List ℕ) (byte : ℕ) (after : List ℕ) → more ≡ suc next → rest ≢ [] → Some (byte, after) ≡ first_byte rest
    → whole ≡ name_before name (name_from more rest) → whole ≡ name_before (name ++ byte ∷ []) (name_from next after)
name_more whole name more next rest byte after count some first is =
    is ∙ ap (λ (m : ℕ). name_before name (name_from m rest)) count ∙ ap (name_before name) (name_step next rest some)
    ∙ ap (λ (f : Option (ℕ × List ℕ)). name_before name (with_byte f (name_from next))) (sym first) ∙ byte_on name byte (name_from next after)

pub name_stops : (whole : Option (List ℕ)) (name : List ℕ) (more next : ℕ) (rest : List ℕ) → more ≡ suc next → rest ≢ [] → None ≡ first_byte rest
    → whole ≡ name_before name (name_from more rest) → whole ≡ None
name_stops whole name more next rest count some none is =
    is ∙ ap (λ (m : ℕ). name_before name (name_from m rest)) count ∙ ap (name_before name) (name_step next rest some)
    ∙ ap (λ (f : Option (ℕ × List ℕ)). name_before name (with_byte f (name_from next))) (sym none)

-- The names of a path.
abbrev pub Names : Type 0
Names = Result (List (List ℕ)) PathFault

names_end : (more number : ℕ) → names_from more number [] ≡ Ok []
unfolding names_from
names_end zero number = refl
names_end (suc more) number = refl

pub names_done : (whole : Names) (names : List (List ℕ)) (more number : ℕ) (rest : List ℕ) → rest ≡ [] → whole ≡ names_before names (names_from more number rest) → whole ≡ Ok names
names_done whole names more number rest empty is =
    is ∙ ap (λ (r : List ℕ). names_before names (names_from more number r)) empty ∙ ap (names_before names) (names_end more number) ∙ ap (λ (n : List (List ℕ)). Ok n) (append-nil names)

pub names_last : (whole : Names) (names : List (List ℕ)) (more number : ℕ) (rest : List ℕ) → more ≡ 0 → whole ≡ names_before names (names_from more number rest) → whole ≡ Ok names
unfolding names_from
names_last whole names more number rest none is =
    is ∙ ap (λ (m : ℕ). names_before names (names_from m number rest)) none ∙ ap (λ (n : List (List ℕ)). Ok n) (append-nil names)

names_step : (more number : ℕ) (rest : List ℕ) → rest ≢ []
    → names_from (suc more) number rest ≡ with_name (name_in number (take (end_of rest) rest)) (names_from more (number + 1) (drop (end_of rest + 1) rest))
unfolding names_from
names_step more number [] some = absurd (some refl)
names_step more number (c ∷ rest) some = refl

name_on : (names : List (List ℕ)) (name : List ℕ) (others : Names) → names_before names (names_before (name ∷ []) others) ≡ names_before (names ++ name ∷ []) others
name_on names name (Ok others) = ap (λ (n : List (List ℕ)). Ok n) (sym (append_assoc names (name ∷ []) others))
name_on names name (Err fault) = refl

pub names_more : (whole : Names) (names : List (Vec ℕ)) (name : Vec ℕ) (more next number : ℕ) (rest : List ℕ) → more ≡ suc next → rest ≢ []
    → name_in number (take (end_of rest) rest) ≡ Ok name.items → whole ≡ names_before (map items_of names) (names_from more number rest)
    → whole ≡ names_before (map items_of (names ++ name ∷ [])) (names_from next (number + 1) (drop (end_of rest + 1) rest))
names_more whole names name more next number rest count some first is =
    let others = names_from next (number + 1) (drop (end_of rest + 1) rest) in
    is ∙ ap (λ (m : ℕ). names_before (map items_of names) (names_from m number rest)) count ∙ ap (names_before (map items_of names)) (names_step next number rest some)
    ∙ ap (λ (r : Result (List ℕ) PathFault). names_before (map items_of names) (with_name r others)) first ∙ name_on (map items_of names) name.items others
    ∙ ap (λ (n : List (List ℕ)). names_before n others) (sym (map-append items_of names (name ∷ [])))

names_stop : (whole : Names) (names : List (Vec ℕ)) (more next number : ℕ) (rest : List ℕ) (fault : PathFault) → more ≡ suc next → rest ≢ []
    → whole ≡ names_before (map items_of names) (names_from more number rest) → name_in number (take (end_of rest) rest) ≡ Err fault → whole ≡ Err fault
names_stop whole names more next number rest fault count some is first =
    let others = names_from next (number + 1) (drop (end_of rest + 1) rest) in
    is ∙ ap (λ (m : ℕ). names_before (map items_of names) (names_from m number rest)) count ∙ ap (names_before (map items_of names)) (names_step next number rest some)
    ∙ ap (λ (r : Result (List ℕ) PathFault). names_before (map items_of names) (with_name r others)) first

stops_as : {A B : Type 0} (first : Result A PathFault) (whole : Result B PathFault) (fault : PathFault) → (first ≡ Err fault → whole ≡ Err fault) → StopsFor first fault → StopsFor whole fault
stops_as first whole HostFull f h = tt
stops_as first whole (NotRoman number) f h = h
stops_as first whole (Empty number) f h = f h
stops_as first whole (Escape number) f h = f h
stops_as first whole (TooLong number) f h = f h

pub names_refuse : (whole : Names) (names : List (Vec ℕ)) (more next number : ℕ) (rest : List ℕ) (fault : PathFault) → more ≡ suc next → rest ≢ []
    → whole ≡ names_before (map items_of names) (names_from more number rest) → StopsFor (name_in number (take (end_of rest) rest)) fault → StopsFor whole fault
names_refuse whole names more next number rest fault count some is stops =
    stops_as (name_in number (take (end_of rest) rest)) whole fault (names_stop whole names more next number rest fault count some is) stops

-- a text is refused as its bytes are
pub refuses : (text bytes : List ℕ) (fault : PathFault) → roman_text bytes ≡ text → StopsFor (names_in bytes) fault → Refuses text fault
refuses text bytes HostFull is h = tt
refuses text bytes (NotRoman number) is h = absurd h
refuses text bytes (Empty number) is h = record { bytes = bytes; roman = is; stops = h }
refuses text bytes (Escape number) is h = record { bytes = bytes; roman = is; stops = h }
refuses text bytes (TooLong number) is h = record { bytes = bytes; roman = is; stops = h }
