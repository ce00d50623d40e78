-- Names in paths.
use Rattle.std.proofs.Common.{◌≡◌, ℕ, Bool, true, false, List, [], ◌∷◌, ◌++◌, refl}
use Rattle.std.specs.Prelude.{◌==◌, ◌↔◌, IsTrue, bytes_eq, if◌then◌else◌}
use Rattle.std.specs.Bool.{one_answer}
use Rattle.std.proofs.lemmas.Slice.Eq.{bytes_eq-Decides}
use Rattle.std.specs.List.{list_any}
use Rattle.fork_edit.specs.PathNames.{AreBytesOf, IsByteOf, last_part}

-- the last part, where nothing of it is known but what is after the slashes so far
abbrev pub last_from : List ℕ → List ℕ → List ℕ
last_from rest last = if list_any (λ other. other == 47) rest then last_part rest else last

pub last_whole : (path : List ℕ) → last_from path path ≡ last_part path
last_whole [] = refl
last_whole (byte ∷ rest) = by_both (byte == 47) (list_any (λ other. other == 47) rest) refl refl
  where
    by_both : (is any : Bool) → (byte == 47) ≡ is → list_any (λ other. other == 47) rest ≡ any
        → last_from (byte ∷ rest) (byte ∷ rest) ≡ last_part (byte ∷ rest)
    by_both true true p q = rw (p, q) refl
    by_both true false p q = rw (p, q) refl
    by_both false true p q = rw (p, q) refl
    by_both false false p q = rw (p, q) refl

pub bytes_more : (characters bytes : List ℕ) (character byte : ℕ) → AreBytesOf characters bytes → IsByteOf character byte
    → AreBytesOf (characters ++ character ∷ []) (bytes ++ byte ∷ [])
bytes_more [] [] character byte are is = (is, tt)
bytes_more [] (b ∷ bs) character byte are is = absurd are
bytes_more (c ∷ cs) [] character byte are is = absurd are
bytes_more (c ∷ cs) (b ∷ bs) character byte are is = (are.0, bytes_more cs bs character byte are.1 is)

-- a test of whether bytes are the same
pub same_as : (b : Bool) (xs ys : List ℕ) → (IsTrue b ↔ (xs ≡ ys)) → b ≡ bytes_eq xs ys
same_as b xs ys h = one_answer b (bytes_eq xs ys) h (bytes_eq-Decides xs ys)
