-- A text in MacRoman is that of no other bytes.
use Rattle.std.proofs.Common.{◌≡◌, ℕ, suc, ◌+◌, ◌<◌, ◌==◌, eqb, if◌then◌else◌, true, List, [], ◌∷◌, ◌++◌, length, Option, None, Some, refl, sym, ap, subst, ◌∙◌, length-append, arith}
use Rattle.std.specs.Prelude.{nat_lt, encode_utf8, option_map, string_bytes, IfSome, IsSome, ◌↔◌}
use Rattle.std.specs.List.{AllByRecursion, AllPass, position_or_len}
use Rattle.std.proofs.lemmas.Bool.{agree_below_at, eqb-true}
use Rattle.hex.specs.Hex.{is_hex_digit}
use Rattle.hex.proofs.HexLemmas.{decode_of-same}
use Rattle.std.proofs.lemmas.Str.{encode_same, length-encode, len_utf8_bounds}
use Rattle.fork_list.specs.declared.roman.TheConstants.{UPPER}
use Rattle.fork_list.specs.Roman.{AreBytes, roman_char, roman_text}
use Rattle.fork_folder.specs.Manifest.{AllSame, AllSay, IsOfBytes, IsSame, Says, SaysFork}
use Rattle.fork_folder.specs.Packed.{Listed}
use Rattle.fork_folder.specs.declared.manifest.Manifest.{Manifest}
use Rattle.fork_folder.specs.declared.manifest.Resource.{Resource}

-- the byte of a character
abbrev byte_for : ℕ → ℕ
byte_for character = if nat_lt character 128 then character else 128 + position_or_len (λ other. other == character) UPPER

own : (byte : ℕ) → byte < 256 → byte_for (roman_char byte) ≡ byte
own byte h = eqb-true _ _ (agree_below_at (λ b. eqb (byte_for (roman_char b)) b) (λ _. true) 256 byte refl h)

-- a text of at least one byte isn't empty
some : (byte : ℕ) (bytes : List ℕ) → ¬ (roman_text (byte ∷ bytes) ≡ [])
some byte bytes is =
    let long = len_utf8_bounds (roman_char byte) in
    let count : length (encode_utf8 (roman_char byte) ++ roman_text bytes) ≡ 0 = ap (λ (t : List ℕ). length t) is in
    absurd (omega (arith, length-append (encode_utf8 (roman_char byte)) (roman_text bytes), length-encode (roman_char byte)))

pub same_bytes : (xs ys : List ℕ) → AreBytes xs → AreBytes ys → roman_text xs ≡ roman_text ys → xs ≡ ys
same_bytes [] [] hx hy e = refl
same_bytes [] (y ∷ ys) hx hy e = absurd (some y ys (sym e))
same_bytes (x ∷ xs) [] hx hy e = absurd (some x xs e)
same_bytes (x ∷ xs) (y ∷ ys) hx hy e =
    let both = encode_same (roman_char x) (roman_char y) (roman_text xs) (roman_text ys) e in
    let first : x ≡ y = sym (own x (hx 0 0 (omega arith))) ∙ ap byte_for both.0 ∙ own y (hy 0 0 (omega arith)) in
    let rest : xs ≡ ys = same_bytes xs ys (λ k d within. hx (suc k) d (omega arith)) (λ k d within. hy (suc k) d (omega arith)) both.1 in
    cc

same_names : (a b : Option (List ℕ)) → IfSome a AreBytes → IfSome b AreBytes → option_map roman_text a ≡ option_map roman_text b → a ≡ b
same_names None None ha hb e = refl
same_names None (Some b) ha hb e = absurd cc
same_names (Some a) None ha hb e = absurd cc
same_names (Some a) (Some b) ha hb e = let texts : roman_text a ≡ roman_text b = cc in let same = same_bytes a b ha hb texts in cc

-- so the manifest says of a resource what it says of no other
pub read_again : (resource : Resource) (one other : Listed) → IsOfBytes one → IsOfBytes other → Says resource one → Says resource other → IsSame one other
read_again resource one other of of' says says' = record {
  kind = same_bytes one.kind other.kind of.kind of'.kind (says.kind ∙ sym says'.kind);
  id = says.id ∙ sym says'.id;
  name = same_names one.name other.name of.name of'.name (says.name ∙ sym says'.name);
  attributes = says.attributes ∙ sym says'.attributes;
  file = says.file ∙ sym says'.file;
}

all_same : (resources : List Resource) (ones others : List Listed) → AllByRecursion IsOfBytes ones → AllByRecursion IsOfBytes others
    → AllSay resources ones → AllSay resources others → AllSame ones others
all_same [] [] [] of of' says says' = tt
all_same [] [] (other ∷ others) of of' says says' = absurd says'
all_same [] (one ∷ ones) others of of' says says' = absurd says
all_same (resource ∷ resources) [] others of of' says says' = absurd says
all_same (resource ∷ resources) (one ∷ ones) [] of of' says says' = absurd says'
all_same (resource ∷ resources) (one ∷ ones) (other ∷ others) of of' says says' =
    (read_again resource one other of.0 of'.0 says.0 says'.0, all_same resources ones others of.1 of'.1 says.1 says'.1)

-- so it says of a fork what it says of no other
pub fork_again : (manifest : Manifest) (extra extra' : List ℕ) (map map' : ℕ) (ones others : List Listed)
    → AllByRecursion IsOfBytes ones → AllByRecursion IsOfBytes others → SaysFork manifest extra map ones → SaysFork manifest extra' map' others
    → (extra ≡ extra') × (map ≡ map') × AllSame ones others
fork_again manifest extra extra' map map' ones others of of' says says' =
    (decode_of-same (string_bytes manifest.extra) extra extra' says.extra says'.extra, says.map_attributes ∙ sym says'.map_attributes, all_same manifest.resources.items ones others of of' says.resources says'.resources)

-- one resource more, of which it says so
pub say_more : (resources : List Resource) (ones : List Listed) (resource : Resource) (one : Listed) → AllSay resources ones → Says resource one → AllSay (resources ++ resource ∷ []) (ones ++ one ∷ [])
say_more [] [] resource one says is = (is, tt)
say_more [] (other ∷ others) resource one says is = absurd says
say_more (first ∷ resources) [] resource one says is = absurd says
say_more (first ∷ resources) (other ∷ others) resource one says is = (says.0, say_more resources others resource one says.1 is)

-- where nothing is found, a text isn't 480 digits
pub no_digits : (found : Option (List ℕ)) (text said : List ℕ) → (IsSome found ↔ ((length text ≡ 480) × AllPass is_hex_digit text)) → said ≡ text → found ≡ None
    → ¬ ((length said ≡ 480) × AllPass is_hex_digit said)
no_digits (Some bytes) text said both same none good = absurd cc
no_digits None text said both same none good = let some = both.1 (subst (λ (t : List ℕ). (length t ≡ 480) × AllPass is_hex_digit t) same good) in absurd cc
