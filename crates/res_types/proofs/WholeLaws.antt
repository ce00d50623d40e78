-- A value that was read is written again as the same bits.
use Rattle.std.proofs.Common.{◌≡◌, ℕ, ◌+◌, ◌-◌, ◌/◌, ◌≤◌, ◌==◌, Bool, List, [], ◌∷◌, ◌++◌, length, Some, Ok, refl, sym, ap, ◌∙◌, append-nil, arith}
use Rattle.std.proofs.lemmas.Bool.Decides.{nat_tests}
use Rattle.std.proofs.lemmas.List.{nil_from_length}
use Rattle.res_types.specs.declared.declaration.Declaration.{Declaration}
use Rattle.res_types.specs.declared.declaration.Tail.{Tail}
use Rattle.res_types.specs.declared.declaration.Tail.TheVariants.{Nothing, Text, Elements}
use Rattle.res_types.specs.declared.field.Field.{Field}
use Rattle.res_types.specs.declared.value.Part.{Part}
use Rattle.res_types.specs.declared.value.Part.TheVariants as parts
use Rattle.res_types.specs.declared.reading.End.TheVariants.{Whole}
use Rattle.res_types.specs.Bits.{bytes_at, byte_bits}
use Rattle.res_types.specs.Reading.{after_end, read, read_list, read_whole_list, read_whole_text}
use Rattle.res_types.specs.Writing.{write, write_list, write_whole_text}
use Rattle.res_types.specs.Meaning.{read_tail, write_tail, decode, encode}
use Rattle.res_types.proofs.Pairs.{ok_pair, same_some}
use Rattle.res_types.proofs.TextLaws.{bytes_taken}
use Rattle.res_types.proofs.Sound.{Spells, bind_ok, or_ok, cond_ok, spelled_long, list_taken, fields_keep}

whole_text_keeps : (bits : List Bool) (p : List Part) (rest : List Bool) → read_whole_text bits ≡ Ok (p, rest) → Spells write_whole_text p bits rest
unfolding read_whole_text write_whole_text
whole_text_keeps bits p rest is =
    let x = bind_ok _ _ _ is in
    let here = or_ok bits (bytes_at (length bits / 8) bits) x.0 x.1 in
    let t = bytes_taken (length bits / 8) bits x.0.0 x.0.1 here in
    let both_are = ok_pair (parts.Text x.0.0 ∷ [], x.0.1) (p, rest) x.2 in
    let text = both_are.0 in
    let left = both_are.1 in
    record {
      bs = byte_bits x.0.0;
      all = t.1.all ∙ ap (λ (r : List Bool). byte_bits x.0.0 ++ r) left;
      written = λ qs. ap (λ (ps : List Part). write_whole_text (ps ++ qs)) (sym text) ∙ rw (t.1.small) refl;
    }

ended : (mid rest : List Bool) → after_end Whole mid ≡ Some rest → mid ≡ rest
ended [] rest is = same_some [] rest is
ended (bit ∷ mid) rest is = cc

list_keeps : (whole : ℕ) (body : Field) (bits : List Bool) (p : List Part) (rest : List Bool) → length bits ≤ whole → read_whole_list (read whole body) Whole bits ≡ Ok (p, rest) → Spells (write_list (write body) (whole - length bits)) p bits rest
unfolding read_whole_list write_list
list_keeps whole body bits p rest le is =
    let x = bind_ok (read_list (read whole body) Whole (length bits + 1) bits) _ _ is in
    let t = list_taken whole Whole (read whole body) (write body) (fields_keep whole body) (length bits + 1) bits x.0.0 x.0.1 x.0.2 le x.1 in
    let both_are = ok_pair (parts.Elements x.0.0 ∷ x.0.1, x.0.2) (p, rest) x.2 in
    let ps_is = both_are.0 in
    let left : t.mid ≡ rest = ended t.mid x.0.2 t.over ∙ both_are.1 in
    record {
      bs = t.spelled.bs;
      all = t.spelled.all ∙ ap (λ (r : List Bool). t.spelled.bs ++ r) left;
      written = λ qs. ap (λ (ps : List Part). write_list (write body) (whole - length bits) (ps ++ qs)) (sym ps_is) ∙ t.spelled.written qs;
    }

tail_keeps : (whole : ℕ) (tail : Tail) (bits : List Bool) (p : List Part) (rest : List Bool) → length bits ≤ whole → read_tail whole tail bits ≡ Ok (p, rest) → Spells (write_tail tail (whole - length bits)) p bits rest
tail_keeps whole Nothing bits p rest le is =
    let both_are = ok_pair ([], bits) (p, rest) is in
    let ps_is = both_are.0 in
    let left = both_are.1 in
    record { bs = []; all = left; written = λ qs. ap (λ (ps : List Part). Ok ([], ps ++ qs)) (sym ps_is) }
tail_keeps whole (Text style) bits p rest le is = whole_text_keeps bits p rest is
tail_keeps whole (Elements body) bits p rest le is = list_keeps whole body bits p rest le is

-- what is read of some bits is written as those bits
pub decoded_encodes : (d : Declaration) (bits : List Bool) (ps : List Part) → decode d bits ≡ Ok ps → encode d ps ≡ Ok bits
unfolding decode encode
decoded_encodes d bits ps is =
    let whole = length bits in
    let x = bind_ok (read whole d.fields bits) _ _ is in
    let y = bind_ok (read_tail whole d.tail x.0.1) _ _ x.2 in
    let c = cond_ok (length y.0.1 == 0) (x.0.0 ++ y.0.0) ps (length y.0.1) y.2 in
    let none : length y.0.1 ≡ 0 = grind (arith, nat_tests, c.0) in
    let empty : y.0.1 ≡ [] = nil_from_length y.0.1 none in
    let a = fields_keep whole d.fields bits x.0.0 x.0.1 (omega arith) x.1 in
    let long = spelled_long (write d.fields (whole - length bits)) x.0.0 bits x.0.1 a in
    let start : whole - length bits ≡ 0 = omega arith in
    let next : whole - length x.0.1 ≡ length a.bs = omega arith in
    let b = tail_keeps whole d.tail x.0.1 y.0.0 y.0.1 (omega arith) y.1 in
    let first : write d.fields 0 (x.0.0 ++ y.0.0) ≡ Ok (a.bs, y.0.0) = ap (λ (at : ℕ). write d.fields at (x.0.0 ++ y.0.0)) (sym start) ∙ a.written y.0.0 in
    let second : write_tail d.tail (length a.bs) y.0.0 ≡ Ok (b.bs, []) =
    ap (λ (at : ℕ). write_tail d.tail at y.0.0) (sym next) ∙ ap (λ (qs : List Part). write_tail d.tail (whole - length x.0.1) qs) (sym (append-nil y.0.0)) ∙ b.written [] in
    let all : bits ≡ a.bs ++ b.bs = a.all ∙ ap (λ (t : List Bool). a.bs ++ t) (b.all ∙ ap (λ (t : List Bool). b.bs ++ t) empty ∙ append-nil b.bs) in
    ap (λ (qs : List Part). encode d qs) (sym c.1) ∙ rw (first, second) (ap (λ (t : List Bool). Ok t) (sym all))
