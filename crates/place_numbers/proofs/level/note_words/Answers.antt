use Rattle.std.proofs.Common.{◌+◌, ◌-◌, ◌/◌, ◌∙◌, inl, inr, arith}
use Rattle.std.proofs.lemmas.Nat.Bits.{bit_at-lt}
use Rattle.place_numbers.proofs.Moved.{same-place}
use Rattle.place_numbers.proofs.level.note_words.Goals as goal

pub returns : goal.returns
returns g c =
    let put = c.put.ensures in let first = c.args.place / 64 in
    record {
      each = put.len;
      others = λ w away. elim away [
        | inl low ↦ put.before w low
        | inr high ↦ put.after w (omega (arith, high, c.requires.some))
      ];
      none = λ w from to zero j is.
          let here = same-place (g.U.Marks.marks c.put.new.self) w (first + (w - first)) (omega arith) ∙ put.there (w - first) (omega arith) in
          c.used.ensures.none (w - first) (omega arith) (omega (arith, here, zero)) j (omega arith);
      some = λ w from to one.
          let here = same-place (g.U.Marks.marks c.put.new.self) w (first + (w - first)) (omega arith) ∙ put.there (w - first) (omega arith) in
          let small = bit_at-lt c.used.result (w - first) in
          let mark = c.used.ensures.some (w - first) (omega arith) (omega (arith, here, one, small)) in
          record {
            place = mark.place;
            here = let is = mark.here in omega (arith, is);
            one = mark.one;
          };
    }
