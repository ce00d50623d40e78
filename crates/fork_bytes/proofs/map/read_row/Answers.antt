use Rattle.std.proofs.Common.{◌≡◌, ℕ, ℤ, ◌+◌, List, Option, ◌∙◌, rules}
use Rattle.std.specs.Prelude.{slice_index}
use Rattle.std.specs.Int.{w16, cast_signed}
use Rattle.std.proofs.lemmas.Int.{to_z-of_z}
use Rattle.fork_bytes.specs.Rows.{MapRow}
use Rattle.fork_bytes.specs.Fork.{number_at, name_at, name_place, map_row}
use Rattle.fork_bytes.proofs.map.read_row.Goals as goal

-- a row is that of its reference, field by field
row_is : (m kind : List ℕ) (at : ℕ) (id : ℤ) (name : Option (List ℕ)) (bits datum : ℕ) → id ≡ cast_signed w16 (number_at 2 at m) → name ≡ name_at m (name_place m at) → bits ≡ slice_index m (at + 4)
    → datum ≡ number_at 3 (at + 5) m → (let row : MapRow = record { kind = kind; id = id; name = name; attributes = record { 0 = bits }; datum = datum } in row) ≡ map_row m (record { kind = kind; place = at })
row_is m kind at id name bits datum id_is name_is bits_is datum_is = λ i. record {
  kind = kind;
  id = id_is i;
  name = name_is i;
  attributes = record { 0 = bits_is i };
  datum = datum_is i;
}

pub returns-clause-row : goal.returns-clause-row
returns-clause-row c =
    let id = to_z-of_z w16 c.read_signed.result (search rules) ∙ c.read_signed.ensures in
    row_is c.args.map.now c.args.kind c.args.at _ c.in_ok-name.name c.from_bits_retain.result.0 c.read_three.result id c.in_ok-name.ensures.name (c.from_bits_retain.ensures tt) c.read_three.ensures
