-- Document 01, 'Register words': 'A field keeps only the low bits that it has', over every place and width.
-- A field is `width` bits from bit `place` on, here in arithmetic on the number. A word has 32 bits. Bits that a field has past the word's end read
-- as 0, and what is put there is lost.
use Rattle.std.specs.Prelude.{ℕ, ◌+◌, ◌-◌, ◌*◌, ◌/◌, ◌%◌, ◌^◌, Bool, true, false, eqb}
use Rattle.registers.specs.declared.field.Field.{Field}

-- the field's value
unfoldable pub get : ℕ → Field → ℕ
get word f = word / 2 ^ f.place % 2 ^ f.width

-- the word with the value's low bits in the field: the old value taken away, the new one added
unfoldable pub put : ℕ → Field → ℕ → ℕ
put word f value = (word - get word f * 2 ^ f.place + value % 2 ^ f.width * 2 ^ f.place) % 2 ^ 32

-- a Bool as a field of one bit
abbrev pub digit : Bool → ℕ
digit true = 1
digit false = 0

-- a field of one bit is set
unfoldable pub is_set : ℕ → Field → Bool
is_set word f = eqb (get word f) 1
