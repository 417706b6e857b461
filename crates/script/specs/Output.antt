-- What an output holds.
use Rattle.std.specs.Prelude.{◌≡◌, ◌+◌, ℕ, List, [], ◌++◌, length, cond, nat_le}
use Rattle.script.specs.declared.print.output.Output.{Output}

module _ {P : Type 0} where
  -- the bytes that are still to be written
  abbrev pub held : Output P → List ℕ
  held output = output.bytes.items

  -- Text comes behind what is held, which is written first where both have no room.
  abbrev pub Holds : Output P → List ℕ → Output P → Type 0
  Holds old text new = held new ≡ cond (nat_le (length (held old) + length text) 65536) (held old) [] ++ text
