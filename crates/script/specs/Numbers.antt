-- What a token of digits is.
use Rattle.std.specs.Prelude.{◌≤◌, ◌<◌, ◌^◌, ℕ, List, length, Option, MatchOption, Result, Ok, Err}
use Rattle.std.specs.Str.Parse.{IsNumeral, digits_value}

-- a number: digits of the base alone, one to so many of them, worth at most 64 bits
abbrev pub IsNumber : ℕ → ℕ → List ℕ → Type 0
IsNumber base most token = IsNumeral base token × (length token ≤ most) × (digits_value base token < 2 ^ 64)

module _ {T E : Type 0} (gives : ℕ → Result T E → Type 0) where
  -- the number that a token is, in a type that has it; none where the token is no number, or the type does not have it
  abbrev pub ReadsNumber : ℕ → ℕ → List ℕ → Option T → Type 0
  ReadsNumber base most token result =
      MatchOption result
      (IsNumber base most token → (e : E) × gives (digits_value base token) (Err e))
      (λ value. IsNumber base most token × gives (digits_value base token) (Ok value))
