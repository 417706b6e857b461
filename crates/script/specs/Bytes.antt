-- BYTES, and what they stand for.
use Rattle.std.specs.Prelude.{ℕ, Bool, ◌&&◌, ◌==◌, nat_lt, nat_le, List, [], ◌∷◌, length, map, replicate, codes, Option, Some, None, option_and_then, unwrap_or, if◌then◌else◌}
use Rattle.std.specs.List.{list_all, list_any, before_first, after_first}
use Rattle.std.specs.Char.{is_digit}
use Rattle.std.specs.Str.{bytes_eq}
use Rattle.std.specs.Str.Parse.{digits_value}
use Rattle.script.specs.declared.text.bytes.Bytes.{Bytes}
use Rattle.script.specs.declared.text.bytes.Bytes.TheVariants.{Pairs, Repeated}

-- `?`
infixl 10 ◌>>=◌
abbrev pub ◌>>=◌ : {A B : Type 0} → Option A → (A → Option B) → Option B
o >>= f = option_and_then f o

-- one hex pair, of either case
abbrev pub pair_byte : List ℕ → Option ℕ
pair_byte pair = if length pair == 2 && list_all (λ c. is_digit c 16) pair then Some (digits_value 16 pair) else None

-- hex pairs, one after another
abbrev pub pairs_bytes : List ℕ → Option (List ℕ)
pairs_bytes [] = Some []
pairs_bytes (_ ∷ []) = None
pairs_bytes (high ∷ low ∷ rest) = do
  byte ← pair_byte (high ∷ low ∷ [])
  bytes ← pairs_bytes rest
  Some (byte ∷ bytes)

-- at least one
abbrev pub some_pairs_bytes : List ℕ → Option (List ℕ)
some_pairs_bytes [] = None
some_pairs_bytes token = pairs_bytes token

-- a decimal count of 1 to 20 digits
abbrev pub count_number : List ℕ → Option ℕ
count_number count = if nat_lt 0 (length count) && nat_le (length count) 20 && list_all (λ c. is_digit c 10) count then Some (digits_value 10 count) else None

-- one hex pair and a count: that byte so many times
abbrev pub repeated_bytes : List ℕ → List ℕ → Option (List ℕ)
repeated_bytes pair count = do
  byte ← pair_byte pair
  number ← count_number count
  Some (replicate number byte)

-- the letter `x`
abbrev pub is_x : ℕ → Bool
is_x c = c == 120

-- BYTES: `-`, hex pairs, at least one, or one hex pair, `x` and a count
unfoldable pub token_bytes : List ℕ → Option (List ℕ)
token_bytes token =
    if list_any is_x token then repeated_bytes (before_first is_x token) (after_first is_x token)
    else (if bytes_eq token (codes "-") then Some [] else some_pairs_bytes token)

-- BYTES of at most so many
unfoldable pub token_bytes_up_to : ℕ → List ℕ → Option (List ℕ)
token_bytes_up_to most token = do
  bytes ← token_bytes token
  if nat_le (length bytes) most then Some bytes else None

-- the bytes that are given: each pair is one, 0 where it is not of hex digits, or one comes so many times
abbrev pub bytes_of : Bytes → List ℕ
bytes_of (Pairs pairs) = map (λ pair. unwrap_or (pair_byte pair) 0) pairs.now
bytes_of (Repeated byte count) = replicate count byte
