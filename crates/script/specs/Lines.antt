-- What stands in a line: its tokens, the words after the call, and the places of the log.
use Rattle.std.specs.Prelude.{◌≡◌, ◌≢◌, ◌≤◌, ◌<◌, ◌-◌, ◌^◌, ℕ, Bool, bytes_eq, not, nat_eq, ◌==◌, Option, None, Some, MatchOption, List, length, filter, map, take, drop, get_or, slice_get, All, codes, if◌then◌else◌}
use Rattle.std.specs.List.{slice_split, before_first, after_first, starts_with}
use Rattle.std.specs.Option.{option_and_then}
use Rattle.std.specs.Str.Parse.{digits_value}
use Rattle.script.specs.Numbers.{IsNumber}

-- tokens are separated by one or more spaces
abbrev pub tokens_of : List ℕ → List (List ℕ)
tokens_of line = filter (λ token. not (length token == 0)) (slice_split (λ byte. byte == 32) line)

-- where the first token begins: at the first character that is no space
abbrev pub StartsToken : List ℕ → Option ℕ → Type 0
StartsToken text found =
    MatchOption found (All (λ byte. byte ≡ 32) text)
    (λ place. (place < length text) × (get_or text place 32 ≢ 32) × All (λ byte. byte ≡ 32) (take place text))

-- how long a token is that begins the text: to the first space, or to the end
abbrev pub EndsToken : List ℕ → ℕ → Type 0
EndsToken text count =
    (count ≤ length text) × All (λ byte. byte ≢ 32) (take count text) × (count < length text → get_or text count 32 ≡ 32)

abbrev pub is_bar : List ℕ → Bool
is_bar token = bytes_eq token (codes "|")

-- the first token `|` ends the call; all tokens after it are words
abbrev pub call_tokens : List ℕ → List (List ℕ)
call_tokens line = before_first is_bar (tokens_of line)

abbrev pub word_tokens : List ℕ → List (List ℕ)
word_tokens line = after_first is_bar (tokens_of line)

-- 1 to 8 hex digits
abbrev pub IsWord : List ℕ → Type 0
IsWord token = IsNumber 16 8 token × (digits_value 16 token < 2 ^ 32)

-- more than 4,096 words make a bad line
pub record AreWords (tokens : List (List ℕ)) : Type 0 where
  pub at_most : length tokens ≤ 4096
  pub digits : All IsWord tokens

abbrev pub values_of : List (List ℕ) → List ℕ
values_of tokens = map (digits_value 16) tokens

abbrev pub after_log : List ℕ → Option (List ℕ)
after_log token = if starts_with nat_eq token (codes "log=") then Some (drop 4 token) else None

-- what follows `log=` in the last token of a call, if it begins so
abbrev pub log_of : List (List ℕ) → Option (List ℕ)
log_of tokens = option_and_then after_log (slice_get tokens (length tokens - 1))

-- a decimal number of 16 bits gives the places of the log
abbrev pub ArePlaces : Option (List ℕ) → Option ℕ → Type 0
ArePlaces None places = places ≡ None
ArePlaces (Some number) places =
    IsNumber 10 20 number × (digits_value 10 number < 2 ^ 16) × (places ≡ Some (digits_value 10 number))
