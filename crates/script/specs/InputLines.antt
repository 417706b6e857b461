-- The lines of an input, whose bytes are known where its reader says so.
use denote.Ref.{Bor}
use Rattle.std.specs.Prelude.{◌≡◌, ◌≢◌, ◌≤◌, ◌<◌, ◌⊎◌, ℕ, ⊤, Bool, List, [], ◌∷◌, ◌++◌, length, take, All, Option, MatchOption, Result, MatchResult, ◌==◌, get_or}
use Rattle.std.specs.Bool.{MatchBool}
use Rattle.std.specs.Io.KnownBytes.{Keeps, Consumes}
use Rattle.script.specs.Unread.{unread}
use Rattle.script.specs.declared.text.lines.Lines.{Lines}
use Rattle.script.specs.declared.text.lines.TooLong.{TooLong}

-- the most characters that a line may have
abbrev pub most : ℕ
most = 32768

-- the place of the first newline, if there is one
abbrev pub FirstNewline : List ℕ → Option ℕ → Type 0
FirstNewline bytes found =
    MatchOption found (All (λ b. b ≢ 10) bytes)
    (λ place. (place < length bytes) × (get_or bytes place 10 ≡ 10) × All (λ b. b ≢ 10) (take place bytes))

-- what ends a line: a newline, or the input's end, where it has characters
abbrev pub Ends : List ℕ → List ℕ → Type 0
Ends line stop = (stop ≡ 10 ∷ []) ⊎ ((stop ≡ []) × (0 < length line))

-- a line of the input: characters that are no newline, and what ends them, and it is these that the input loses
abbrev pub IsLine : List ℕ → Option (List ℕ) → Option (List ℕ) → Type 0
IsLine line old new = All (λ b. b ≢ 10) line × (stop : List ℕ) × Ends line stop × Consumes old new (line ++ stop)

-- its first character is `#`
abbrev pub is_comment : List ℕ → Bool
is_comment line = get_or line 0 0 == 35

-- how it is given: nothing of a comment, however long; else all of it, if it is not too long
abbrev pub Gives : List ℕ → Result (Bor (List ℕ)) TooLong → Type 0
Gives line given =
    MatchBool (is_comment line)
    (MatchResult given (λ bytes. bytes.now ≡ []) (λ _. ⊥))
    (MatchResult given (λ bytes. (bytes.now ≡ line) × (length line ≤ most)) (λ _. most < length line))

-- what is held of it when it was read: all of it, if it is not too long, and else its first character at least
abbrev pub Holds : List ℕ → Result ⊤ TooLong → List ℕ → Type 0
Holds line read held = MatchResult read (λ _. (held ≡ line) × (length line ≤ most)) (λ _. most < length line) × (take 1 held ≡ take 1 line)

-- there is no line where nothing is left to read
abbrev pub ReadsLine : Option (List ℕ) → Option (Result ⊤ TooLong) → List ℕ → Option (List ℕ) → Type 0
ReadsLine old result held new =
    MatchOption result (Keeps old new) (λ read. (line : List ℕ) × IsLine line old new × Holds line read held)

-- what is left to read of the input
abbrev pub left : {R : Type 0} → (R → Option (List ℕ)) → Lines R → Option (List ℕ)
left remaining lines = unread lines.input.bytes lines.input.start lines.input.end (remaining lines.input.reader)

-- a line of what was left, as it is given
abbrev pub NextLine : Option (List ℕ) → Option (Result (Bor (List ℕ)) TooLong) → Type 0
NextLine old result = MatchOption result ⊤ (λ given. (line : List ℕ) × ((new : Option (List ℕ)) × IsLine line old new) × Gives line given)
