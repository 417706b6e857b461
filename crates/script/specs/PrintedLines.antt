-- What the lines of a call are, as bytes.
use Rattle.std.specs.Prelude.{ℕ, ◌-◌, ◌%◌, true, nat_lt, ◌==◌, if◌then◌else◌, List, [], ◌∷◌, ◌++◌, length, replicate, take, codes, decimal}
use Rattle.std.specs.Fmt.{digits}
use Rattle.registers.specs.declared.call_log.Report.{Report}
use Rattle.registers.specs.declared.answers.Answer.{Answer}
use Rattle.registers.specs.declared.answers.Answer.TheVariants.{IncorrectFrameSize, Data, Addressed, Errors, Address, Bytes}
use Rattle.registers.specs.Answers.{said, direction_number}
use Rattle.hex.specs.Hex.{encode_upper}

-- hex digits are capitals, with zeros before them up to so many
abbrev pub hex_digits : ℕ → ℕ → List ℕ
hex_digits count n = replicate (count - length (digits 16 true n)) 48 ++ digits 16 true n

-- bytes are hex pairs, and `-` where there are none
abbrev pub bytes_text : List ℕ → List ℕ
bytes_text bytes = if length bytes == 0 then codes "-" else encode_upper bytes

-- single spaces between parts
abbrev pub spaced : List ℕ → List (List ℕ) → List ℕ
spaced part [] = part
spaced part (next ∷ more) = part ++ (codes " " ++ spaced next more)

abbrev pub line : List ℕ → List ℕ
line text = text ++ (10 ∷ [])

-- a read or a write, which is a number from 0x100 on: the offset, and the word
abbrev pub access_line : ℕ → ℕ → List ℕ
access_line number word = line (spaced (if nat_lt number 0x100 then codes "R" else codes "W") (hex_digits 2 (number % 0x100) ∷ hex_digits 8 word ∷ []))

-- the lines of a log's accesses
abbrev pub accesses_text : List ℕ → List ℕ
accesses_text [] = []
accesses_text (number ∷ []) = []
accesses_text (number ∷ word ∷ log) = access_line number word ++ accesses_text log

-- an answer: its number, or its letter and its values, of which the bytes are the first ones of the link's data
abbrev pub answer_text : Answer → List ℕ → List ℕ
answer_text (IncorrectFrameSize count) bytes = spaced (codes "5") (decimal count ∷ [])
answer_text (Data address direction count) bytes = spaced (codes "D") (hex_digits 4 address ∷ decimal (direction_number direction) ∷ bytes_text (take count bytes) ∷ [])
answer_text (Addressed address direction) bytes = spaced (codes "A") (hex_digits 4 address ∷ decimal (direction_number direction) ∷ [])
answer_text (Errors count) bytes = spaced (codes "E") (decimal count ∷ [])
answer_text (Address address) bytes = spaced (codes "N") (hex_digits 4 address ∷ [])
answer_text (Bytes count) bytes = spaced (codes "G") (bytes_text (take count bytes) ∷ [])
answer_text answer bytes = decimal (said answer).number

abbrev pub answer_line : Answer → List ℕ → List ℕ
answer_line answer bytes = line (spaced (codes "=") (answer_text answer bytes ∷ []))

-- the accesses that the call logged, and its answer
abbrev pub reported_text : Report → List ℕ → List ℕ → List ℕ
reported_text report log bytes = accesses_text (take report.logged log) ++ answer_line report.answer bytes
