-- Document 01, 'Answers of a call': the numbers 0 to 12, and 'Data and Addressed are answers too: address, direction (0 when DIR is set, else 1), and for
-- Data the count'. What an answer of the code says there: its number and its values.
use Rattle.std.specs.Prelude.{ℕ, List, [], ◌∷◌}
use Rattle.registers.specs.declared.answers.I2cDirection.{I2cDirection}
use Rattle.registers.specs.declared.answers.I2cDirection.TheVariants.{MasterReadSlaveWrite, MasterWriteSlaveRead}
use Rattle.registers.specs.declared.answers.Refusal.{Refusal}
use Rattle.registers.specs.declared.answers.Answer.{Answer}
use Rattle.registers.specs.declared.answers.Answer.TheVariants.{Done, Pending, Nack, BusError, ArbitrationLost, IncorrectFrameSize, BadLength, NoRate, BadFilter, OutOfWords, LogFull, WrongCall, ImpossibleLink, Data, Addressed, Errors, Address, Bytes}

pub record Said : Type 0 where
  pub number : ℕ
  pub values : List ℕ

abbrev pub says : ℕ → List ℕ → Said
says n xs = record { number = n; values = xs }

-- who sends, by document 01's number
abbrev pub direction_number : I2cDirection → ℕ
direction_number MasterReadSlaveWrite = 0
direction_number MasterWriteSlaveRead = 1

-- Data, Addressed and what a getter answers have a letter in place of a number, and its code here: `D`, `A`, `E`, `N`, `G`
abbrev pub said : Answer → Said
said Done = says 0 []
said Pending = says 1 []
said Nack = says 2 []
said BusError = says 3 []
said ArbitrationLost = says 4 []
said (IncorrectFrameSize count) = says 5 (count ∷ [])
said BadLength = says 6 []
said NoRate = says 7 []
said BadFilter = says 8 []
said OutOfWords = says 9 []
said LogFull = says 10 []
said WrongCall = says 11 []
said ImpossibleLink = says 12 []
said (Data address direction count) = says 0x44 (address ∷ direction_number direction ∷ count ∷ [])
said (Addressed address direction) = says 0x41 (address ∷ direction_number direction ∷ [])
said (Errors count) = says 0x45 (count ∷ [])
said (Address address) = says 0x4E (address ∷ [])
said (Bytes count) = says 0x47 (count ∷ [])

-- the answer of a refusal
abbrev pub answer_of : Refusal → Answer
answer_of Refusal.BadLength = Answer.BadLength
answer_of Refusal.NoRate = Answer.NoRate
answer_of Refusal.BadFilter = Answer.BadFilter
answer_of Refusal.OutOfWords = Answer.OutOfWords
answer_of Refusal.LogFull = Answer.LogFull
answer_of Refusal.WrongCall = Answer.WrongCall
answer_of Refusal.ImpossibleLink = Answer.ImpossibleLink
