-- Document 01, blocking.rs and row 6: 'a byte slice of 0 or over 255'. What tells the waiting calls apart, and the lengths of slices that a call begins with.
-- `ReadBack` is a `write_read` from its second START on.
use Rattle.std.specs.Prelude.{ℕ, Bool, true, false, cond, eqb, List, [], ◌∷◌, get_or}
use Rattle.registers.specs.Words.{length_allowed}
use Rattle.parked.specs.declared.kinds.Kind.{Kind}
use Rattle.parked.specs.declared.kinds.Kind.TheVariants.{Write, Read, WriteRead, ReadBack, SlaveWrite, SlaveRead, SlaveWaitAddressed}

-- it has bytes to send
abbrev pub sends : Kind → Bool
sends Write = true
sends Read = false
sends WriteRead = true
sends ReadBack = true
sends SlaveWrite = true
sends SlaveRead = false
sends SlaveWaitAddressed = false

-- it has a buffer to fill
abbrev pub receives : Kind → Bool
receives Write = false
receives Read = true
receives WriteRead = true
receives ReadBack = true
receives SlaveWrite = false
receives SlaveRead = true
receives SlaveWaitAddressed = false

-- its count is of bytes that came in, else of bytes that went out
abbrev pub incoming : Kind → Bool
incoming Write = false
incoming Read = true
incoming WriteRead = false
incoming ReadBack = true
incoming SlaveWrite = false
incoming SlaveRead = true
incoming SlaveWaitAddressed = true

-- it restarts once its bytes are sent
abbrev pub restarts : Kind → Bool
restarts Write = false
restarts Read = false
restarts WriteRead = true
restarts ReadBack = false
restarts SlaveWrite = false
restarts SlaveRead = false
restarts SlaveWaitAddressed = false

-- it sends 0x21 for each TXIS after its last byte
abbrev pub pads : Kind → Bool
pads Write = false
pads Read = false
pads WriteRead = false
pads ReadBack = false
pads SlaveWrite = true
pads SlaveRead = false
pads SlaveWaitAddressed = false

-- a slice that the call has is of 1 to 255 bytes, and one that it does not have is empty
unfoldable pub fits : Bool → ℕ → Bool
fits true n = length_allowed n
fits false n = eqb n 0

unfoldable pub lengths : Kind → ℕ → ℕ → Bool
lengths k n m = cond (fits (sends k) n) (fits (receives k) m) false

abbrev pub kind_number : Kind → ℕ
kind_number Write = 0
kind_number Read = 1
kind_number WriteRead = 2
kind_number ReadBack = 3
kind_number SlaveWrite = 4
kind_number SlaveRead = 5
kind_number SlaveWaitAddressed = 6

-- the kind of a number; a number above the last is taken as the last
abbrev pub kinds : List Kind
kinds = Write ∷ Read ∷ WriteRead ∷ ReadBack ∷ SlaveWrite ∷ SlaveRead ∷ []

abbrev pub kind_of : ℕ → Kind
kind_of n = get_or kinds n SlaveWaitAddressed
