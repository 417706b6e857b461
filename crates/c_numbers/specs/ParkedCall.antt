-- A parked call as seven numbers, which a caller keeps until it resumes the call, and what a run leaves of them.
pub use Rattle.parked.specs.Kinds.{kind_number, kinds, kind_of}
use Rattle.std.specs.Prelude.{ℕ, ◌%◌, ◌<◌, ◌≡◌, Bool, cond, ◌||◌, eqb, List, [], ◌∷◌, get_or}
use Rattle.parked.specs.declared.phases.Opening.{Opening}
use Rattle.parked.specs.declared.phases.Opening.TheVariants.{Start, Drain, Modify, Setup, Flush, Release, Probe, Drop}
use Rattle.parked.specs.declared.phases.End.{End}
use Rattle.parked.specs.declared.phases.End.TheVariants.{OutOfWords, LogFull, BadLength, Berr, Arlo, Addr, Stopf, Addressed}
use Rattle.parked.specs.declared.phases.Phase.{Phase}
use Rattle.parked.specs.declared.phases.Phase.TheVariants.{Open, Wait, Transfer, Restart, TcrFound, NackNextByte, ClearBerr, ClearArlo, ClearNackf, ClearStopf, FlushTxis, FlushDummy, FlushTxe, FlushEmpty, Listen, Code, Ended}
use Rattle.parked.specs.declared.Parked.{Parked}
use Rattle.blocking_meaning.specs.declared.Ran.{Ran}
use Rattle.registers.specs.Answers.{Said, said}
use Rattle.c_numbers.specs.Answer.{six}

abbrev pub opening_number : Opening → ℕ
opening_number Start = 0
opening_number Drain = 1
opening_number Modify = 2
opening_number (Setup word) = 3
opening_number Flush = 4
opening_number Release = 5
opening_number Probe = 6
opening_number Drop = 7

abbrev pub end_number : End → ℕ
end_number OutOfWords = 23
end_number LogFull = 24
end_number BadLength = 25
end_number Berr = 26
end_number Arlo = 27
end_number Addr = 28
end_number Stopf = 29
end_number (Addressed word) = 30

abbrev pub phase_number : Phase → ℕ
phase_number (Open opening) = opening_number opening
phase_number Wait = 8
phase_number Transfer = 9
phase_number Restart = 10
phase_number TcrFound = 11
phase_number (NackNextByte word) = 12
phase_number ClearBerr = 13
phase_number ClearArlo = 14
phase_number ClearNackf = 15
phase_number ClearStopf = 16
phase_number FlushTxis = 17
phase_number FlushDummy = 18
phase_number FlushTxe = 19
phase_number FlushEmpty = 20
phase_number Listen = 21
phase_number Code = 22
phase_number (Ended end) = end_number end

-- the word that a phase remembers, 0 where it has none
abbrev pub opening_word : Opening → ℕ
opening_word Start = 0
opening_word Drain = 0
opening_word Modify = 0
opening_word (Setup word) = word
opening_word Flush = 0
opening_word Release = 0
opening_word Probe = 0
opening_word Drop = 0

abbrev pub end_word : End → ℕ
end_word OutOfWords = 0
end_word LogFull = 0
end_word BadLength = 0
end_word Berr = 0
end_word Arlo = 0
end_word Addr = 0
end_word Stopf = 0
end_word (Addressed word) = word

abbrev pub phase_word : Phase → ℕ
phase_word (Open opening) = opening_word opening
phase_word Wait = 0
phase_word Transfer = 0
phase_word Restart = 0
phase_word TcrFound = 0
phase_word (NackNextByte word) = word
phase_word ClearBerr = 0
phase_word ClearArlo = 0
phase_word ClearNackf = 0
phase_word ClearStopf = 0
phase_word FlushTxis = 0
phase_word FlushDummy = 0
phase_word FlushTxe = 0
phase_word FlushEmpty = 0
phase_word Listen = 0
phase_word Code = 0
phase_word (Ended end) = end_word end

-- the phase of a number; a number above the last is taken as the last
abbrev pub phases : ℕ → List Phase
phases word =
    Open Start ∷ Open Drain ∷ Open Modify ∷ Open (Setup word) ∷ Open Flush ∷ Open Release ∷ Open Probe ∷ Open Drop
    ∷ Wait ∷ Transfer ∷ Restart ∷ TcrFound ∷ NackNextByte word ∷ ClearBerr ∷ ClearArlo ∷ ClearNackf ∷ ClearStopf
    ∷ FlushTxis ∷ FlushDummy ∷ FlushTxe ∷ FlushEmpty ∷ Listen ∷ Code
    ∷ Ended OutOfWords ∷ Ended LogFull ∷ Ended BadLength ∷ Ended Berr ∷ Ended Arlo ∷ Ended Addr ∷ Ended Stopf ∷ []

abbrev pub phase_of : ℕ → ℕ → Phase
phase_of n word = get_or (phases word) n (Ended (Addressed word))

-- the numbers of a call: kind, address, the lengths to send and to receive, phase, the phase's word, count
abbrev pub stored : Parked → List ℕ
stored p = kind_number p.kind ∷ p.address ∷ p.send ∷ p.receive ∷ phase_number p.phase ∷ phase_word p.phase ∷ p.count ∷ []

-- the call of seven numbers, whatever they are
abbrev pub loaded : List ℕ → Parked
loaded xs = record {
  kind = kind_of (get_or xs 0 0);
  address = get_or xs 1 0 % 256;
  send = get_or xs 2 0;
  receive = get_or xs 3 0;
  phase = phase_of (get_or xs 4 0) (get_or xs 5 0 % 4294967296);
  count = get_or xs 6 0;
}

-- what is stored is loaded again as it was
abbrev pub LoadsStored : Type 0
LoadsStored = (p : Parked) → p.address < 256 → phase_word p.phase < 4294967296 → loaded (stored p) ≡ p

-- 6 or 11: the call was not run
abbrev pub refused : Said → Bool
refused a = eqb a.number 6 || eqb a.number 11

-- the numbers after a run that gave this answer and this call: as they were where it was refused
abbrev pub kept : List ℕ → Said → Parked → List ℕ
kept numbers a p = cond (refused a) numbers (stored p)

-- what a run leaves to a caller: the numbers after it, and the answer's
abbrev pub Leaves : Ran → List ℕ → List ℕ → List ℕ → Type 0
Leaves ran before after out =
    (after ≡ kept before (said ran.report.answer) ran.parked) × (out ≡ six (said ran.report.answer) ran.report.taken ran.report.logged)

-- the numbers before and after, and the answer's, are those of what a run returned, of which the call's contract holds
pub record StoredRun (holds : Ran → Type 0) (before after out : List ℕ) : Type 0 where
  pub ran : Ran
  pub held : holds ran
  pub leaves : Leaves ran before after out
