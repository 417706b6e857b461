-- A parked call that was stored as numbers is loaded again: kind by kind, phase by phase.
use mathlib.Core.Path.{◌≡◌, refl}
use native.Mathlib.Nat.{mod-eq_of_lt}
use Rattle.parked.specs.declared.kinds.Kind.{Kind}
use Rattle.parked.specs.declared.kinds.Kind.TheVariants.{Write, Read, WriteRead, ReadBack, SlaveWrite, SlaveRead, SlaveWaitAddressed}
use Rattle.parked.specs.declared.phases.Opening.TheVariants.{Start, Drain, Modify, Setup, Flush, Release, Probe, Drop}
use Rattle.parked.specs.declared.phases.End.TheVariants.{OutOfWords, LogFull, BadLength, Berr, Arlo, Addr, Stopf, Addressed}
use Rattle.parked.specs.declared.phases.Phase.{Phase}
use Rattle.parked.specs.declared.phases.Phase.TheVariants.{Open, Wait, Transfer, Restart, TcrFound, NackNextByte, ClearBerr, ClearArlo, ClearNackf, ClearStopf, FlushTxis, FlushDummy, FlushTxe, FlushEmpty, Listen, Code, Ended}
use Rattle.c_numbers.specs.ParkedCall.{kind_number, phase_number, phase_word, kind_of, phase_of, LoadsStored}

kind_back : (k : Kind) → kind_of (kind_number k) ≡ k
kind_back Write = refl
kind_back Read = refl
kind_back WriteRead = refl
kind_back ReadBack = refl
kind_back SlaveWrite = refl
kind_back SlaveRead = refl
kind_back SlaveWaitAddressed = refl

phase_back : (f : Phase) → phase_of (phase_number f) (phase_word f) ≡ f
phase_back (Open Start) = refl
phase_back (Open Drain) = refl
phase_back (Open Modify) = refl
phase_back (Open (Setup word)) = refl
phase_back (Open Flush) = refl
phase_back (Open Release) = refl
phase_back (Open Probe) = refl
phase_back (Open Drop) = refl
phase_back Wait = refl
phase_back Transfer = refl
phase_back Restart = refl
phase_back TcrFound = refl
phase_back (NackNextByte word) = refl
phase_back ClearBerr = refl
phase_back ClearArlo = refl
phase_back ClearNackf = refl
phase_back ClearStopf = refl
phase_back FlushTxis = refl
phase_back FlushDummy = refl
phase_back FlushTxe = refl
phase_back FlushEmpty = refl
phase_back Listen = refl
phase_back Code = refl
phase_back (Ended OutOfWords) = refl
phase_back (Ended LogFull) = refl
phase_back (Ended BadLength) = refl
phase_back (Ended Berr) = refl
phase_back (Ended Arlo) = refl
phase_back (Ended Addr) = refl
phase_back (Ended Stopf) = refl
phase_back (Ended (Addressed word)) = refl

pub loads_stored : LoadsStored
loads_stored p small word_small = rw (mod-eq_of_lt small, mod-eq_of_lt word_small, kind_back p.kind, phase_back p.phase)
