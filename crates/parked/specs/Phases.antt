-- What an access at a phase does to the count of bytes that went out or came in.
use Rattle.parked.specs.declared.phases.CountEffect.{CountEffect}
use Rattle.parked.specs.declared.phases.CountEffect.TheVariants.{Byte, SecondHalf, Unchanged, NoAccess}
use Rattle.parked.specs.declared.phases.Phase.{Phase}
use Rattle.parked.specs.declared.phases.Phase.TheVariants.{Open, Wait, Transfer, Restart, TcrFound, NackNextByte, ClearBerr, ClearArlo, ClearNackf, ClearStopf, FlushTxis, FlushDummy, FlushTxe, FlushEmpty, Listen, Code, Ended}

-- what the access does to the count
abbrev pub count_effect : Phase → CountEffect
count_effect (Open step) = Unchanged
count_effect Wait = Unchanged
count_effect Transfer = Byte
count_effect Restart = SecondHalf
count_effect TcrFound = Unchanged
count_effect (NackNextByte cr2) = Unchanged
count_effect ClearBerr = Unchanged
count_effect ClearArlo = Unchanged
count_effect ClearNackf = Unchanged
count_effect ClearStopf = Unchanged
count_effect FlushTxis = Unchanged
count_effect FlushDummy = Unchanged
count_effect FlushTxe = Unchanged
count_effect FlushEmpty = Unchanged
count_effect Listen = Unchanged
count_effect Code = Unchanged
count_effect (Ended end) = NoAccess
