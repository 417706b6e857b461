-- Document 01, blocking.rs: '`busy_wait` looks at the wanted flag, then BERR, ARLO, NACKF, TCR, ADDR, STOPF; a final flag found in the inner wait ends the whole
-- call.' 'In the TC wait of `write_read` the length compared is 254.' '`slave_write` sends 0x21 for each TXIS after its last byte.' Nothing else knows this order.
use Rattle.std.specs.Prelude.{ℕ, Bool, false, cond, eqb, Option, None, Some, [], ◌∷◌}
use Rattle.registers.specs.Layout.{Name, BERR, ARLO, NACKF, TXIS, RXNE, STOPF, TC, TCR, ADDR, ◌has◌}
use Rattle.registers.specs.Answers.{Said, says}
use Rattle.registers.specs.Isr.{direction_of, address_code}
use Rattle.parked.specs.declared.busy_wait.Wanted.{Wanted}
use Rattle.parked.specs.declared.busy_wait.Wanted.TheVariants.{Txis as WantTxis, Rxne as WantRxne, Tc as WantTc}
use Rattle.parked.specs.declared.busy_wait.Found.{Found}
use Rattle.parked.specs.declared.busy_wait.Found.TheVariants.{Wanted as Met, Berr as MetBerr, Arlo as MetArlo, Nackf as MetNackf, Tcr as MetTcr, Addr as MetAddr, Stopf as MetStopf}
use Rattle.parked.specs.declared.phases.End.{End}
use Rattle.parked.specs.declared.phases.End.TheVariants.{OutOfWords, LogFull, BadLength, Berr, Arlo, Addr, Stopf, Addressed}
use Rattle.parked.specs.declared.phases.Phase.{Phase}
use Rattle.parked.specs.declared.phases.Phase.TheVariants.{Wait, Transfer, Restart, TcrFound, ClearBerr, ClearArlo, ClearNackf, FlushTxis, Ended}
use Rattle.parked.specs.declared.Parked.{Parked}
use Rattle.parked.specs.Kinds.{incoming, restarts, pads}
use Rattle.parked.specs.NextAccess.{span, more}

abbrev pub wanted_name : Wanted → Name
wanted_name WantTxis = TXIS
wanted_name WantRxne = RXNE
wanted_name WantTc = TC

-- `busy_wait`: the wanted flag, then BERR, ARLO, NACKF, TCR, ADDR, STOPF
unfoldable pub found_in : ℕ → Wanted → Option Found
found_in isr wanted =
    cond (isr has wanted_name wanted) (Some Met)
    (cond (isr has BERR) (Some MetBerr)
    (cond (isr has ARLO) (Some MetArlo)
    (cond (isr has NACKF) (Some MetNackf)
    (cond (isr has TCR) (Some MetTcr)
    (cond (isr has ADDR) (Some MetAddr)
    (cond (isr has STOPF) (Some MetStopf) None))))))

-- the wait for TC: a `write_read` has sent its bytes
abbrev pub tc_wait : Parked → Bool
tc_wait p = cond (more p) false (restarts p.kind)

-- the wanted flag
unfoldable pub wanted : Parked → Wanted
wanted p = cond (incoming p.kind) WantRxne (cond (tc_wait p) WantTc WantTxis)

-- at the wanted flag: TC restarts; a byte is moved while one is left, and `slave_write` sends on
abbrev pub after_wanted : Parked → Phase
after_wanted p = cond (tc_wait p) Restart (cond (pads p.kind) Transfer (cond (more p) Transfer Wait))

-- the phase that a found flag leads to: a final flag ends the whole call; NACKF, TCR and no flag go on waiting
abbrev pub after_found : Option Found → Parked → Phase
after_found (Some Met) p = after_wanted p
after_found (Some MetBerr) p = ClearBerr
after_found (Some MetArlo) p = ClearArlo
after_found (Some MetNackf) p = ClearNackf
after_found (Some MetTcr) p = TcrFound
after_found (Some MetAddr) p = Ended Addr
after_found (Some MetStopf) p = FlushTxis
after_found None p = Wait

-- the length that a final flag compares with the count: 254 in the wait for TC
unfoldable pub compared_length : Parked → ℕ
compared_length p = cond (tc_wait p) 254 (span p)

unfoldable pub full_frame : Parked → Bool
full_frame p = eqb p.count (compared_length p)

-- ADDR: done, or a short frame, also of no bytes
unfoldable pub addr_answer : Parked → Said
addr_answer p = cond (full_frame p) (says 0 []) (says 5 (p.count ∷ []))

-- STOPF: done, no acknowledge where no byte went, or a short frame
unfoldable pub stop_answer : Parked → Said
stop_answer p = cond (full_frame p) (says 0 []) (cond (eqb p.count 0) (says 2 []) (says 5 (p.count ∷ [])))

-- the answer, by document 01's number; code and direction are those of the second ISR read
abbrev pub answer : End → Parked → Said
answer OutOfWords p = says 9 []
answer LogFull p = says 10 []
answer BadLength p = says 6 []
answer Berr p = says 3 []
answer Arlo p = says 4 []
answer Addr p = addr_answer p
answer Stopf p = stop_answer p
answer (Addressed isr) p = says 0x41 (address_code isr ∷ direction_of isr ∷ [])
