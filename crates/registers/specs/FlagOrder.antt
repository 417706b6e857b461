-- Document 01, nonblocking.rs: '`check_isr_flags` acts on the first set flag of BERR, ARLO, NACKF, TXIS, RXNE, STOPF, TC, TCR, ADDR; that word is "taken as" it.'
-- Nothing else knows this order. The code's groups of flags are joined to it in proofs/Groups.
use Rattle.std.specs.Prelude.{ℕ, cond}
use Rattle.registers.specs.declared.flag_order.Flag.{Flag}
use Rattle.registers.specs.declared.flag_order.Flag.TheVariants.{Berr, Arlo, Nackf, Txis, Rxne, Stopf, Tc, Tcr, Addr, Nothing}
use Rattle.registers.specs.Layout.{BERR, ARLO, NACKF, TXIS, RXNE, STOPF, TC, TCR, ADDR, ◌has◌}

-- 'taken as': the first set flag, in the order of `check_isr_flags`
unfoldable pub taken_as : ℕ → Flag
taken_as isr =
    cond (isr has BERR) Berr
    (cond (isr has ARLO) Arlo
    (cond (isr has NACKF) Nackf
    (cond (isr has TXIS) Txis
    (cond (isr has RXNE) Rxne
    (cond (isr has STOPF) Stopf
    (cond (isr has TC) Tc
    (cond (isr has TCR) Tcr
    (cond (isr has ADDR) Addr Nothing))))))))
