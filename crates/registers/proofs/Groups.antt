-- The flag order in two steps: whether one of a group is set, and then which.
use Prim.Native.Nat.{ℕ}
use mathlib.Core.Path.{◌≡◌, refl, ◌∙◌, ap}
use mathlib.Core.Bool.{Bool, true, false, cond, ◌||◌}
use Rattle.registers.specs.declared.flag_order.Flag.{Flag}
use Rattle.registers.specs.declared.flag_order.Flag.TheVariants.{Berr, Arlo, Nackf, Txis, Rxne, Stopf, Tc, Tcr, Addr, Nothing}
use Rattle.registers.specs.Layout.{BERR, ARLO, NACKF, TXIS, RXNE, STOPF, TC, TCR, ADDR, ◌has◌}
use Rattle.registers.specs.FlagOrder.{taken_as}

faults : (a b c : Bool) (rest : Flag) → cond a Berr (cond b Arlo (cond c Nackf rest)) ≡ cond ((a || b) || c) (cond a Berr (cond b Arlo Nackf)) rest
faults true b c rest = refl
faults false true c rest = refl
faults false false true rest = refl
faults false false false rest = refl

late : (a b c d : Bool) → cond a Stopf (cond b Tc (cond c Tcr (cond d Addr Nothing))) ≡ cond (((a || b) || c) || d) (cond a Stopf (cond b Tc (cond c Tcr Addr))) Nothing
late true b c d = refl
late false true c d = refl
late false false true d = refl
late false false false true = refl
late false false false false = refl

pub grouped : (isr : ℕ) → taken_as isr
    ≡ cond ((isr has BERR || isr has ARLO) || isr has NACKF) (cond (isr has BERR) Berr (cond (isr has ARLO) Arlo Nackf))
    (cond (isr has TXIS) Txis
    (cond (isr has RXNE) Rxne
    (cond (((isr has STOPF || isr has TC) || isr has TCR) || isr has ADDR) (cond (isr has STOPF) Stopf (cond (isr has TC) Tc (cond (isr has TCR) Tcr Addr))) Nothing)))
unfolding taken_as
grouped isr =
    faults (isr has BERR) (isr has ARLO) (isr has NACKF) _
    ∙ ap (λ (rest : Flag). cond ((isr has BERR || isr has ARLO) || isr has NACKF) (cond (isr has BERR) Berr (cond (isr has ARLO) Arlo Nackf)) (cond (isr has TXIS) Txis (cond (isr has RXNE) Rxne rest)))
    (late (isr has STOPF) (isr has TC) (isr has TCR) (isr has ADDR))
