-- `blocking::transfer::wait` meets its contract.
use mathlib.Core.Path.{refl}
use mathlib.Core.Bool.{false}
use Rattle.std.proofs.lemmas.Result.{err_from_is_err_and}
use Rattle.parked.proofs.HandedOn.{after_wait}
use Rattle.blocking_meaning.proofs.HandedOn.{next_wait}
use Rattle.blocking.proofs.transfer.wait.Goals as goal

pub returns-in_err-isr : goal.returns-in_err-isr
returns-in_err-isr c = λ s b. let e = err_from_is_err_and c.from_residual.result c.from_residual.ensures.1 in
    let q = c.in_err-isr.ensures in
    rw (e.1, e.2) (q.0, refl, q.1 s b false (next_wait s c.args.p.parked c.requires.waits))

pub returns : goal.returns
returns c = λ s b. let q = c.in_ok-isr.ensures in
    rw (q.0, c.busy_wait.ensures, ← after_wait c.args.p.parked c.in_ok-isr.isr c.requires.waits) (q.1 s b false (next_wait s c.args.p.parked c.requires.waits))
