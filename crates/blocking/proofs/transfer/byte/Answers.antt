-- `blocking::transfer::byte` meets its contract.
use mathlib.Core.Path.{refl, sym}
use native.Mathlib.Omega.{arith}
use Rattle.blocking_meaning.proofs.HandedOn.{next_in, next_out}
use Rattle.blocking.proofs.Goes.{no_word, no_room_read, no_room_write}
use Rattle.blocking.proofs.transfer.byte.Goals as goal
use Rattle.blocking.proofs.transfer.byte.Goals.{else-incoming-via-then-incoming+else-words-p, else-incoming-via-else-incoming}

pub returns-then-words-p : goal.returns-then-words-p
returns-then-words-p c = (
  refl,
  refl,
  no_word c.args.send.now c.args.words.now c.args.log.now c.args.receive.now c.args.p _ _ (next_in c.args.send.now c.args.p.parked c.requires.found (sym c.if-incoming.ensures)) (omega (arith, c.if-words-p.true)),
)

pub returns-then-log-p-lt2 : goal.returns-then-log-p-lt2
returns-then-log-p-lt2 c = elim c.else-incoming.branch [
  | else-incoming-via-then-incoming+else-words-p w ↦ (
    refl,
    refl,
    no_room_read c.args.send.now c.args.words.now c.args.log.now c.args.receive.now c.args.p _ _ (next_in c.args.send.now c.args.p.parked c.requires.found (sym w.if-incoming.ensures))
        (omega (arith, c.requires.within.0, w.if-words-p.false)) (omega (arith, c.requires.within.1, c.if-log-p-lt2.true)),
  )
  | else-incoming-via-else-incoming w ↦ (
    refl,
    refl,
    no_room_write c.args.send.now c.args.words.now c.args.log.now c.args.receive.now c.args.p _ _ (next_out c.args.send.now c.args.p.parked c.requires.found (sym w.if-incoming.ensures))
        (omega (arith, c.requires.within.1, c.if-log-p-lt2.true)),
  )
]
