-- `blocking::transfer::moved` meets its contract.
use Prim.Native.Nat.{◌+◌, ◌≤◌}
use mathlib.Core.Path.{sym, subst}
use mathlib.Core.Bool.{Bool, cond}
use native.Mathlib.Omega.{arith}
use lib.ListN.{length, get_or}
use Rattle.blocking_meaning.proofs.HandedOn.{next_in, next_out}
use Rattle.blocking.proofs.Goes.{reads, writes}
use Rattle.blocking.proofs.transfer.moved.Goals as goal

pub returns-then-incoming : goal.returns-then-incoming
returns-then-incoming c = let p = c.args.p in
    let words : p.taken + 1 ≤ length c.args.words.now = subst (λ (t : Bool). p.taken + cond t 1 0 ≤ length c.args.words.now) (sym c.if-incoming.ensures) c.requires.movable.words in
    rw (c.keep_byte.ensures, c.requires.left, ← c.counted-parked.ensures (get_or c.args.words.now p.taken 0) c.requires.movable.found, c.store.ensures)
    (reads c.args.send.now c.args.words.now c.args.log.now c.args.receive.now p _ _ (next_in c.args.send.now p.parked c.requires.movable.found (sym c.if-incoming.ensures)) (omega (arith, words)) c.requires.movable.room)

pub returns-else-incoming : goal.returns-else-incoming
returns-else-incoming c = let p = c.args.p in
    let words : p.taken + 0 ≤ length c.args.words.now = subst (λ (t : Bool). p.taken + cond t 1 0 ≤ length c.args.words.now) (sym c.if-incoming.ensures) c.requires.movable.words in
    rw (← c.counted-parked.ensures 0 c.requires.movable.found, c.store-else-incoming.ensures, c.sent-byte.ensures, c.byte_at.ensures)
    (writes c.args.send.now c.args.words.now c.args.log.now c.args.receive.now p _ _ (next_out c.args.send.now p.parked c.requires.movable.found (sym c.if-incoming.ensures)) (omega (arith, words)) c.requires.movable.room)
