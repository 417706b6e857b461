-- `blocking::transfer::transfer` meets its contract: an access carries the run on, and where none follows what was made so far is the whole run.
use native.Mathlib.Omega.{arith}
use Rattle.blocking.proofs.Goes.{going_none, within, finish}
use Rattle.blocking.proofs.transfer.transfer.Goals as goal

pub transfer-init : goal.transfer-init
transfer-init c = going_none c.args.send.now c.args.words.now c.args.log.now c.args.call c.args.receive.now

pub loop-p-init : goal.loop-p-init
loop-p-init c = (omega arith, λ start p₀ b₀ g. g)

pub flag_found-requires : goal.flag_found-requires
flag_found-requires c = within (c.loop-p.invariant.1 _ _ _ c.transfer.invariant)

pub step-requires-clause-within : goal.step-requires-clause-within
step-requires-clause-within c = within (c.loop-p.invariant.1 _ _ _ c.transfer.invariant)

pub loop-p-smaller : goal.loop-p-smaller
loop-p-smaller c = let on = c.in-Ok.ensures.going _ _ _ (c.loop-p.invariant.1 _ _ _ c.transfer.invariant) in
    omega (arith, c.in-Ok.ensures.one, on.room, c.transfer.auto.log)

pub loop-p-preserved : goal.loop-p-preserved
loop-p-preserved c = (
  omega (arith, c.loop-p.invariant.0, c.in-Ok.ensures.one),
  λ start p₀ b₀ g. c.in-Ok.ensures.going start p₀ b₀ (c.loop-p.invariant.1 start p₀ b₀ g),
)

pub byte-requires-clause-within : goal.byte-requires-clause-within
byte-requires-clause-within c = within (c.loop-p.invariant.1 _ _ _ c.transfer.invariant)

pub transfer-smaller-in-Ok-byte : goal.transfer-smaller-in-Ok-byte
transfer-smaller-in-Ok-byte c = let on = c.in-Ok-byte.ensures.going _ _ _ (c.loop-p.invariant.1 _ _ _ c.transfer.invariant) in
    omega (arith, c.loop-p.invariant.0, c.in-Ok-byte.ensures.one, on.room)

pub transfer-preserved-in-Ok-byte : goal.transfer-preserved-in-Ok-byte
transfer-preserved-in-Ok-byte c = c.in-Ok-byte.ensures.going _ _ _ (c.loop-p.invariant.1 _ _ _ c.transfer.invariant)

pub transfer-smaller : goal.transfer-smaller
transfer-smaller c = let flag = c.flag_read.ensures.carries c.args.send.now c.loop-p.receive in
    let on = c.moved-p.ensures.going _ _ _ (flag.going _ _ _ (c.loop-p.invariant.1 _ _ _ c.transfer.invariant)) in
    omega (arith, c.loop-p.invariant.0, flag.one, c.moved-p.ensures.one, on.room)

pub transfer-preserved : goal.transfer-preserved
transfer-preserved c = let flag = c.flag_read.ensures.carries c.args.send.now c.loop-p.receive in
    c.moved-p.ensures.going _ _ _ (flag.going _ _ _ (c.loop-p.invariant.1 _ _ _ c.transfer.invariant))

pub returns-in-Err : goal.returns-in-Err
returns-in-Err c = let q = c.in-Err.ensures in
    rw (q.0, q.1) (finish (c.loop-p.invariant.1 _ _ _ c.transfer.invariant) c.in-Err.end q.2 c.answered.ensures)

pub returns-in-Err-byte : goal.returns-in-Err-byte
returns-in-Err-byte c = let q = c.in-Err-byte.ensures in
    rw (q.0, q.1) (finish (c.loop-p.invariant.1 _ _ _ c.transfer.invariant) c.in-Err-byte.missing q.2 c.answered-in-Err-byte.ensures)
