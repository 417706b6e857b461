-- `blocking::transfer::advance` meets its contract.
use mathlib.Core.Path.{refl, sym, ap, ◌∙◌}
use Rattle.std.specs.Prelude.{Ok}
use Rattle.std.proofs.lemmas.Result.{err_from_is_err_and}
use Rattle.blocking_meaning.proofs.HandedOn.{run_over}
use Rattle.blocking.proofs.Goes.{writes, no_room_write}
use Rattle.blocking.proofs.transfer.advance.Goals as goal
use Rattle.blocking.proofs.transfer.advance.Goals.{in-Read+in_ok-word-in-Read, in-Write+in_ok-enter-in-Write}

pub returns-in_err-number : goal.returns-in_err-number
returns-in_err-number c = let e = err_from_is_err_and c.from_residual.result c.from_residual.ensures.1 in
    rw (e.1, e.2) (refl, refl, run_over _ _ _ _ _ _ (sym c.in_err-number.ensures))

pub returns-in_err-enter-in-Write : goal.returns-in_err-enter-in-Write
returns-in_err-enter-in-Write c = let e = err_from_is_err_and c.from_residual-in_err-enter-in-Write.result c.from_residual-in_err-enter-in-Write.ensures.1 in
    let q = c.in_err-enter-in-Write.ensures in
    rw (e.1, e.2, q.1)
    (q.2, refl, no_room_write c.args.send.now c.args.words.now c.args.log.now c.args.receive.now c.args.p _ _ (sym c.in_ok-number.ensures ∙ ap Ok c.in-Write.is) q.0)

pub returns : goal.returns
returns c = elim c.match-branch-2.branch [
  | in-Read+in_ok-word-in-Read w ↦
      let q = w.in_ok-word-in-Read.ensures in
      rw (c.after.ensures, w.word-is, w.log-is, w.receive-is, q.0, w.keep_byte.ensures) (q.1 _ _ _ (sym c.in_ok-number.ensures ∙ ap Ok w.in-Read.is))
  | in-Write+in_ok-enter-in-Write w ↦
      let q = w.in_ok-enter-in-Write.ensures in
      rw (c.after.ensures, w.word-is, w.log-is, w.receive-is, q.1, q.2)
      (writes c.args.send.now c.args.words.now c.args.log.now c.args.receive.now c.args.p _ _ (sym c.in_ok-number.ensures ∙ ap Ok w.in-Write.is) c.requires.0 q.0)
]
