-- `blocking::progress::Progress::read` meets its contract.
use mathlib.Core.Path.{◌≡◌, refl, sym, ◌∙◌}
use borrow.Author.Tests.{ltb-true, ltb-false}
use lib.ListN.{get_or}
use Rattle.std.proofs.lemmas.Grind.{get_or_default_zero}
use Rattle.std.proofs.lemmas.Result.{err_from_is_err_and}
use Rattle.blocking.proofs.Goes.{reads, no_word, no_room_read}
use Rattle.blocking.proofs.progress.Progress.read.Goals as goal

pub returns-in_default : goal.returns-in_default
returns-in_default c = (refl, λ s b keep h. no_word s c.args.words.now c.args.log.now b c.args.self c.args.number keep h (ltb-false _ _ (sym c.in_default.ensures.lookup.0)))

pub returns-in_err-on : goal.returns-in_err-on
returns-in_err-on c = let e = err_from_is_err_and c.from_residual.result c.from_residual.ensures.1 in
    let q = c.in_err-on.ensures in
    rw (e.1, e.2, q.1)
    (q.2, λ s b keep h. no_room_read s c.args.words.now c.args.log.now b c.args.self c.args.number keep h (ltb-true _ _ (sym c.in-Some.ensures.lookup.0)) q.0)

pub returns : goal.returns
returns c = let q = c.in_ok-on.ensures in
    let k = c.in-Some.ensures.lookup in
    let some = ltb-true _ _ (sym k.0) in
    let word : c.in-Some.field-0.now ≡ get_or c.args.words.now c.args.self.taken 0 = k.1 ∙ get_or_default_zero c.args.words.now c.args.self.taken _ some in
    rw (q.1, q.2, word) (refl, λ s b keep h. reads s c.args.words.now c.args.log.now b c.args.self c.args.number keep h some q.0)
