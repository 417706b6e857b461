-- `parked::Parked::after` meets its contract: a count that rises stays below a length, which fits.
use mathlib.Core.Path.{sym, ◌∙◌}
use Rattle.parked.proofs.Counts.{moves_fits}
use borrow.Author.Rules.{rules}
use Rattle.parked.proofs.Parked.after.Goals as goal

pub overflow_add-result : goal.overflow_add-result
overflow_add-result c = record { fits = moves_fits c.args.self _ (search rules) (search rules) (sym c.byte_moves.ensures ∙ c.if-byte_moves.true) }
