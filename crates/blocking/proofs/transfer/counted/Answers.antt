-- `blocking::transfer::counted` meets its contract.
use Prim.Native.Nat.{◌+◌}
use mathlib.Core.Path.{sym, ap, ◌∙◌}
use mathlib.Core.Bool.{Bool, cond}
use borrow.Author.Rules.{rules}
use Rattle.parked.specs.declared.phases.Phase.TheVariants.{Wait}
use Rattle.parked.proofs.HandedOn.{more_fits, at_phase, after_byte}
use Rattle.blocking.proofs.transfer.counted.Goals as goal

pub overflow_add-result : goal.overflow_add-result
overflow_add-result c = record { fits = more_fits c.args.call _ (search rules) (search rules) (sym c.requires ∙ c.if-left.true) }

pub returns-then-left : goal.returns-then-left
returns-then-left c = λ w h. let p = c.args.call in after_byte p w h ∙ ap (λ (t : Bool). at_phase p Wait (cond t (p.count + 1) p.count)) (sym c.requires ∙ c.if-left.true)

pub returns-else-left : goal.returns-else-left
returns-else-left c = λ w h. let p = c.args.call in after_byte p w h ∙ ap (λ (t : Bool). at_phase p Wait (cond t (p.count + 1) p.count)) (sym c.requires ∙ c.if-left.false)
