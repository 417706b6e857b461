-- `registers::construct::write_set_up` meets its contract: of all that may be written, so much as there are own addresses is what the definition joins.
use Prim.Native.Nat.{ℕ, ◌+◌, ◌*◌}
use mathlib.Core.Path.{◌≡◌, refl}
use mathlib.Core.Bool.{Bool, true, false, cond}
use mathlib.Core.List.{List, [], ◌∷◌}
use lib.ListN.{get_or, take}
use Rattle.registers.specs.Answers.{says}
use Rattle.registers.specs.CallLog.{read, write, tried, tried_accesses}
use Rattle.registers.specs.Layout.{CR1, TIMINGR}
use Rattle.registers.specs.Words.{byte_control}
use Rattle.registers.specs.Construct.{own_addresses}
use Rattle.registers.specs.Field.{digit}
use Rattle.std.proofs.Common.{rules}
use Rattle.registers.proofs.construct.write_set_up.Goals as goal

joined : (off disabled timing on configured oar1 oar2 : ℕ) (words : List ℕ) (first second : Bool) (n places : ℕ)
    → tried (says 0 []) (2 + (digit first + digit second)) (take (10 + 6 * (digit first + digit second))
    (0x00 ∷ off ∷ 0x100 ∷ disabled ∷ 0x110 ∷ timing ∷ 0x00 ∷ on ∷ 0x100 ∷ configured
    ∷ (cond {A = ℕ × ℕ} first (0x108, oar1) (0x10C, oar2)).0 ∷ (cond {A = ℕ × ℕ} first (0x108, oar1) (0x10C, oar2)).1 ∷ 0x00 ∷ get_or words 2 0 ∷ 0x100 ∷ byte_control (get_or words 2 0) true
    ∷ 0x10C ∷ oar2 ∷ 0x00 ∷ get_or words 3 0 ∷ 0x100 ∷ byte_control (get_or words 3 0) true ∷ [])) n places
    ≡ tried_accesses (says 0 []) (read CR1 off ∷ write CR1 disabled ∷ write TIMINGR timing ∷ read CR1 on ∷ write CR1 configured ∷ own_addresses first second oar1 oar2 words) n places
joined off disabled timing on configured oar1 oar2 words false false n places = refl
joined off disabled timing on configured oar1 oar2 words false true n places = refl
joined off disabled timing on configured oar1 oar2 words true false n places = refl
joined off disabled timing on configured oar1 oar2 words true true n places = refl

pub returns : goal.returns
returns c = record { report = rw (← joined _ _ _ _ _ _ _ _ _ _ _ _, ← c.word_at-second.ensures, ← c.word_at-first.ensures, ← c.word_at-on.ensures, ← c.word_at-off.ensures, ← c.own_second-oar2.ensures, ← c.first_written-own_register.ensures, ← c.switch.ensures, ← c.configured.ensures, ← c.switch-2.ensures, ← c.switch-3.ensures, ← c.own_addresses-own.ensures.number) c.log_call.ensures.report; logged = search rules }
