-- The word that starts a transfer has START set.
use Prim.Native.Nat.{ℕ}
use mathlib.Core.Path.{◌≡◌, ◌∙◌}
use mathlib.Core.Logic.{inl, inr}
use mathlib.Core.Bool.{Bool, true}
use native.Mathlib.Omega.{arith}
use borrow.Author.Tests.{eq-eqb}
use Rattle.registers.specs.Field.{is_set}
use Rattle.registers.specs.Layout.{field_of, SADD, RD-WRN, START, NBYTES, RELOAD, AUTOEND, ◌⟨◌≔◌⟩, ◌⟨◌⟩}
use Rattle.registers.specs.Field.{digit}
use Rattle.registers.specs.Words.{starting, started}
use Rattle.registers.proofs.HandedOn.{put_lt, get-put, get_other}

-- START is put first, and no field put after it touches it
pub start_set : (sadd n : ℕ) (read autoend : Bool) → starting (started 0 sadd n read autoend) ≡ true
unfolding started is_set
start_set sadd n read autoend =
    let s : ℕ = 0 ⟨ START ≔ 1 ⟩ in
    let a : ℕ = s ⟨ NBYTES ≔ n ⟩ in
    let b : ℕ = a ⟨ SADD ≔ sadd ⟩ in
    let c : ℕ = b ⟨ RD-WRN ≔ digit read ⟩ in
    let d : ℕ = c ⟨ AUTOEND ≔ digit autoend ⟩ in
    eq-eqb (d ⟨ RELOAD ≔ 0 ⟩ ⟨ START ⟩) 1
    (get_other d (field_of RELOAD) 0 (omega arith) (put_lt c (field_of AUTOEND) (digit autoend)) (field_of START) (inr (omega arith))
    ∙ get_other c (field_of AUTOEND) (digit autoend) (omega arith) (put_lt b (field_of RD-WRN) (digit read)) (field_of START) (inr (omega arith))
    ∙ get_other b (field_of RD-WRN) (digit read) (omega arith) (put_lt a (field_of SADD) sadd) (field_of START) (inl (omega arith))
    ∙ get_other a (field_of SADD) sadd (omega arith) (put_lt s (field_of NBYTES) n) (field_of START) (inl (omega arith))
    ∙ get_other s (field_of NBYTES) n (omega arith) (put_lt 0 (field_of START) 1) (field_of START) (inr (omega arith))
    ∙ get-put 0 (field_of START) 1 (omega arith) (omega arith))
