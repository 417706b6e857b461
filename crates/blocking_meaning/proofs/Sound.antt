-- A call that is not wrong stays so until it has ended.
use Prim.Native.Nat.{ℕ, zero, suc, ◌+◌, ◌≤◌, zero-le}
use mathlib.Core.Path.{◌≡◌, refl, sym, ◌∙◌, subst}
use mathlib.Core.Bool.{Bool, true, false, cond}
use mathlib.Core.List.{List, [], ◌∷◌}
use native.Mathlib.Omega.{arith}
use borrow.Author.Tests.{eq-eqb, le-ltb, eqb-true, ltb-false}
use lib.Dec.{eqb, ltb}
use lib.ListN.{length, length-set}
use Rattle.std.specs.Prelude.{Result, Ok, Err}
use Rattle.registers.specs.Words.{received}
use Rattle.parked.specs.declared.kinds.Kind.{Kind}
use Rattle.parked.specs.declared.kinds.Kind.TheVariants.{Write, Read, WriteRead, ReadBack, SlaveWrite, SlaveRead, SlaveWaitAddressed}
use Rattle.parked.specs.declared.phases.CountEffect.{CountEffect}
use Rattle.parked.specs.declared.phases.CountEffect.TheVariants.{Byte, SecondHalf, Unchanged, NoAccess}
use Rattle.parked.specs.declared.phases.End.{End}
use Rattle.parked.specs.declared.next_access.Next.{Next}
use Rattle.parked.specs.declared.next_access.Next.TheVariants.{Read as ReadA, Write as WriteA}
use Rattle.parked.specs.declared.Parked.{Parked}
use Rattle.parked.specs.Kinds.{restarts}
use Rattle.parked.specs.NextAccess.{span}
use Rattle.parked.specs.After.{phase_at, begins_as, second_half_begins, byte_moves, after}
use Rattle.parked.specs.Phases.{count_effect}
use Rattle.parked.specs.Refusals.{begun, ended, wrong}
use Rattle.parked.specs.Kinds.{lengths}
use Rattle.blocking_meaning.specs.Run.{RunOutcome, with_byte, step, full, next, runs}
use Rattle.parked.proofs.HandedOn.{moves_below}

-- what is tested at the begin of a run
pub record Sound (n m : ℕ) (p : Parked) : Type 0 where
  pub sends : p.send ≡ n
  pub receives : p.receive ≡ m
  pub good : lengths p.kind n m ≡ true
  pub low : p.count ≤ span p

turned : (r : CountEffect) (t : Bool) → begins_as r t ≡ true → t ≡ true
turned Byte t e = cc
turned SecondHalf t e = e
turned Unchanged t e = cc
turned NoAccess t e = cc

-- the second half has the same slices
same_lengths : (k : Kind) (n m : ℕ) → restarts k ≡ true → lengths k n m ≡ lengths ReadBack n m
unfolding lengths
same_lengths Write n m e = cc
same_lengths Read n m e = cc
same_lengths WriteRead n m e = refl
same_lengths ReadBack n m e = cc
same_lengths SlaveWrite n m e = cc
same_lengths SlaveRead n m e = cc
same_lengths SlaveWaitAddressed n m e = cc

abbrev stepped : Bool → Bool → Parked → ℕ → Parked
stepped t u p w = record { kind = cond t ReadBack p.kind; address = p.address; send = p.send; receive = p.receive; phase = phase_at p.phase p w; count = cond t 0 (cond u (p.count + 1) p.count) }

module _ {n m : ℕ} where
  sound_as : (p : Parked) (w : ℕ) (t u : Bool) → second_half_begins p ≡ t → byte_moves p ≡ u → Sound n m p → Sound n m (stepped t u p w)
  unfolding second_half_begins span
  sound_as p w true u e f h =
      record {
        sends = h.sends;
        receives = h.receives;
        good = sym (same_lengths p.kind n m (turned (count_effect p.phase) (restarts p.kind) e)) ∙ h.good;
        low = zero-le;
      }
  sound_as p w false true e f h = record { sends = h.sends; receives = h.receives; good = h.good; low = omega (arith, moves_below p f) }
  sound_as p w false false e f h = record { sends = h.sends; receives = h.receives; good = h.good; low = h.low }

  pub sound_next : (p : Parked) (w : ℕ) → Sound n m p → Sound n m (after p w)
  unfolding after
  sound_next p w h = sound_as p w (second_half_begins p) (byte_moves p) refl refl h

pub length_kept : (k : Bool) (i w : ℕ) (b : List ℕ) → length (with_byte k i w b) ≡ length b
length_kept true i w b = length-set b i (received w)
length_kept false i w b = refl

-- a run keeps the call sound, and the buffer's length
pub record Kept (n : ℕ) (b : List ℕ) (q : RunOutcome) : Type 0 where
  pub sound : Sound n (length b) q.parked
  pub long : length q.buffer ≡ length b

module _ (s : List ℕ) where
  kept_full : (p : Parked) (b : List ℕ) (a : Result Next End) (ws : List ℕ) → Sound (length s) (length b) p → Kept (length s) b (full a ws p b)
  kept_full p b (Err a) ws h = record { sound = h; long = refl }
  kept_full p b (Ok (ReadA o k)) [] h = record { sound = h; long = refl }
  kept_full p b (Ok (ReadA o k)) (w ∷ ws) h = record { sound = h; long = refl }
  kept_full p b (Ok (WriteA o w)) ws h = record { sound = h; long = refl }

  kept_step : (n : ℕ) → ((p : Parked) (b ws : List ℕ) → Sound (length s) (length b) p → Kept (length s) b (runs s n p b ws))
      → (p : Parked) (b : List ℕ) (a : Result Next End) (ws : List ℕ) → Sound (length s) (length b) p → Kept (length s) b (step a ws p b (runs s n))
  kept_step n ih p b (Err a) ws h = record { sound = h; long = refl }
  kept_step n ih p b (Ok (ReadA o k)) [] h = record { sound = h; long = refl }
  kept_step n ih p b (Ok (ReadA o k)) (w ∷ ws) h =
      let e : length (with_byte k p.count w b) ≡ length b = length_kept k p.count w b in
      let r = ih (after p w) (with_byte k p.count w b) ws (subst (λ (m : ℕ). Sound (length s) m (after p w)) (sym e) (sound_next p w h)) in
      record { sound = subst (λ (m : ℕ). Sound (length s) m (runs s n (after p w) (with_byte k p.count w b) ws).parked) e r.sound; long = r.long ∙ e }
  kept_step n ih p b (Ok (WriteA o w)) ws h =
      let r = ih (after p 0) b ws (sound_next p 0 h) in record { sound = r.sound; long = r.long }

  pub kept_run : (n : ℕ) (p : Parked) (b ws : List ℕ) → Sound (length s) (length b) p → Kept (length s) b (runs s n p b ws)
  unfolding runs
  kept_run zero p b ws h = kept_full p b (next s p) ws h
  kept_run (suc n) p b ws h = kept_step n (kept_run n) p b (next s p) ws h

-- the test and what it says
pub right : (p : Parked) (n m : ℕ) → ended p ≡ false → Sound n m p → wrong p n m ≡ false
unfolding wrong
right p n m e h = rw (e, eq-eqb _ _ h.sends, eq-eqb _ _ h.receives, h.good) (le-ltb _ _ h.low)

-- a call that is begun
unended : (k : Kind) (address n m : ℕ) → ended (begun k address n m) ≡ false
unended Write address n m = refl
unended Read address n m = refl
unended WriteRead address n m = refl
unended ReadBack address n m = refl
unended SlaveWrite address n m = refl
unended SlaveRead address n m = refl
unended SlaveWaitAddressed address n m = refl

pub right_begun : (k : Kind) (address n m : ℕ) → lengths k n m ≡ true → wrong (begun k address n m) n m ≡ false
right_begun k address n m e = right (begun k address n m) n m (unended k address n m) (record { sends = refl; receives = refl; good = e; low = zero-le })

record Passed (t₂ t₃ t₄ t₅ : Bool) : Type 0 where
  two : t₂ ≡ true
  three : t₃ ≡ true
  four : t₄ ≡ true
  five : t₅ ≡ false

passed : (t₁ t₂ t₃ t₄ t₅ : Bool) → cond t₁ true (cond t₂ (cond t₃ (cond t₄ t₅ true) true) true) ≡ false → Passed t₂ t₃ t₄ t₅
passed true t₂ t₃ t₄ t₅ e = record { two = cc; three = cc; four = cc; five = cc }
passed false false t₃ t₄ t₅ e = record { two = cc; three = cc; four = cc; five = cc }
passed false true false t₄ t₅ e = record { two = cc; three = cc; four = cc; five = cc }
passed false true true false t₅ e = record { two = cc; three = cc; four = cc; five = cc }
passed false true true true t₅ e = record { two = refl; three = refl; four = refl; five = e }

pub sound_of : (p : Parked) (n m : ℕ) → wrong p n m ≡ false → Sound n m p
unfolding wrong
sound_of p n m e =
    let h = passed (ended p) (eqb p.send n) (eqb p.receive m) (lengths p.kind n m) (ltb (span p) p.count) e in
    record { sends = eqb-true _ _ h.two; receives = eqb-true _ _ h.three; good = h.four; low = ltb-false _ _ h.five }
