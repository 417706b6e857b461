-- What a run keeps, over words of 32 bits: the call's address is a byte and its phase's word has 32 bits, as seven numbers hold them. And a run that is not
-- refused at once answers neither 6 nor 11.
use Prim.Native.Nat.{ℕ, zero, suc, ◌<◌}
use mathlib.Core.Path.{◌≡◌, refl, sym, subst}
use mathlib.Core.Bool.{Bool, true, false, cond, not}
use borrow.Author.Tests.{eqb-true}
use mathlib.Core.List.{List, [], ◌∷◌, ◌++◌}
use native.Mathlib.Omega.{arith}
use lib.Dec.{eqb}
use lib.ListN.{drop, length-append, get_or-append, length-drop}
use lib.Seq.{get_or-drop}
use Rattle.std.specs.Prelude.{Result, Ok, Err, Option, Some, None, All}
use Rattle.registers.specs.Answers.{Said}
use Rattle.registers.specs.Layout.{TXE, TXIS, ADDR, RXNE, ◌has◌}
use Rattle.registers.specs.Words.{starting}
use Rattle.parked.specs.declared.kinds.Kind.{Kind}
use Rattle.parked.specs.declared.kinds.Kind.TheVariants.{Write, Read, WriteRead, ReadBack, SlaveWrite, SlaveRead, SlaveWaitAddressed}
use Rattle.parked.specs.declared.busy_wait.Found.{Found}
use Rattle.parked.specs.declared.busy_wait.Found.TheVariants.{Wanted as Met, Berr as MetBerr, Arlo as MetArlo, Nackf as MetNackf, Tcr as MetTcr, Addr as MetAddr, Stopf as MetStopf}
use Rattle.parked.specs.declared.phases.Opening.{Opening}
use Rattle.parked.specs.declared.phases.Opening.TheVariants.{Start, Drain, Modify, Setup, Flush, Release, Probe, Drop}
use Rattle.parked.specs.declared.phases.End.{End}
use Rattle.parked.specs.declared.phases.End.TheVariants.{OutOfWords, LogFull, BadLength, Berr, Arlo, Addr, Stopf, Addressed}
use Rattle.parked.specs.declared.phases.Phase.{Phase}
use Rattle.parked.specs.declared.phases.Phase.TheVariants.{Open, Wait, Transfer, Restart, TcrFound, NackNextByte, ClearBerr, ClearArlo, ClearNackf, ClearStopf, FlushTxis, FlushDummy, FlushTxe, FlushEmpty, Listen, Code, Ended}
use Rattle.parked.specs.declared.next_access.Next.{Next}
use Rattle.parked.specs.declared.next_access.Next.TheVariants.{Read as ReadNext, Write as WriteNext}
use Rattle.parked.specs.declared.Parked.{Parked}
use Rattle.parked.specs.Kinds.{pads}
use Rattle.parked.specs.Opening.{after_start, after_setup, after_flush, after_release, after_opening}
use Rattle.parked.specs.NextAccess.{more, access_at, next_access}
use Rattle.parked.specs.BusyWait.{found_in, wanted, tc_wait, after_wanted, after_found, full_frame, addr_answer, stop_answer, answer}
use Rattle.parked.specs.After.{phase_at, after}
use Rattle.parked.specs.Refusals.{ended, wrong}
use Rattle.blocking_meaning.specs.Run.{RunOutcome, with_byte, step, full, next, runs}
use Rattle.c_numbers.specs.ParkedCall.{phase_number, phase_word, end_number, refused}

abbrev pub Small : ℕ → Type 0
Small w = w < 4294967296

pub none : Small 0
none = omega arith

-- the words of a list, of its rest, of its front
pub small_rest : (n : ℕ) (ws : List ℕ) → All Small ws → All Small (drop n ws)
small_rest n ws h k d l = subst Small (sym (get_or-drop n ws k d)) (h _ d (omega (arith, l, length-drop n ws)))

pub small_front : (us ws : List ℕ) → All Small (us ++ ws) → All Small us
small_front us ws h k d l = subst Small (get_or-append us ws d k l) (h k d (omega (arith, l, length-append us ws)))

small_first : (w : ℕ) (ws : List ℕ) → All Small (w ∷ ws) → Small w
small_first w ws h = h 0 0 (omega arith)

small_next : (w : ℕ) (ws : List ℕ) → All Small (w ∷ ws) → All Small ws
small_next w ws h k d l = h (suc k) d (omega (arith, l))

-- a call that is not wrong has not ended
unended_at : (t u : Bool) → cond t true u ≡ false → t ≡ false
unended_at true u e = cc
unended_at false u e = refl

pub unended : (p : Parked) (n m : ℕ) → wrong p n m ≡ false → ended p ≡ false
unfolding wrong
unended p n m e = unended_at (ended p) _ e

-- a phase that a run can be at: its word has 32 bits, and it is not the end of a call refused with 6
pub record Fine (f : Phase) : Type 0 where
  pub word : Small (phase_word f)
  pub taken : eqb (phase_number f) 25 ≡ false

fine_if : (t : Bool) (f g : Phase) → Fine f → Fine g → Fine (cond t f g)
fine_if true f g a b = a
fine_if false f g a b = b

-- most phases have no word
abbrev plain : Phase → Bool
plain f = cond (eqb (phase_word f) 0) (not (eqb (phase_number f) 25)) false

both : (t u : Bool) → cond t (not u) false ≡ true → (t ≡ true) × (u ≡ false)
both true true e = cc
both true false e = (refl, refl)
both false u e = cc

wordless : (f : Phase) → plain f ≡ true → Fine f
wordless f e = let h = both (eqb (phase_word f) 0) (eqb (phase_number f) 25) e in record { word = rw (eqb-true _ _ h.0) none; taken = h.1 }

pub by_kind : (P : Kind → Type 0) → P Write → P Read → P WriteRead → P ReadBack → P SlaveWrite → P SlaveRead → P SlaveWaitAddressed → (k : Kind) → P k
by_kind P a b c d e f g Write = a
by_kind P a b c d e f g Read = b
by_kind P a b c d e f g WriteRead = c
by_kind P a b c d e f g ReadBack = d
by_kind P a b c d e f g SlaveWrite = e
by_kind P a b c d e f g SlaveRead = f
by_kind P a b c d e f g SlaveWaitAddressed = g

fine_start : (k : Kind) → Fine (Open (after_start k))
fine_start k = wordless _ (by_kind (λ j. plain (Open (after_start j)) ≡ true) refl refl refl refl refl refl refl k)

fine_setup : (k : Kind) → Fine (after_setup k)
fine_setup k = wordless _ (by_kind (λ j. plain (after_setup j) ≡ true) refl refl refl refl refl refl refl k)

fine_flush : (k : Kind) → Fine (Open (after_flush k))
fine_flush k = wordless _ (by_kind (λ j. plain (Open (after_flush j)) ≡ true) refl refl refl refl refl refl refl k)

fine_release : (k : Kind) → Fine (after_release k)
fine_release k = wordless _ (by_kind (λ j. plain (after_release j) ≡ true) refl refl refl refl refl refl refl k)

fine_opening : (o : Opening) (k : Kind) (w : ℕ) → Small w → Fine (after_opening o k w)
fine_opening Start k w h = fine_if (starting w) _ _ (wordless _ refl) (fine_start k)
fine_opening Drain k w h = wordless _ refl
fine_opening Modify k w h = record { word = h; taken = refl }
fine_opening (Setup cr2) k w h = fine_setup k
fine_opening Flush k w h = fine_flush k
fine_opening Release k w h = fine_release k
fine_opening Probe k w h = fine_if (w has RXNE) _ _ (wordless _ refl) (wordless _ refl)
fine_opening Drop k w h = wordless _ refl

fine_wanted : (p : Parked) → Fine (after_wanted p)
fine_wanted p =
    fine_if (tc_wait p) _ _ (wordless _ refl)
    (fine_if (pads p.kind) _ _ (wordless _ refl) (fine_if (more p) _ _ (wordless _ refl) (wordless _ refl)))

fine_found : (o : Option Found) (p : Parked) → Fine (after_found o p)
fine_found (Some Met) p = fine_wanted p
fine_found (Some MetBerr) p = wordless _ refl
fine_found (Some MetArlo) p = wordless _ refl
fine_found (Some MetNackf) p = wordless _ refl
fine_found (Some MetTcr) p = wordless _ refl
fine_found (Some MetAddr) p = wordless _ refl
fine_found (Some MetStopf) p = wordless _ refl
fine_found None p = wordless _ refl

fine_at : (f : Phase) (p : Parked) (w : ℕ) → Small w → Fine f → Fine (phase_at f p w)
fine_at (Open o) p w h a = fine_opening o p.kind w h
fine_at Wait p w h a = fine_found (found_in w (wanted p)) p
fine_at Transfer p w h a = wordless _ refl
fine_at Restart p w h a = wordless _ refl
fine_at TcrFound p w h a = record { word = h; taken = refl }
fine_at (NackNextByte cr2) p w h a = wordless _ refl
fine_at ClearBerr p w h a = wordless _ refl
fine_at ClearArlo p w h a = wordless _ refl
fine_at ClearNackf p w h a = wordless _ refl
fine_at ClearStopf p w h a = wordless _ refl
fine_at FlushTxis p w h a = fine_if (w has TXIS) _ _ (wordless _ refl) (wordless _ refl)
fine_at FlushDummy p w h a = wordless _ refl
fine_at FlushTxe p w h a = fine_if (w has TXE) _ _ (wordless _ refl) (wordless _ refl)
fine_at FlushEmpty p w h a = wordless _ refl
fine_at Listen p w h a = fine_if (w has ADDR) _ _ (wordless _ refl) (wordless _ refl)
fine_at Code p w h a = record { word = h; taken = refl }
fine_at (Ended end) p w h a = a

-- what is answered at an end
refused_if : (t : Bool) (a b : Said) → refused a ≡ false → refused b ≡ false → refused (cond t a b) ≡ false
refused_if true a b e f = e
refused_if false a b e f = f

answers : (end : End) (p : Parked) → eqb (end_number end) 25 ≡ false → refused (answer end p) ≡ false
unfolding addr_answer stop_answer
answers OutOfWords p e = refl
answers LogFull p e = refl
answers BadLength p e = cc
answers Berr p e = refl
answers Arlo p e = refl
answers Addr p e = refused_if (full_frame p) _ _ refl refl
answers Stopf p e = refused_if (full_frame p) _ _ refl (refused_if (eqb p.count 0) _ _ refl refl)
answers (Addressed isr) p e = refl

-- the phase is that of the end that is named
end_of : (f : Phase) (p : Parked) (byte : ℕ) (end : End) → access_at f p byte ≡ Err end → f ≡ Ended end
end_of (Open o) p byte end e = cc
end_of Wait p byte end e = cc
end_of Transfer p byte end e = cc
end_of Restart p byte end e = cc
end_of TcrFound p byte end e = cc
end_of (NackNextByte w) p byte end e = cc
end_of ClearBerr p byte end e = cc
end_of ClearArlo p byte end e = cc
end_of ClearNackf p byte end e = cc
end_of ClearStopf p byte end e = cc
end_of FlushTxis p byte end e = cc
end_of FlushDummy p byte end e = cc
end_of FlushTxe p byte end e = cc
end_of FlushEmpty p byte end e = cc
end_of Listen p byte end e = cc
end_of Code p byte end e = cc
end_of (Ended x) p byte end e = cc

-- a call that seven numbers hold, at a phase that a run can be at
pub record Held (p : Parked) : Type 0 where
  pub address : p.address < 256
  pub fine : Fine p.phase

held_next : (p : Parked) (w : ℕ) → Small w → Held p → Held (after p w)
unfolding after
held_next p w h g = record { address = g.address; fine = fine_at p.phase p w h g.fine }

pub record Keeps (q : RunOutcome) : Type 0 where
  pub held : Held q.parked
  pub answered : refused q.answer ≡ false

module _ (s : List ℕ) where
  at_end : (p : Parked) (end : End) → next s p ≡ Err end → Held p → refused (answer end p) ≡ false
  unfolding next_access
  at_end p end e g = answers end p (subst (λ (f : Phase). eqb (phase_number f) 25 ≡ false) (end_of p.phase p _ end e) g.fine.taken)

  keeps_full : (p : Parked) (b : List ℕ) (a : Result Next End) → next s p ≡ a → (ws : List ℕ) → Held p → Keeps (full a ws p b)
  keeps_full p b (Err end) e ws g = record { held = g; answered = at_end p end e g }
  keeps_full p b (Ok (ReadNext o k)) e [] g = record { held = g; answered = refl }
  keeps_full p b (Ok (ReadNext o k)) e (w ∷ ws) g = record { held = g; answered = refl }
  keeps_full p b (Ok (WriteNext o w)) e ws g = record { held = g; answered = refl }

  keeps_step : (n : ℕ) → ((p : Parked) (b ws : List ℕ) → All Small ws → Held p → Keeps (runs s n p b ws))
      → (p : Parked) (b : List ℕ) (a : Result Next End) → next s p ≡ a → (ws : List ℕ) → All Small ws → Held p → Keeps (step a ws p b (runs s n))
  keeps_step n ih p b (Err end) e ws h g = record { held = g; answered = at_end p end e g }
  keeps_step n ih p b (Ok (ReadNext o k)) e [] h g = record { held = g; answered = refl }
  keeps_step n ih p b (Ok (ReadNext o k)) e (w ∷ ws) h g =
      let r = ih (after p w) (with_byte k p.count w b) ws (small_next w ws h) (held_next p w (small_first w ws h) g) in
      record { held = r.held; answered = r.answered }
  keeps_step n ih p b (Ok (WriteNext o w)) e ws h g =
      let r = ih (after p 0) b ws h (held_next p 0 none g) in record { held = r.held; answered = r.answered }

  pub keeps : (n : ℕ) (p : Parked) (b ws : List ℕ) → All Small ws → Held p → Keeps (runs s n p b ws)
  unfolding runs
  keeps zero p b ws h g = keeps_full p b (next s p) refl ws g
  keeps (suc n) p b ws h g = keeps_step n (keeps n) p b (next s p) refl ws h g
