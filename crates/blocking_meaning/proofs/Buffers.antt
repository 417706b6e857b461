-- The buffer law.
use Prim.Native.Nat.{ℕ, zero, suc, ◌+◌, ◌≤◌, zero-le}
use mathlib.Core.Path.{◌≡◌, refl, sym, ap, ◌∙◌, subst}
use mathlib.Core.Bool.{Bool, true, false, cond}
use mathlib.Core.List.{List, [], ◌∷◌}
use native.Mathlib.Nat.{add-zero}
use native.Mathlib.Numerals.{add-one}
use native.Mathlib.Omega.{arith}
use lib.Dec.{eqb}
use lib.ListN.{length, get_or, set}
use lib.Seq.{sets}
use Rattle.std.specs.Prelude.{Result, Ok, Err}
use Rattle.registers.specs.Answers.{Said, says}
use Rattle.registers.specs.Words.{received}
use Rattle.parked.specs.declared.kinds.Kind.{Kind}
use Rattle.parked.specs.declared.kinds.Kind.TheVariants.{Write, Read, WriteRead, ReadBack, SlaveWrite, SlaveRead, SlaveWaitAddressed}
use Rattle.parked.specs.declared.phases.Opening.{Opening}
use Rattle.parked.specs.declared.phases.Opening.TheVariants.{Start, Drain, Modify, Setup, Flush, Release, Probe, Drop}
use Rattle.parked.specs.declared.phases.Phase.{Phase}
use Rattle.parked.specs.declared.phases.Phase.TheVariants.{Open, Wait, Transfer, Restart, TcrFound, NackNextByte, ClearBerr, ClearArlo, ClearNackf, ClearStopf, FlushTxis, FlushDummy, FlushTxe, FlushEmpty, Listen, Code, Ended}
use Rattle.parked.specs.declared.phases.End.{End}
use Rattle.parked.specs.declared.phases.End.TheVariants.{OutOfWords, LogFull, BadLength, Berr, Arlo, Addr, Stopf, Addressed}
use Rattle.parked.specs.declared.next_access.Next.{Next}
use Rattle.parked.specs.declared.next_access.Next.TheVariants.{Read as ReadA, Write as WriteA}
use Rattle.parked.specs.declared.Parked.{Parked}
use Rattle.parked.specs.Kinds.{incoming, restarts}
use Rattle.parked.specs.NextAccess.{span, more, byte_access, access_at, next_access}
use Rattle.parked.specs.Opening.{opening_access}
use Rattle.parked.specs.BusyWait.{full_frame, addr_answer, stop_answer, answer}
use Rattle.parked.specs.After.{begins_as, moves_as, second_half_begins, byte_moves, after}
use Rattle.parked.specs.Phases.{count_effect}
use Rattle.parked.specs.Refusals.{wrong}
use Rattle.blocking_meaning.specs.Run.{RunOutcome, with_byte, step, full, next, runs, run_outcome}
use Rattle.blocking_meaning.specs.BufferLaw.{receiving, received_in, received_bytes, next_place, BufferLaw}
use Rattle.blocking_meaning.proofs.OneAccess.{outcome_wrong, outcome_right}
use Rattle.blocking_meaning.proofs.Sound.{Sound, sound_of, kept_run}

abbrev keeps : Result Next End → Bool
keeps (Ok (ReadA o k)) = k
keeps (Ok (WriteA o w)) = false
keeps (Err a) = false

abbrev place_as : Kind → ℕ → ℕ
place_as k i = cond (incoming k) i 0

-- the kind and the count after an access at a phase
abbrev kind_as : Phase → Parked → Kind
kind_as f p = cond (begins_as (count_effect f) (restarts p.kind)) ReadBack p.kind

abbrev count_as : Phase → Parked → ℕ
count_as f p = cond (begins_as (count_effect f) (restarts p.kind)) 0 (cond (moves_as (count_effect f) (more p)) (p.count + 1) p.count)

-- how an access moves the place: by 1 where the byte is kept, which then goes to the place of the count
record Moved (keep : Bool) (p : Parked) (here next : ℕ) : Type 0 where
  on : next ≡ cond keep (suc here) here
  at : keep ≡ true → here ≡ p.count

same : {p : Parked} {here next : ℕ} → next ≡ here → Moved false p here next
same e = record { on = e; at = λ h. cc }

opened : (o : Opening) (p : Parked) → Moved (keeps (Ok (opening_access o p))) p (place_as p.kind p.count) (place_as p.kind p.count)
opened Start p = same refl
opened Drain p = same refl
opened Modify p = same refl
opened (Setup w) p = same refl
opened Flush p = same refl
opened Release p = same refl
opened Probe p = same refl
opened Drop p = same refl

byte : (t u : Bool) (p : Parked) (x : ℕ) → Moved (keeps (Ok (byte_access t u x))) p (cond t p.count 0) (cond t (cond u (p.count + 1) p.count) 0)
byte true true p x = record { on = add-one p.count; at = λ h. refl }
byte true false p x = record { on = refl; at = λ h. refl }
byte false u p x = same refl

restarted : (k : Kind) (i : ℕ) → place_as (cond (restarts k) ReadBack k) (cond (restarts k) 0 i) ≡ place_as k i
restarted Write i = refl
restarted Read i = refl
restarted WriteRead i = refl
restarted ReadBack i = refl
restarted SlaveWrite i = refl
restarted SlaveRead i = refl
restarted SlaveWaitAddressed i = refl

moved_at : (f : Phase) (p : Parked) (x : ℕ) → Moved (keeps (access_at f p x)) p (place_as p.kind p.count) (place_as (kind_as f p) (count_as f p))
moved_at (Open o) p x = opened o p
moved_at Wait p x = same refl
moved_at Transfer p x = byte (incoming p.kind) (more p) p x
moved_at Restart p x = same (restarted p.kind p.count)
moved_at TcrFound p x = same refl
moved_at (NackNextByte w) p x = same refl
moved_at ClearBerr p x = same refl
moved_at ClearArlo p x = same refl
moved_at ClearNackf p x = same refl
moved_at ClearStopf p x = same refl
moved_at FlushTxis p x = same refl
moved_at FlushDummy p x = same refl
moved_at FlushTxe p x = same refl
moved_at FlushEmpty p x = same refl
moved_at Listen p x = same refl
moved_at Code p x = same refl
moved_at (Ended e) p x = same refl

moved : (p : Parked) (w x : ℕ) → Moved (keeps (next_access p x)) p (next_place p) (next_place (after p w))
unfolding next_access after second_half_begins byte_moves next_place
moved p w x = moved_at p.phase p x

-- what a run did to the buffer and to the place
record Filled (b : List ℕ) (p : Parked) (h : List ℕ) (q : RunOutcome) : Type 0 where
  bytes : q.buffer ≡ sets b (next_place p) h
  count : next_place q.parked ≡ next_place p + length h

module _ (s : List ℕ) where
  full_filled : (p : Parked) (b : List ℕ) (a : Result Next End) (ws : List ℕ) → Filled b p [] (full a ws p b)
  full_filled p b (Err e) ws = record { bytes = refl; count = sym (add-zero (next_place p)) }
  full_filled p b (Ok (ReadA o k)) [] = record { bytes = refl; count = sym (add-zero (next_place p)) }
  full_filled p b (Ok (ReadA o k)) (w ∷ ws) = record { bytes = refl; count = sym (add-zero (next_place p)) }
  full_filled p b (Ok (WriteA o w)) ws = record { bytes = refl; count = sym (add-zero (next_place p)) }

  step_filled : (n : ℕ) → ((p : Parked) (b ws : List ℕ) → Filled b p (received_in s n p ws) (runs s n p b ws))
      → (p : Parked) (b : List ℕ) (a : Result Next End) → ((w : ℕ) → Moved (keeps a) p (next_place p) (next_place (after p w))) → (ws : List ℕ)
      → Filled b p (receiving a ws p (received_in s n)) (step a ws p b (runs s n))
  step_filled n ih p b (Err e) h ws = record { bytes = refl; count = sym (add-zero (next_place p)) }
  step_filled n ih p b (Ok (ReadA o k)) h [] = record { bytes = refl; count = sym (add-zero (next_place p)) }
  step_filled n ih p b (Ok (ReadA o true)) h (w ∷ ws) =
      let r = ih (after p w) (set b p.count (received w)) ws in
      record {
        bytes =
            r.bytes
            ∙ ap (λ (i : ℕ). sets (set b p.count (received w)) i (received_in s n (after p w) ws)) (h w).on
            ∙ ap (λ (i : ℕ). sets (set b i (received w)) (suc (next_place p)) (received_in s n (after p w) ws)) (sym ((h w).at refl));
        count = omega (arith, r.count, (h w).on);
      }
  step_filled n ih p b (Ok (ReadA o false)) h (w ∷ ws) =
      let r = ih (after p w) b ws in
      record { bytes = r.bytes ∙ ap (λ (i : ℕ). sets b i (received_in s n (after p w) ws)) (h w).on; count = omega (arith, r.count, (h w).on) }
  step_filled n ih p b (Ok (WriteA o w)) h ws =
      let r = ih (after p 0) b ws in
      record { bytes = r.bytes ∙ ap (λ (i : ℕ). sets b i (received_in s n (after p 0) ws)) (h 0).on; count = omega (arith, r.count, (h 0).on) }

  filled : (n : ℕ) (p : Parked) (b ws : List ℕ) → Filled b p (received_in s n p ws) (runs s n p b ws)
  unfolding runs received_in
  filled zero p b ws = full_filled p b (next s p) ws
  filled (suc n) p b ws = step_filled n (filled n) p b (next s p) (λ w. moved p w _) ws

  filled_as : (n : ℕ) (p : Parked) (b ws : List ℕ) (t : Bool) → wrong p (length s) (length b) ≡ t → Filled b p (received_bytes s n p b ws) (run_outcome s n p b ws)
  unfolding received_bytes run_outcome
  filled_as n p b ws true e = rw e (record { bytes = refl; count = sym (add-zero (next_place p)) })
  filled_as n p b ws false e = rw e (filled n p b ws)

-- an answer 5 has the count of the call that has ended
abbrev Told : RunOutcome → Type 0
Told q = (x : ℕ) → q.answer ≡ says 5 (x ∷ []) → x ≡ q.parked.count

not_five : {n x y : ℕ} {xs : List ℕ} → (n ≡ 5 → ⊥) → says n xs ≡ says 5 (x ∷ []) → x ≡ y
not_five h e = absurd (h (ap (λ (a : Said). a.number) e))

five : {i x : ℕ} → says 5 (i ∷ []) ≡ says 5 (x ∷ []) → x ≡ i
five e = sym (ap (λ (a : Said). get_or a.values 0 0) e)

ended_told : (end : End) (p : Parked) (t u : Bool) → full_frame p ≡ t → eqb p.count 0 ≡ u → (x : ℕ) → answer end p ≡ says 5 (x ∷ []) → x ≡ p.count
unfolding addr_answer stop_answer
ended_told OutOfWords p t u h k x e = not_five (λ z. omega arith) e
ended_told LogFull p t u h k x e = not_five (λ z. omega arith) e
ended_told BadLength p t u h k x e = not_five (λ z. omega arith) e
ended_told Berr p t u h k x e = not_five (λ z. omega arith) e
ended_told Arlo p t u h k x e = not_five (λ z. omega arith) e
ended_told Addr p true u h k x e = not_five (λ z. omega arith) (rw h at e)
ended_told Addr p false u h k x e = five (rw h at e)
ended_told Stopf p true u h k x e = not_five (λ z. omega arith) (rw h at e)
ended_told Stopf p false true h k x e = not_five (λ z. omega arith) (rw (h, k) at e)
ended_told Stopf p false false h k x e = five (rw (h, k) at e)
ended_told (Addressed isr) p t u h k x e = not_five (λ z. omega arith) e

module _ (s : List ℕ) where
  full_told : (p : Parked) (b : List ℕ) (a : Result Next End) (ws : List ℕ) → Told (full a ws p b)
  full_told p b (Err end) ws x e = ended_told end p (full_frame p) (eqb p.count 0) refl refl x e
  full_told p b (Ok (ReadA o k)) [] x e = not_five (λ z. omega arith) e
  full_told p b (Ok (ReadA o k)) (w ∷ ws) x e = not_five (λ z. omega arith) e
  full_told p b (Ok (WriteA o w)) ws x e = not_five (λ z. omega arith) e

  step_told : (n : ℕ) → ((p : Parked) (b ws : List ℕ) → Told (runs s n p b ws))
      → (p : Parked) (b : List ℕ) (a : Result Next End) (ws : List ℕ) → Told (step a ws p b (runs s n))
  step_told n ih p b (Err end) ws x e = ended_told end p (full_frame p) (eqb p.count 0) refl refl x e
  step_told n ih p b (Ok (ReadA o k)) [] x e = not_five (λ z. omega arith) e
  step_told n ih p b (Ok (ReadA o k)) (w ∷ ws) x e = ih (after p w) (with_byte k p.count w b) ws x e
  step_told n ih p b (Ok (WriteA o w)) ws x e = ih (after p 0) b ws x e

  told : (n : ℕ) (p : Parked) (b ws : List ℕ) → Told (runs s n p b ws)
  unfolding runs
  told zero p b ws = full_told p b (next s p) ws
  told (suc n) p b ws = step_told n (told n) p b (next s p) ws

  told_as : (n : ℕ) (p : Parked) (b ws : List ℕ) (t : Bool) → wrong p (length s) (length b) ≡ t → Told (run_outcome s n p b ws)
  told_as n p b ws true e = rw (outcome_wrong s p b ws n e) (λ x h. not_five (λ z. omega arith) h)
  told_as n p b ws false e = rw (outcome_right s p b ws n e) (told n p b ws)

-- the place of the next byte is in the buffer, or just behind its last byte
below : (t : Bool) (c r s m : ℕ) → c ≤ cond t r s → r ≡ m → cond t c 0 ≤ m
below true c r s m h e = omega (arith, h, e)
below false c r s m h e = zero-le

place_below : (n m : ℕ) (q : Parked) → Sound n m q → next_place q ≤ m
unfolding next_place span
place_below n m q h = below (incoming q.kind) q.count q.receive q.send m h.low h.receives

inside_as : (s : List ℕ) (n : ℕ) (p : Parked) (b ws : List ℕ) → wrong p (length s) (length b) ≡ false → next_place (run_outcome s n p b ws).parked ≤ length b
inside_as s n p b ws e = rw (outcome_right s p b ws n e) (place_below (length s) (length b) _ (kept_run s n p b ws (sound_of p (length s) (length b) e)).sound)

pub buffer_law : BufferLaw
buffer_law = record {
  filled = λ s n p b ws. (filled_as s n p b ws (wrong p (length s) (length b)) refl).bytes;
  inside = λ s n p b ws e. subst (λ (x : ℕ). x ≤ length b) (filled_as s n p b ws (wrong p (length s) (length b)) refl).count (inside_as s n p b ws e);
  counted = λ s n p b ws. (filled_as s n p b ws (wrong p (length s) (length b)) refl).count;
  frame_count = λ s n p b ws x e. told_as s n p b ws (wrong p (length s) (length b)) refl x e;
}
