-- The cut law.
use Prim.Native.Nat.{ℕ, zero, suc, ◌+◌}
use mathlib.Core.Path.{◌≡◌, refl, sym, ap, ap₂, ◌∙◌, subst}
use mathlib.Core.Bool.{Bool, true, false}
use mathlib.Core.List.{List, [], ◌∷◌, ◌++◌, append_assoc, append-nil}
use native.Mathlib.Nat.{add-zero, zero-add}
use native.Mathlib.Numerals.{one-add}
use lib.ListN.{length, drop}
use Rattle.std.specs.Prelude.{Result, Ok, Err}
use Rattle.registers.specs.Answers.{Said, says}
use Rattle.parked.specs.declared.phases.End.{End}
use Rattle.parked.specs.declared.phases.End.TheVariants.{BadLength}
use Rattle.parked.specs.declared.phases.Phase.{Phase}
use Rattle.parked.specs.declared.phases.Phase.TheVariants.{Open, Wait, Transfer, Restart, TcrFound, NackNextByte, ClearBerr, ClearArlo, ClearNackf, ClearStopf, FlushTxis, FlushDummy, FlushTxe, FlushEmpty, Listen, Code, Ended}
use Rattle.parked.specs.declared.next_access.Next.{Next}
use Rattle.parked.specs.declared.next_access.Next.TheVariants.{Read, Write}
use Rattle.parked.specs.declared.Parked.{Parked}
use Rattle.parked.specs.After.{after}
use Rattle.parked.specs.Phases.{count_effect}
use Rattle.parked.specs.Refusals.{begun, is_nothing, ended, wrong}
use Rattle.parked.specs.declared.kinds.Kind.{Kind}
use Rattle.parked.specs.Kinds.{lengths}
use Rattle.blocking_meaning.specs.Run.{RunOutcome, without_access, joined, with_byte, step, full, next, runs, run_outcome, called}
use Rattle.blocking_meaning.specs.CutLaw.{Cut, accesses, unless_ended, cut_runs, growing_runs, all_words, Spare, CutLaw}
use Rattle.parked.proofs.HandedOn.{access_at_lem}
use Rattle.blocking_meaning.proofs.OneAccess.{some, run_over, run_out, full_read, full_write, outcome_wrong, outcome_right}
use Rattle.blocking_meaning.proofs.Grows.{grown_from_first}
use Rattle.blocking_meaning.proofs.Joins.{cut}
use Rattle.blocking_meaning.proofs.Sound.{Sound, kept_run, right, sound_of}

-- a run stops for a reason: with no more words, and no room that makes a difference, the call stays where it is
abbrev Stays : List ℕ → ℕ → List ℕ → RunOutcome → Type 0
Stays s m ws q = Spare m q → runs s m q.parked q.buffer (drop q.taken ws) ≡ without_access q.answer q.parked q.buffer

module _ (s : List ℕ) (m : ℕ) where
  stuck_read : (p : Parked) (b ws : List ℕ) (o : ℕ) (k : Bool) → next s p ≡ Ok (Read o k) → (length ws ≡ 0 → ⊥) → m ≡ 0 → runs s m p b ws ≡ without_access (says 10 []) p b
  stuck_read p b ws o k e some h = rw h (full_read s p b ws o k e some)

  stuck_write : (p : Parked) (b ws : List ℕ) (o w : ℕ) → next s p ≡ Ok (Write o w) → m ≡ 0 → runs s m p b ws ≡ without_access (says 10 []) p b
  stuck_write p b ws o w e h = rw h (full_write s p b ws o w e)

  stays_full : (p : Parked) (b : List ℕ) (a : Result Next End) → next s p ≡ a → (ws : List ℕ) → Stays s m ws (full a ws p b)
  stays_full p b (Err end) e ws h = run_over s p b m ws end e
  stays_full p b (Ok (Read o k)) e [] h = run_out s p b m [] o k e refl
  stays_full p b (Ok (Read o k)) e (w ∷ ws) h = stuck_read p b (w ∷ ws) o k e (some w ws) (h refl)
  stays_full p b (Ok (Write o w)) e ws h = stuck_write p b ws o w e (h refl)

  stays_step : (n : ℕ) → ((p : Parked) (b ws : List ℕ) → Stays s m ws (runs s n p b ws))
      → (p : Parked) (b : List ℕ) (a : Result Next End) → next s p ≡ a → (ws : List ℕ) → Stays s m ws (step a ws p b (runs s n))
  stays_step n ih p b (Err end) e ws h = run_over s p b m ws end e
  stays_step n ih p b (Ok (Read o k)) e [] h = run_out s p b m [] o k e refl
  stays_step n ih p b (Ok (Read o k)) e (w ∷ ws) h =
      let q : RunOutcome = runs s n (after p w) (with_byte k p.count w b) ws in
      ap (λ (j : ℕ). runs s m q.parked q.buffer (drop j (w ∷ ws))) (one-add q.taken) ∙ ih (after p w) (with_byte k p.count w b) ws h
  stays_step n ih p b (Ok (Write o w)) e ws h =
      let q : RunOutcome = runs s n (after p 0) b ws in
      ap (λ (j : ℕ). runs s m q.parked q.buffer (drop j ws)) (zero-add q.taken) ∙ ih (after p 0) b ws h

  stays : (n : ℕ) (p : Parked) (b ws : List ℕ) → Stays s m ws (runs s n p b ws)
  unfolding runs
  stays zero p b ws = stays_full p b (next s p) refl ws
  stays (suc n) p b ws = stays_step n (stays n) p b (next s p) refl ws

-- a call that has ended
data HasEnded (f : Phase) : Type 0 where
  has_ended : (end : End) → f ≡ Ended end → HasEnded f

ended_at : (f : Phase) (end : End) → is_nothing (count_effect f) ≡ true → HasEnded f
ended_at (Open o) x e = has_ended x (cc)
ended_at Wait x e = has_ended x (cc)
ended_at Transfer x e = has_ended x (cc)
ended_at Restart x e = has_ended x (cc)
ended_at TcrFound x e = has_ended x (cc)
ended_at (NackNextByte w) x e = has_ended x (cc)
ended_at ClearBerr x e = has_ended x (cc)
ended_at ClearArlo x e = has_ended x (cc)
ended_at ClearNackf x e = has_ended x (cc)
ended_at ClearStopf x e = has_ended x (cc)
ended_at FlushTxis x e = has_ended x (cc)
ended_at FlushDummy x e = has_ended x (cc)
ended_at FlushTxe x e = has_ended x (cc)
ended_at FlushEmpty x e = has_ended x (cc)
ended_at Listen x e = has_ended x (cc)
ended_at Code x e = has_ended x (cc)
ended_at (Ended end) x e = has_ended end refl

-- it gives the same answer over any words, with any room
same_answer : (s : List ℕ) (p : Parked) (b us ws : List ℕ) (k : ℕ) (a : Said) → HasEnded p.phase → runs s 0 p b us ≡ without_access a p b → runs s k p b ws ≡ without_access a p b
same_answer s p b us ws k a (has_ended end h) e =
    let o : next s p ≡ Err end = access_at_lem p _ (Ended end) h in
    run_over s p b k ws end o ∙ sym (run_over s p b 0 us end o) ∙ e

module _ (s : List ℕ) (n : ℕ) (p : Parked) (b ws : List ℕ) where
  abbrev ran : RunOutcome
  ran = runs s n p b ws

  -- with more words and no more room than its accesses, a run that ends the call is the same
  same_end : (us : List ℕ) (x : End) → ended ran.parked ≡ true → runs s (accesses ran.numbers) p b (ws ++ us) ≡ ran
  same_end us x h =
      sym (ap (λ (k : ℕ). runs s k p b (ws ++ us)) (add-zero (accesses ran.numbers)))
      ∙ cut s n 0 us p b ws
      ∙ ap (joined ran.taken ran.numbers)
      (same_answer s ran.parked ran.buffer (drop ran.taken ws) (drop ran.taken ws ++ us) 0 ran.answer (ended_at ran.parked.phase x h) (stays s 0 n p b ws (λ e. refl)))
      ∙ ap₂ (λ (t : ℕ) (l : List ℕ). record { answer = ran.answer; parked = ran.parked; taken = t; numbers = l; buffer = ran.buffer }) (add-zero ran.taken) (append-nil ran.numbers)

  -- just the room that it needs, and spare room
  enough_run : (m : ℕ) → Spare m ran → runs s (accesses ran.numbers + m) p b ws ≡ ran
  enough_run m h =
      sym (ap (runs s (accesses ran.numbers + m) p b) (append-nil ws))
      ∙ cut s n m [] p b ws
      ∙ ap (λ (x : List ℕ). joined ran.taken ran.numbers (runs s m ran.parked ran.buffer x)) (append-nil (drop ran.taken ws))
      ∙ ap (joined ran.taken ran.numbers) (stays s m n p b ws h)
      ∙ ap₂ (λ (t : ℕ) (l : List ℕ). record { answer = ran.answer; parked = ran.parked; taken = t; numbers = l; buffer = ran.buffer }) (add-zero ran.taken) (append-nil ran.numbers)

-- the room of the uncut run: that of the last run, and the accesses of the runs before it
abbrev room_on : Bool → ℕ → ℕ → ℕ
room_on true n more = n
room_on false n more = more

unfoldable cut_room : List ℕ → Parked → List ℕ → List ℕ → Cut → List Cut → ℕ
cut_room s p b us c [] = c.room
cut_room s p b us c (d ∷ cs) =
    let q : RunOutcome = run_outcome s c.room p b (us ++ c.words) in
    room_on (ended q.parked) (accesses q.numbers) (accesses q.numbers + cut_room s q.parked q.buffer (drop q.taken (us ++ c.words)) d cs)

-- a run that parks leaves a call that is not wrong
still_right : (s : List ℕ) (n : ℕ) (p : Parked) (b ws : List ℕ) → wrong p (length s) (length b) ≡ false → ended (runs s n p b ws).parked ≡ false
    → wrong (runs s n p b ws).parked (length s) (length (runs s n p b ws).buffer) ≡ false
still_right s n p b ws e h =
    let k = kept_run s n p b ws (sound_of p (length s) (length b) e) in
    right (runs s n p b ws).parked (length s) (length (runs s n p b ws).buffer) h (subst (λ (m : ℕ). Sound (length s) m (runs s n p b ws).parked) (sym k.long) k.sound)

-- the cuts after the first, joined to its run
module _ (s : List ℕ) (p : Parked) (b us : List ℕ) (c : Cut) (d : Cut) (cs : List Cut) where
  abbrev Rest : RunOutcome → Type 0
  Rest q = cut_runs s q.parked q.buffer (drop q.taken (us ++ c.words)) d cs ≡ run_outcome s (cut_room s q.parked q.buffer (drop q.taken (us ++ c.words)) d cs) q.parked q.buffer (drop q.taken (us ++ c.words) ++ all_words d cs)

  abbrev Law : RunOutcome → Type 0
  Law q = unless_ended (ended q.parked) q (cut_runs s q.parked q.buffer (drop q.taken (us ++ c.words)) d cs)
      ≡ run_outcome s (room_on (ended q.parked) (accesses q.numbers) (accesses q.numbers + cut_room s q.parked q.buffer (drop q.taken (us ++ c.words)) d cs)) p b (us ++ (c.words ++ all_words d cs))

  -- the call is wrong in each run
  law_wrong : wrong p (length s) (length b) ≡ true → Rest (without_access (says 11 []) p b) → (t : Bool) → ended p ≡ t → Law (without_access (says 11 []) p b)
  law_wrong e ih true h = rw h (sym (outcome_wrong s p b _ _ e))
  law_wrong e ih false h = rw h (ap (joined 0 []) (ih ∙ outcome_wrong s p b _ _ e) ∙ sym (outcome_wrong s p b _ _ e))

  law_right : wrong p (length s) (length b) ≡ false → (t : Bool) → ended (runs s c.room p b (us ++ c.words)).parked ≡ t
      → Rest (runs s c.room p b (us ++ c.words)) → Law (runs s c.room p b (us ++ c.words))
  law_right e true h ih =
      rw h (sym (outcome_right s p b _ _ e ∙ ap (runs s (accesses (runs s c.room p b (us ++ c.words)).numbers) p b) (sym (append_assoc us c.words (all_words d cs))) ∙ same_end s c.room p b (us ++ c.words) (all_words d cs) BadLength h))
  law_right e false h ih =
      let q : RunOutcome = runs s c.room p b (us ++ c.words) in
      let r : ℕ = cut_room s q.parked q.buffer (drop q.taken (us ++ c.words)) d cs in
      rw h (ap (joined q.taken q.numbers) (ih ∙ outcome_right s q.parked q.buffer _ _ (still_right s c.room p b (us ++ c.words) e h))
      ∙ sym (cut s c.room r (all_words d cs) p b (us ++ c.words))
      ∙ ap (runs s (accesses q.numbers + r) p b) (append_assoc us c.words (all_words d cs))
      ∙ sym (outcome_right s p b _ _ e))

  law : (t : Bool) → wrong p (length s) (length b) ≡ t → ((q : RunOutcome) → Rest q) → Law (run_outcome s c.room p b (us ++ c.words))
  law true e ih = rw (outcome_wrong s p b (us ++ c.words) c.room e) (law_wrong e (ih (without_access (says 11 []) p b)) (ended p) refl)
  law false e ih = rw (outcome_right s p b (us ++ c.words) c.room e) (law_right e (ended (runs s c.room p b (us ++ c.words)).parked) refl (ih (runs s c.room p b (us ++ c.words))))

cut_from : (s : List ℕ) (p : Parked) (b us : List ℕ) (c : Cut) (cs : List Cut) → cut_runs s p b us c cs ≡ run_outcome s (cut_room s p b us c cs) p b (us ++ all_words c cs)
unfolding cut_runs cut_room all_words
cut_from s p b us c [] = refl
cut_from s p b us c (d ∷ cs) = law s p b us c d cs (wrong p (length s) (length b)) refl (λ q. cut_from s q.parked q.buffer (drop q.taken (us ++ c.words)) d cs)

module _ (s : List ℕ) (n : ℕ) (p : Parked) (b ws : List ℕ) (m : ℕ) where
  abbrev Enough : RunOutcome → Type 0
  Enough q = Spare m q → run_outcome s (accesses q.numbers + m) p b ws ≡ q

  enough : (t : Bool) → wrong p (length s) (length b) ≡ t → Enough (run_outcome s n p b ws)
  enough true e = rw (outcome_wrong s p b ws n e) (λ h. outcome_wrong s p b ws _ e)
  enough false e = rw (outcome_right s p b ws n e) (λ h. outcome_right s p b ws _ e ∙ enough_run s n p b ws m h)

  abbrev Still : RunOutcome → Type 0
  Still q = Spare m q → ended q.parked ≡ false → run_outcome s m q.parked q.buffer (drop q.taken ws) ≡ without_access q.answer q.parked q.buffer

  still : (t : Bool) → wrong p (length s) (length b) ≡ t → Still (run_outcome s n p b ws)
  still true e = rw (outcome_wrong s p b ws n e) (λ h k. outcome_wrong s p b ws m e)
  still false e = rw (outcome_right s p b ws n e) (λ h k. outcome_right s _ _ _ m (still_right s n p b ws e k) ∙ stays s m n p b ws h)

joins : (s : List ℕ) (p : Parked) (b : List ℕ) (c : Cut) (cs : List Cut) (m : ℕ) → Spare m (cut_runs s p b [] c cs) → cut_runs s p b [] c cs ≡ run_outcome s (accesses (cut_runs s p b [] c cs).numbers + m) p b (all_words c cs)
joins s p b c cs m h =
    subst (λ (q : RunOutcome). Spare m q → q ≡ run_outcome s (accesses q.numbers + m) p b (all_words c cs)) (sym (cut_from s p b [] c cs))
    (λ k. sym (enough s (cut_room s p b [] c cs) p b (all_words c cs) m (wrong p (length s) (length b)) refl k)) h

grows : (s : List ℕ) (p : Parked) (b : List ℕ) (c : Cut) (cs : List Cut) (m : ℕ) → Spare m (growing_runs s p 0 b [] c cs)
    → growing_runs s p 0 b [] c cs ≡ run_outcome s (accesses (growing_runs s p 0 b [] c cs).numbers + m) p b (all_words c cs)
grows s p b c cs m = rw (grown_from_first s p b c cs) (joins s p b c cs m)

-- a call that is begun with good lengths is run
begin_runs : (k : Kind) (address : ℕ) (s : List ℕ) (n : ℕ) (b ws : List ℕ) → lengths k (length s) (length b) ≡ true → called k address s n b ws ≡ run_outcome s n (begun k address (length s) (length b)) b ws
unfolding called
begin_runs k address s n b ws g = rw g

pub cut_law : CutLaw
cut_law = record {
  joins = joins;
  begins = λ k address s b c cs m g h. joins s (begun k address (length s) (length b)) b c cs m h ∙ sym (begin_runs k address s _ b (all_words c cs) g);
  grows = grows;
  begins_grows = λ k address s b c cs m g h. grows s (begun k address (length s) (length b)) b c cs m h ∙ sym (begin_runs k address s _ b (all_words c cs) g);
  nothing_new = λ s n p b ws m h e. still s n p b ws m (wrong p (length s) (length b)) refl h e;
}
