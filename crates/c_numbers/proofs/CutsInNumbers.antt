-- The cut law over numbers: the numbers that are kept load the call that a run leaves, so that the runs over numbers are the runs over calls.
use Prim.Native.Nat.{ℕ, ◌<◌, ◌+◌, zero, suc, ◌%◌}
use mathlib.Core.Path.{◌≡◌, refl, sym, ap, ap₂, ◌∙◌, subst}
use mathlib.Core.Bool.{Bool, true, false}
use mathlib.Core.List.{List, [], ◌∷◌, ◌++◌, append_assoc}
use native.Mathlib.Omega.{arith}
use lib.Dec.{eqb}
use lib.ListN.{length, get_or, drop}
use Rattle.std.specs.Prelude.{All}
use Rattle.parked.specs.declared.kinds.Kind.{Kind}
use Rattle.parked.specs.declared.phases.Opening.TheVariants.{Start, Drain, Modify, Setup, Flush, Release, Probe, Drop}
use Rattle.parked.specs.declared.phases.End.TheVariants.{Addressed}
use Rattle.parked.specs.declared.phases.Phase.{Phase}
use Rattle.parked.specs.declared.phases.Phase.TheVariants.{Open, Wait, Transfer, Restart, TcrFound, NackNextByte, ClearBerr, ClearArlo, ClearNackf, ClearStopf, FlushTxis, FlushDummy, FlushTxe, FlushEmpty, Listen, Code, Ended}
use Rattle.parked.specs.declared.Parked.{Parked}
use Rattle.parked.specs.Phases.{count_effect}
use Rattle.parked.specs.Kinds.{lengths}
use Rattle.parked.specs.Opening.{opening}
use Rattle.parked.specs.Refusals.{begun, is_nothing, ended, wrong}
use Rattle.blocking_meaning.specs.Run.{RunOutcome, runs, run_outcome, called, resumed}
use Rattle.blocking_meaning.specs.CutLaw.{Cut, grown_unless_ended, growing_runs, all_words, Spare, accesses}
use Rattle.blocking_meaning.proofs.HandedOn.{outcome_wrong, outcome_right}
use Rattle.blocking_meaning.proofs.Cuts.{cut_law}
use Rattle.c_numbers.specs.ParkedCall.{phase_number, phase_word, phases, phase_of, stored, loaded}
use Rattle.c_numbers.specs.CutNumbers.{numbers_after, in_numbers, number_runs, CutNumbers}
use Rattle.c_numbers.proofs.Back.{loads_stored}
use Rattle.c_numbers.proofs.RunKeeps.{Small, none, small_rest, small_front, by_kind, Held, Keeps, keeps, unended}

-- the word of a phase that is loaded
infixr 20 ◌and◌
data Each : List Phase → Type 0 where
  nil : Each []
  ◌and◌ : {f : Phase} {fs : List Phase} → Small (phase_word f) → Each fs → Each (f ∷ fs)

each_at : (fs : List Phase) → Each fs → (n : ℕ) (d : Phase) → Small (phase_word d) → Small (phase_word (get_or fs n d))
each_at [] nil n d h = h
each_at (f ∷ fs) (a and r) zero d h = a
each_at (f ∷ fs) (a and r) (suc n) d h = each_at fs r n d h

word_loaded : (n w : ℕ) → Small w → Small (phase_word (phase_of n w))
word_loaded n w h =
    each_at (phases w)
    (none and none and none and h and none and none and none and none and none and none and none and none and h
    and none and none and none and none and none and none and none and none and none and none and none and none and none and none and none and none and none and nil)
    n (Ended (Addressed w)) h

pub opening_small : (k : Kind) → Small (phase_word (opening k))
opening_small = by_kind (λ k. Small (phase_word (opening k))) none none none none none none none

-- a phase that is no end is not the end of a refused call
going : (f : Phase) → is_nothing (count_effect f) ≡ false → eqb (phase_number f) 25 ≡ false
going (Open Start) e = refl
going (Open Drain) e = refl
going (Open Modify) e = refl
going (Open (Setup w)) e = refl
going (Open Flush) e = refl
going (Open Release) e = refl
going (Open Probe) e = refl
going (Open Drop) e = refl
going Wait e = refl
going Transfer e = refl
going Restart e = refl
going TcrFound e = refl
going (NackNextByte w) e = refl
going ClearBerr e = refl
going ClearArlo e = refl
going ClearNackf e = refl
going ClearStopf e = refl
going FlushTxis e = refl
going FlushDummy e = refl
going FlushTxe e = refl
going FlushEmpty e = refl
going Listen e = refl
going Code e = refl
going (Ended end) e = cc

held_loaded : (xs : List ℕ) → ended (loaded xs) ≡ false → Held (loaded xs)
held_loaded xs e =
    record {
      address = omega arith;
      fine = record { word = word_loaded (get_or xs 4 0) (get_or xs 5 0 % 4294967296) (omega arith); taken = going (loaded xs).phase e };
    }

-- the numbers that are kept load the call that a run leaves
module _ (s : List ℕ) (n : ℕ) (xs b ws : List ℕ) (h : All Small ws) where
  abbrev Same : RunOutcome → Type 0
  Same q = loaded (numbers_after xs q) ≡ q.parked

  right : (q : RunOutcome) → Keeps q → Same q
  right q r = rw r.answered (loads_stored q.parked r.held.address r.held.fine.word)

  either : (t : Bool) → wrong (loaded xs) (length s) (length b) ≡ t → Same (run_outcome s n (loaded xs) b ws)
  either true e = rw (outcome_wrong s (loaded xs) b ws n e) refl
  either false e = rw (outcome_right s (loaded xs) b ws n e) (right (runs s n (loaded xs) b ws) (keeps s n (loaded xs) b ws h (held_loaded xs (unended (loaded xs) _ _ e))))

  same : Same (run_outcome s n (loaded xs) b ws)
  same = either (wrong (loaded xs) (length s) (length b)) refl

in_numbers_same : (xs : List ℕ) (q : RunOutcome) → loaded (numbers_after xs q) ≡ q.parked → in_numbers xs q ≡ q
in_numbers_same xs q e = ap (λ (p : Parked). record { answer = q.answer; parked = p; taken = q.taken; numbers = q.numbers; buffer = q.buffer }) e

over : (s xs : List ℕ) (t : ℕ) (b us : List ℕ) (c : Cut) (cs : List Cut) → All Small (us ++ all_words c cs) → number_runs s xs t b us c cs ≡ growing_runs s (loaded xs) t b us c cs
unfolding number_runs growing_runs all_words
over s xs t b us c [] h =
    in_numbers_same xs (resumed s c.room (loaded xs) t b (us ++ c.words)) (same s c.room xs b (drop t (us ++ c.words)) (small_rest t (us ++ c.words) h))
over s xs t b us c (d ∷ cs) h =
    let q : RunOutcome = resumed s c.room (loaded xs) t b (us ++ c.words) in
    let k : All Small ((us ++ c.words) ++ all_words d cs) = subst (All Small) (sym (append_assoc us c.words (all_words d cs))) h in
    let e : loaded (numbers_after xs q) ≡ q.parked = same s c.room xs b (drop t (us ++ c.words)) (small_rest t (us ++ c.words) (small_front (us ++ c.words) (all_words d cs) k)) in
    ap₂ (grown_unless_ended (ended q.parked)) (in_numbers_same xs q e)
    (over s (numbers_after xs q) q.taken q.buffer (us ++ c.words) d cs k ∙ ap (λ (p : Parked). growing_runs s p q.taken q.buffer (us ++ c.words) d cs) e)

joins : (s xs b : List ℕ) (c : Cut) (cs : List Cut) (m : ℕ) → All Small (all_words c cs) → Spare m (number_runs s xs 0 b [] c cs)
    → number_runs s xs 0 b [] c cs ≡ run_outcome s (accesses (number_runs s xs 0 b [] c cs).numbers + m) (loaded xs) b (all_words c cs)
joins s xs b c cs m h = rw (over s xs 0 b [] c cs h) (cut_law.grows s (loaded xs) b c cs m)

-- a call that is begun, stored before its first access
begun_back : (k : Kind) (address n m : ℕ) → address < 256 → loaded (stored (begun k address n m)) ≡ begun k address n m
begun_back k address n m e = loads_stored (begun k address n m) e (opening_small k)

begins : (k : Kind) (address : ℕ) (s b : List ℕ) (c : Cut) (cs : List Cut) (m : ℕ) (xs : List ℕ) → lengths k (length s) (length b) ≡ true
    → loaded xs ≡ begun k address (length s) (length b) → All Small (all_words c cs) → Spare m (number_runs s xs 0 b [] c cs)
    → number_runs s xs 0 b [] c cs ≡ called k address s (accesses (number_runs s xs 0 b [] c cs).numbers + m) b (all_words c cs)
begins k address s b c cs m xs g e h =
    rw (over s xs 0 b [] c cs h, e) (cut_law.begins_grows k address s b c cs m g)

pub cut_numbers : CutNumbers
cut_numbers = record {
  keeps = same;
  joins = joins;
  begins = λ k address s b c cs m e g. begins k address s b c cs m (stored (begun k address (length s) (length b))) g (begun_back k address (length s) (length b) e);
}
