-- Laws of a run that goes on by one access, and of one that ends.
use Prim.Native.Nat.{ℕ, zero, suc, ◌+◌, ◌-◌, ◌/◌, ◌≤◌, ◌<◌, zero-le}
use mathlib.Core.Path.{◌≡◌, refl, sym, ap, ap₂, ◌∙◌, subst}
use mathlib.Core.Bool.{Bool}
use mathlib.Core.List.{List, [], ◌∷◌, ◌++◌, append-nil}
use native.Mathlib.Nat.{sub-zero, add-zero, suc-add}
use native.Mathlib.Omega.{arith}
use lib.ListN.{length, get_or, set, drop, length-drop, length-append}
use lib.Seq.{drop-drop, get_or-drop}
use Rattle.std.specs.Prelude.{Ok}
use Rattle.registers.specs.CallLog.{over}
use Rattle.registers.proofs.HandedOn.{over_length}
use Rattle.parked.specs.declared.phases.End.{End}
use Rattle.parked.specs.declared.phases.End.TheVariants.{OutOfWords, LogFull}
use Rattle.parked.specs.declared.next_access.Next.TheVariants.{Read, Write}
use Rattle.parked.specs.declared.Parked.{Parked}
use Rattle.parked.specs.BusyWait.{answer}
use Rattle.parked.specs.After.{after}
use Rattle.blocking_meaning.specs.declared.Ran.{Ran}
use Rattle.blocking_meaning.specs.Run.{without_access, joined, with_byte, next, runs, RunMatches}
use Rattle.blocking_meaning.proofs.HandedOn.{joined-none, joined_joined, run_out, run_read, run_write, full_read, full_write}
use Rattle.blocking.specs.declared.progress.Progress.{Progress}
use Rattle.blocking.specs.Steps.{Within, Going, Onward, Stops, Answered, over_from}

-- a call, with so many words taken and places logged
abbrev pub at : Parked → ℕ → ℕ → Progress
at p t g = record { parked = p; taken = t; logged = g }

over_none : (xs : List ℕ) → over xs [] ≡ []
over_none [] = refl
over_none (x ∷ xs) = refl

-- numbers laid over a log, and then more from the first place after them
over_on : (numbers xs start : List ℕ) → over_from (length numbers) xs (over numbers start) ≡ over (numbers ++ xs) start
over_on [] xs start = refl
over_on (n ∷ ns) xs [] = over_none xs
over_on (n ∷ ns) xs (y ∷ ys) = ap {B = List ℕ} (λ r. n ∷ r) (over_on ns xs ys)

room_two : (n g : ℕ) → g + 2 ≤ n → (n - g) / 2 ≡ suc ((n - (g + 2)) / 2)
room_two n g h = omega arith

room_none : (n g : ℕ) → n < g + 2 → (n - g) / 2 ≡ 0
room_none n g h = omega arith

pub going_none : (s ws start : List ℕ) (p : Parked) (b : List ℕ) → Going s ws start p b (at p 0 0) start b
going_none s ws start p b = record {
  numbers = [];
  entries = refl;
  logged = refl;
  room = zero-le;
  words = zero-le;
  run = rw sub-zero (joined-none (runs s (length start / 2) p b ws));
}

pub within : {s ws start : List ℕ} {p₀ : Parked} {b₀ : List ℕ} {p : Progress} {log b : List ℕ} → Going s ws start p₀ b₀ p log b → Within p ws log
within {s} {ws} {start} h = (h.words, omega (arith, h.room, ap length h.entries ∙ over_length h.numbers start))

-- the two numbers of an access, stored one after the other
pub stored_two : (g : ℕ) (log : List ℕ) (o w : ℕ) → g + 2 ≤ length log → set (set log g o) (g + 1) w ≡ over_from g (o ∷ w ∷ []) log
stored_two g [] o w h = absurd (omega arith)
stored_two zero (x ∷ []) o w h = absurd (omega arith)
stored_two zero (x ∷ y ∷ ys) o w h = refl
stored_two (suc g) (x ∷ xs) o w h = rw (suc-add g 1) (ap {B = List ℕ} (λ r. x ∷ r) (stored_two g xs o w (omega arith)))

module _ (s ws log b : List ℕ) (p : Progress) where
  -- one access: two numbers, of the next word or of none
  access : (u o w : ℕ) (p' : Parked) (b' : List ℕ) → p.logged + 2 ≤ length log → p.taken + u ≤ length ws
      → ((n : ℕ) → runs s (suc n) p.parked b (drop p.taken ws) ≡ joined u (o ∷ w ∷ []) (runs s n p' b' (drop u (drop p.taken ws))))
      → Onward s ws p log b (at p' (p.taken + u) (p.logged + 2)) (over_from p.logged (o ∷ w ∷ []) log) b'
  access u o w p' b' hg ht f = record {
    one = refl;
    going = λ start p₀ b₀ h. let long : length log ≡ length start = ap length h.entries ∙ over_length h.numbers start in record {
      numbers = h.numbers ++ (o ∷ w ∷ []);
      entries = ap₂ (λ (m : ℕ) (l : List ℕ). over_from m (o ∷ w ∷ []) l) h.logged h.entries ∙ over_on h.numbers (o ∷ w ∷ []) start;
      logged = ap (λ (m : ℕ). m + 2) h.logged ∙ sym (length-append h.numbers (o ∷ w ∷ []));
      room = omega (arith, long);
      words = ht;
      run =
          h.run
          ∙ ap (joined p.taken h.numbers)
          (ap (λ (m : ℕ). runs s m p.parked b (drop p.taken ws)) (room_two (length start) p.logged (omega (arith, long))) ∙ f ((length start - (p.logged + 2)) / 2))
          ∙ joined_joined p.taken u h.numbers (o ∷ w ∷ []) (runs s ((length start - (p.logged + 2)) / 2) p' b' (drop u (drop p.taken ws)))
          ∙ ap (λ (x : List ℕ). joined (p.taken + u) (h.numbers ++ (o ∷ w ∷ [])) (runs s ((length start - (p.logged + 2)) / 2) p' b' x)) (drop-drop u p.taken ws);
    };
  }

  some : p.taken < length ws → length (drop p.taken ws) ≡ 0 → ⊥
  some h e = omega (arith, length-drop p.taken ws)

  pub reads : (o : ℕ) (k : Bool) → next s p.parked ≡ Ok (Read o k) → p.taken < length ws → p.logged + 2 ≤ length log
      → Onward s ws p log b (at (after p.parked (get_or ws p.taken 0)) (p.taken + 1) (p.logged + 2)) (over_from p.logged (o ∷ get_or ws p.taken 0 ∷ []) log)
      (with_byte k p.parked.count (get_or ws p.taken 0) b)
  reads o k e h hg =
      access 1 o (get_or ws p.taken 0) (after p.parked (get_or ws p.taken 0)) (with_byte k p.parked.count (get_or ws p.taken 0) b) hg (omega arith)
      (λ n. subst (λ (w : ℕ). runs s (suc n) p.parked b (drop p.taken ws) ≡ joined 1 (o ∷ w ∷ []) (runs s n (after p.parked w) (with_byte k p.parked.count w b) (drop 1 (drop p.taken ws))))
      (get_or-drop p.taken ws 0 0 ∙ ap (λ (i : ℕ). get_or ws i 0) (add-zero p.taken))
      (run_read s p.parked b n (drop p.taken ws) o k e (some h)))

  pub writes : (o w : ℕ) → next s p.parked ≡ Ok (Write o w) → p.taken ≤ length ws → p.logged + 2 ≤ length log
      → Onward s ws p log b (at (after p.parked 0) p.taken (p.logged + 2)) (over_from p.logged (o ∷ w ∷ []) log) b
  writes o w e h hg =
      subst (λ (m : ℕ). Onward s ws p log b (at (after p.parked 0) m (p.logged + 2)) (over_from p.logged (o ∷ w ∷ []) log) b) (add-zero p.taken)
      (access 0 o w (after p.parked 0) b hg (omega arith) (λ n. run_write s p.parked b n (drop p.taken ws) o w e))

  -- no word is left, or no room
  pub no_word : (o : ℕ) (k : Bool) → next s p.parked ≡ Ok (Read o k) → length ws ≤ p.taken → Stops s ws p log b OutOfWords
  no_word o k e h = run_out s p.parked b _ (drop p.taken ws) o k e (omega (arith, length-drop p.taken ws))

  pub no_room_read : (o : ℕ) (k : Bool) → next s p.parked ≡ Ok (Read o k) → p.taken < length ws → length log < p.logged + 2 → Stops s ws p log b LogFull
  no_room_read o k e h hg = rw (room_none (length log) p.logged hg) (full_read s p.parked b (drop p.taken ws) o k e (some h))

  pub no_room_write : (o w : ℕ) → next s p.parked ≡ Ok (Write o w) → length log < p.logged + 2 → Stops s ws p log b LogFull
  no_room_write o w e hg = rw (room_none (length log) p.logged hg) (full_write s p.parked b (drop p.taken ws) o w e)

-- no access follows: the whole outcome of the run
pub finish : {s ws start : List ℕ} {p₀ : Parked} {b₀ : List ℕ} {p : Progress} {log b : List ℕ} {r : Ran} → Going s ws start p₀ b₀ p log b
    → (e : End) → Stops s ws p log b e → Answered p e r → RunMatches (runs s (length start / 2) p₀ b₀ ws) start r log b
finish {s} {ws} {start} {p₀} {b₀} {p} {log} {b} {r} h e k a =
    let long : length log ≡ length start = ap length h.entries ∙ over_length h.numbers start in
    let all : runs s (length start / 2) p₀ b₀ ws ≡ joined p.taken h.numbers (without_access (answer e p.parked) p.parked b) =
    h.run ∙ ap (joined p.taken h.numbers) (ap (λ (m : ℕ). runs s ((m - p.logged) / 2) p.parked b (drop p.taken ws)) (sym long) ∙ k) in
    rw all (record {
      answer = a.answer;
      parked = a.parked;
      taken = a.taken ∙ sym (add-zero p.taken);
      logged = a.logged ∙ h.logged ∙ ap length (sym (append-nil h.numbers));
      entries = h.entries ∙ ap (λ (l : List ℕ). over l start) (sym (append-nil h.numbers));
      buffer = refl;
    })
