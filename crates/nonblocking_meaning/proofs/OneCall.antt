-- Each call, made of two links that agree.
use Prim.Native.Nat.{ℕ, suc, ◌-◌, ◌≤◌}
use mathlib.Core.Path.{◌≡◌, refl, ap}
use mathlib.Core.Bool.{Bool, true, false}
use mathlib.Core.List.{List, [], ◌∷◌}
use lib.ListN.{length, replicate}
use lib.Dec.{T, eqb}
use Rattle.registers.specs.Layout.{CR2, ISR}
use Rattle.registers.specs.Words.{starting}
use Rattle.registers.specs.FlagOrder.{taken_as}
use Rattle.registers.specs.CallLog.{Access, read, reads, entries}
use Rattle.registers.specs.Answers.{Said, says}
use Rattle.nonblocking_meaning.specs.Link.{Link}
use Rattle.nonblocking_meaning.specs.Link.{one_more}
use Rattle.nonblocking_meaning.specs.Link.{Common, link_of, new_transfer, no_marks, same_transfer, with_watchdog}
use Rattle.nonblocking_meaning.specs.Call.{Call, master_write, master_write_read, master_read, slave_write, check_isr_flags, execute_watchdog, get_errors_reset, master_get_data, slave_get_data, get_address, listen, unlisten, slave_sbc, set_address}
use Rattle.nonblocking_meaning.specs.Plan.{Plan, plan, on_start, good_length, on_slave_write, on_watchdog, value_plan, shows, plan_of}
use Rattle.nonblocking_meaning.specs.Book.{Book, Observed, Receiving, closed, by_read, by_bus, feed, clean}
use Rattle.nonblocking_meaning.specs.EqualEnding.{hide, hide_shown, hide_error_count, Sourced}
use Rattle.nonblocking_meaning.proofs.Lists.{zeros_same, take_same}
use Rattle.nonblocking_meaning.proofs.Agree.{Phase, Own, Agree, Twins, twins, own_over, with_errors, errors_agree, both_at, front_same, opened_agree, written_agree}
use Rattle.nonblocking_meaning.proofs.OneCheck.{seen_as, flag_tail, nothing_shown}
use Rattle.nonblocking_meaning.proofs.Lengths.{good_255}

-- one call as it is seen in both runs, and the links after it
pub record Alike (b : Book) (s₁ s₂ : Observed) (k₁ k₂ : Link) : Type 0 where
  pub compared : hide s₁ b ≡ hide s₂ b
  pub fed : feed s₁ b ≡ feed s₂ b
  pub links : Twins (feed s₁ b) k₁ k₂
  pub sourced₁ : Sourced s₁ b
  pub sourced₂ : Sourced s₂ b

-- the two plans of a call: both take as many words and as many places, and are seen alike unless they are kept out
pub record Both (call : Call) (b : Book) (p₁ p₂ : Plan) : Type 0 where
  pub words : reads p₁.accesses ≡ reads p₂.accesses
  pub places : length (entries p₁.accesses) ≡ length (entries p₂.accesses)
  pub alike : T (clean (seen_as call p₁) b) → Alike b (seen_as call p₁) (seen_as call p₂) p₁.link p₂.link

-- the same accesses and the same answer, and no byte shown: only the links are left to prove
plain : (call : Call) (b : Book) (g : List Access) (x : Said) (k₁ k₂ : Link) →
    Twins (feed (record { call = call; answer = x; accesses = g; shown = [] }) b) k₁ k₂ →
    Both call b (record { accesses = g; answer = x; link = k₁; shown = [] }) (record { accesses = g; answer = x; link = k₂; shown = [] })
plain call b g x k₁ k₂ t =
    record {
      words = refl;
      places = refl;
      alike = λ c. record { compared = refl; fed = refl; links = t; sourced₁ = nothing_shown call g x b; sourced₂ = nothing_shown call g x b };
    }

module _ (b : Book) (c : Common) (e₁ e₂ h₁ h₂ : ℕ) (d₁ d₂ : List ℕ) (A : Agree b c.index c.length e₁ e₂ h₁ h₂ d₁ d₂) (k : c.length ≤ 255) where
  -- the two links
  abbrev left : Link
  left = link_of c e₁ h₁ d₁

  abbrev right : Link
  right = link_of c e₂ h₂ d₂

  -- what both links have of their own after a call that sets the second-half length to n
  own_second_lem : (n : ℕ) → Own b.errors_read false e₁ e₂ n n d₁ d₂
  own_second_lem n = record { errors = A.own.errors; second = λ t. refl; possible = refl; size = A.own.size; room = A.own.room }

  -- after a `master_read` the second-half lengths may differ
  own_read : Own b.errors_read true e₁ e₂ h₁ h₂ d₁ d₂
  own_read = record { errors = A.own.errors; second = λ t. absurd t; possible = A.own.possible; size = A.own.size; room = A.own.room }

  -- a start that finds START set, or is refused for its length, leaves the links and the book; of an accepted one k₁ and k₂ are the links
  start_both : (call : Call) (t s : Bool) (w : ℕ) (rest : List Access) (k₁ k₂ : Link) →
      Twins (feed (seen_as call (plan (read CR2 w ∷ []) 1 left)) b) left right →
      (s ≡ true → Twins (feed (seen_as call (plan (read CR2 w ∷ rest) 0 left)) b) k₁ k₂) →
      Both call b (on_start t s w rest left k₁) (on_start t s w rest right k₂)
  start_both call true s w rest k₁ k₂ r z = plain call b _ _ _ _ r
  start_both call false false w rest k₁ k₂ r z = plain call b _ _ _ _ (twins c A)
  start_both call false true w rest k₁ k₂ r z = plain call b _ _ _ _ (z refl)

  -- a `slave_write` puts the same bytes into the book and into both links
  slave_both : (bytes : List ℕ) (w : ℕ) (s : Bool) → good_length bytes ≡ s → Both (slave_write bytes) b (on_slave_write s bytes w left) (on_slave_write s bytes w right)
  slave_both bytes w false q = plain (slave_write bytes) b _ _ _ _ (twins c A)
  slave_both bytes w true q =
      plain (slave_write bytes) b _ _ _ _ (twins (same_transfer (length bytes) c) (written_agree b d₁ d₂ bytes b.after_read (good_255 bytes q) A.own))

  -- the watchdog is the same in both, and so is what it does
  watchdog_both : (s t : Bool) (w v u : ℕ) → Both execute_watchdog b (on_watchdog s t w v u left) (on_watchdog s t w v u right)
  watchdog_both true t w v u = plain execute_watchdog b _ _ _ _ (twins c A)
  watchdog_both false true w v u = plain execute_watchdog b _ _ _ _ (twins (with_watchdog 0 c) (with_errors A (λ t. ap one_more (A.own.errors t))))
  watchdog_both false false w v u = plain execute_watchdog b _ _ _ _ (twins (with_watchdog (c.watchdog - 1) c) A)

  -- a check is its ISR read and what follows
  check_both : (w v u : ℕ) → Both check_isr_flags b (plan_of check_isr_flags w v u left) (plan_of check_isr_flags w v u right)
  check_both w v u =
      let t = flag_tail b c e₁ e₂ h₁ h₂ d₁ d₂ A k (taken_as w) w v u in
      record {
        words = ap suc t.words;
        places = ap (λ (n : ℕ). suc (suc n)) t.places;
        alike = λ x.
            let r = t.same x in
            let p : seen_as check_isr_flags (plan_of check_isr_flags w v u left) ≡ seen_as check_isr_flags (plan_of check_isr_flags w v u right) =
            λ j. record { call = check_isr_flags; answer = r.answer j; accesses = read ISR w ∷ r.accesses j; shown = r.shown j } in
            record { compared = p; fed = ap (λ (e : Observed). feed e b) p; links = r.links; sourced₁ = r.sourced₁; sourced₂ = r.sourced₂ };
      }

  -- the master's `get_data` shows the bytes below the length, which are the same unless ADDR or TC opened receiving; then they are not compared
  shown_both : (r : Receiving) → Phase r b.place b.count c.length d₁ d₂ →
      hide_shown r (seen_as master_get_data (shows c.length left)) ≡ hide_shown r (seen_as master_get_data (shows c.length right))
  shown_both closed ph =
      ap (λ (x : List ℕ). record { call = master_get_data; answer = says 0x47 (c.length ∷ []); accesses = []; shown = x })
      (take_same c.length d₁ d₂ A.own.size (λ j h. both_at A j (ph.1 j h)))
  shown_both by_read ph =
      ap (λ (x : List ℕ). record { call = master_get_data; answer = says 0x47 (c.length ∷ []); accesses = []; shown = x })
      (take_same c.length d₁ d₂ A.own.size ph)
  shown_both by_bus ph = refl

  -- the error count is the same once it was told; the first one is not compared
  errors_both : (t : Bool) → (T t → e₁ ≡ e₂) →
      hide_error_count t (seen_as get_errors_reset (value_plan 0x45 e₁ left)) ≡ hide_error_count t (seen_as get_errors_reset (value_plan 0x45 e₂ right))
  errors_both true p = ap (λ (x : ℕ). record { call = get_errors_reset; answer = says 0x45 (x ∷ []); accesses = []; shown = [] }) (p tt)
  errors_both false p = refl

  -- every call
  pub call_both : (call : Call) (w v u : ℕ) → Both call b (plan_of call w v u left) (plan_of call w v u right)
  call_both (master_write address bytes) w v u =
      start_both (master_write address bytes) (starting w) (good_length bytes) w _ _ _ (twins c A)
      (λ q. twins (new_transfer address (length bytes) no_marks) (written_agree b d₁ d₂ bytes false (good_255 bytes q) (own_second_lem 0)))
  call_both (master_write_read address bytes n) w v u =
      start_both (master_write_read address bytes n) (starting w) (good_length bytes) w _ _ _ (twins c A)
      (λ q. twins (new_transfer address (length bytes) no_marks) (written_agree b d₁ d₂ bytes false (good_255 bytes q) (own_second_lem n)))
  call_both (master_read address n) w v u =
      start_both (master_read address n) (starting w) true w _ _ _ (twins c A)
      (λ q. twins (new_transfer address n no_marks) (opened_agree b by_read true (zeros_same n d₁ d₂ A.own.size) (own_over (replicate n 0) own_read)))
  call_both (slave_write bytes) w v u = slave_both bytes w (good_length bytes) refl
  call_both check_isr_flags w v u = check_both w v u
  call_both execute_watchdog w v u = watchdog_both (eqb c.watchdog 0) (eqb c.watchdog 1) w v u
  call_both get_errors_reset w v u =
      record {
        words = refl;
        places = refl;
        alike = λ t. record {
          compared = errors_both b.errors_read A.own.errors;
          fed = refl;
          links = twins c (errors_agree A);
          sourced₁ = λ x. absurd x;
          sourced₂ = λ x. absurd x;
        };
      }
  call_both master_get_data w v u =
      record {
        words = refl;
        places = refl;
        alike = λ t. record {
          compared = shown_both b.receiving A.phase;
          fed = refl;
          links = twins c A;
          sourced₁ = λ x. absurd x;
          sourced₂ = λ x. absurd x;
        };
      }
  call_both slave_get_data w v u =
      record {
        words = refl;
        places = refl;
        alike = λ t. record {
          compared = ap (λ (x : List ℕ). record { call = slave_get_data; answer = says 0x47 (c.index ∷ []); accesses = []; shown = x }) (front_same A);
          fed = refl;
          links = twins c A;
          sourced₁ = λ x. absurd x;
          sourced₂ = λ x. absurd x;
        };
      }
  call_both get_address w v u = plain get_address b _ _ _ _ (twins c A)
  call_both listen w v u = plain listen b _ _ _ _ (twins c A)
  call_both unlisten w v u = plain unlisten b _ _ _ _ (twins c A)
  call_both (slave_sbc on) w v u = plain (slave_sbc on) b _ _ _ _ (twins c A)
  call_both (set_address address) w v u = plain (set_address address) b _ _ _ _ (twins c A)
