-- No link that calls leave is impossible: each plan leaves an index of at most the length, lengths of at most 255, and a watchdog of at most 10.
use Prim.Native.Nat.{ℕ, ◌≤◌}
use mathlib.Core.Path.{◌≡◌, refl, ap}
use mathlib.Core.Bool.{Bool, true, false, ◌||◌}
use mathlib.Core.List.{List, [], ◌∷◌}
use native.Mathlib.Omega.{arith}
use lib.ListN.{length, get_or}
use lib.Dec.{eqb, ltb, leb}
use borrow.Author.Tests.{ltb-true}
use Rattle.std.proofs.lemmas.Bool.{le-ltb}
use Rattle.registers.specs.declared.flag_order.Flag.{Flag}
use Rattle.registers.specs.declared.flag_order.Flag.TheVariants.{Berr, Arlo, Nackf, Txis, Rxne, Stopf, Tc, Tcr, Addr, Nothing}
use Rattle.registers.specs.Layout.{DIR, RXNE, ◌has◌}
use Rattle.registers.specs.Words.{starting}
use Rattle.registers.specs.FlagOrder.{taken_as}
use Rattle.registers.specs.CallLog.{Access, reads, entries}
use Rattle.registers.specs.Answers.{Said}
use Rattle.nonblocking_meaning.specs.Link.{Link, fresh, impossible}
use Rattle.nonblocking_meaning.specs.Call.{Call, Step, master_write, master_write_read, master_read, slave_write, check_isr_flags, execute_watchdog, get_errors_reset, master_get_data, slave_get_data, get_address, listen, unlisten, slave_sbc, set_address}
use Rattle.nonblocking_meaning.specs.Plan.{Plan, raised, on_txis, on_full, on_rxne, on_stopf, on_tc_at, on_addr, on_flag, on_start, good_length, on_slave_write, on_watchdog, plan_of}
use Rattle.nonblocking_meaning.specs.Outcome.{unless_refused, plan_at, outcome}
use Rattle.nonblocking_meaning.specs.EqualEnding.{ran}
use Rattle.nonblocking_meaning.specs.NeverImpossible.{Fits, AllFit, NeverImpossible}
use Rattle.nonblocking_meaning.proofs.Lengths.{good_255}

record Possible (l : Link) : Type 0 where
  index : l.index ≤ l.length
  length : l.length ≤ 255
  second : l.length_write_read ≤ 255
  watchdog : l.watchdog ≤ 10

-- a plan leaves a possible link, and does not answer 12
record Good (p : Plan) : Type 0 where
  link : Possible p.link
  answer : p.answer.number ≡ 12 → ⊥

txis_good : (t : Bool) (l : Link) → ltb l.index l.length ≡ t → Possible l → Good (on_txis t l)
txis_good true l e P = record { link = record { index = omega (arith, ltb-true _ _ e); length = P.length; second = P.second; watchdog = P.watchdog }; answer = λ x. omega (arith, x) }
txis_good false l e P = record { link = P; answer = λ x. omega (arith, x) }

full_good : (t : Bool) (v u : ℕ) (l : Link) → Possible l → Good (on_full t v u l)
full_good true v u l P = record { link = P; answer = λ x. omega (arith, x) }
full_good false v u l P = record { link = P; answer = λ x. omega (arith, x) }

rxne_good : (t : Bool) (v u : ℕ) (l : Link) → ltb l.index l.length ≡ t → Possible l → Good (on_rxne t v u l)
rxne_good true v u l e P = record { link = record { index = omega (arith, ltb-true _ _ e); length = P.length; second = P.second; watchdog = P.watchdog }; answer = λ x. omega (arith, x) }
rxne_good false v u l e P = full_good (v has RXNE) v u l P

stopf_good : (t : Bool) (isr : ℕ) (l : Link) → Possible l → Good (on_stopf t isr l)
stopf_good true isr l P = record { link = record { index = P.index; length = P.length; second = P.second; watchdog = omega arith }; answer = λ x. omega (arith, x) }
stopf_good false isr l P = record { link = record { index = P.index; length = P.length; second = P.second; watchdog = omega arith }; answer = λ x. omega (arith, x) }

raised_fits : (t : Bool) (i n : ℕ) → ltb i n ≡ t → i ≤ n → raised t i ≤ n
raised_fits true i n e h = omega (arith, ltb-true i n e)
raised_fits false i n e h = h

tc_good : (t : Bool) (i v : ℕ) (l : Link) → i ≤ l.length → Possible l → Good (on_tc_at t i v l)
tc_good true i v l h P = record { link = record { index = omega arith; length = P.second; second = omega arith; watchdog = P.watchdog }; answer = λ x. omega (arith, x) }
tc_good false i v l h P = record { link = record { index = h; length = P.length; second = P.second; watchdog = P.watchdog }; answer = λ x. omega (arith, x) }

addr_good : (t : Bool) (isr v : ℕ) (l : Link) → Possible l → Good (on_addr t isr v l)
addr_good true isr v l P = record { link = record { index = P.index; length = P.length; second = P.second; watchdog = omega arith }; answer = λ x. omega (arith, x) }
addr_good false isr v l P = record { link = record { index = omega arith; length = omega arith; second = P.second; watchdog = omega arith }; answer = λ x. omega (arith, x) }

flag_good : (f : Flag) (isr v u : ℕ) (l : Link) → Possible l → Good (on_flag f isr v u l)
flag_good Berr isr v u l P = record { link = record { index = P.index; length = P.length; second = P.second; watchdog = P.watchdog }; answer = λ x. omega (arith, x) }
flag_good Arlo isr v u l P = record { link = P; answer = λ x. omega (arith, x) }
flag_good Nackf isr v u l P = record { link = P; answer = λ x. omega (arith, x) }
flag_good Txis isr v u l P = txis_good (ltb l.index l.length) l refl P
flag_good Rxne isr v u l P = rxne_good (ltb l.index l.length) v u l refl P
flag_good Stopf isr v u l P = stopf_good (eqb l.index 0) isr l P
flag_good Tc isr v u l P =
    let i : ℕ = raised (ltb l.index l.length) l.index in
    tc_good (eqb i l.length) i v l (raised_fits (ltb l.index l.length) l.index l.length refl P.index) P
flag_good Tcr isr v u l P = record { link = P; answer = λ x. omega (arith, x) }
flag_good Addr isr v u l P = addr_good (isr has DIR) isr v l P
flag_good Nothing isr v u l P = record { link = P; answer = λ x. omega (arith, x) }

-- a start that finds START set or a bad length leaves the link
start_good : (t s : Bool) (w : ℕ) (rest : List Access) (l l' : Link) → Possible l → (s ≡ true → Possible l') → Good (on_start t s w rest l l')
start_good true s w rest l l' P h = record { link = P; answer = λ x. omega (arith, x) }
start_good false false w rest l l' P h = record { link = P; answer = λ x. omega (arith, x) }
start_good false true w rest l l' P h = record { link = h refl; answer = λ x. omega (arith, x) }

slave_good : (s : Bool) (bytes : List ℕ) (w : ℕ) (l : Link) → good_length bytes ≡ s → Possible l → Good (on_slave_write s bytes w l)
slave_good true bytes w l e P = record { link = record { index = omega arith; length = good_255 bytes e; second = P.second; watchdog = P.watchdog }; answer = λ x. omega (arith, x) }
slave_good false bytes w l e P = record { link = P; answer = λ x. omega (arith, x) }

watchdog_good : (s t : Bool) (w v u : ℕ) (l : Link) → Possible l → Good (on_watchdog s t w v u l)
watchdog_good true t w v u l P = record { link = P; answer = λ x. omega (arith, x) }
watchdog_good false true w v u l P = record { link = record { index = P.index; length = P.length; second = P.second; watchdog = omega arith }; answer = λ x. omega (arith, x) }
watchdog_good false false w v u l P = record { link = record { index = P.index; length = P.length; second = P.second; watchdog = omega (arith, P.watchdog) }; answer = λ x. omega (arith, x) }

call_good : (call : Call) (w v u : ℕ) (l : Link) → Fits call → Possible l → Good (plan_of call w v u l)
call_good (master_write address bytes) w v u l f P =
    start_good (starting w) (good_length bytes) w _ l _ P (λ e. record { index = omega arith; length = good_255 bytes e; second = omega arith; watchdog = omega arith })
call_good (master_write_read address bytes n) w v u l f P =
    start_good (starting w) (good_length bytes) w _ l _ P (λ e. record { index = omega arith; length = good_255 bytes e; second = f; watchdog = omega arith })
call_good (master_read address n) w v u l f P =
    start_good (starting w) true w _ l _ P (λ e. record { index = omega arith; length = f; second = P.second; watchdog = omega arith })
call_good (slave_write bytes) w v u l f P = slave_good (good_length bytes) bytes w l refl P
call_good check_isr_flags w v u l f P = let G = flag_good (taken_as w) w v u l P in record { link = G.link; answer = G.answer }
call_good execute_watchdog w v u l f P = watchdog_good (eqb l.watchdog 0) (eqb l.watchdog 1) w v u l P
call_good get_errors_reset w v u l f P = record { link = record { index = P.index; length = P.length; second = P.second; watchdog = P.watchdog }; answer = λ x. omega (arith, x) }
call_good master_get_data w v u l f P = record { link = P; answer = λ x. omega (arith, x) }
call_good slave_get_data w v u l f P = record { link = P; answer = λ x. omega (arith, x) }
call_good get_address w v u l f P = record { link = P; answer = λ x. omega (arith, x) }
call_good listen w v u l f P = record { link = P; answer = λ x. omega (arith, x) }
call_good unlisten w v u l f P = record { link = P; answer = λ x. omega (arith, x) }
call_good (slave_sbc on) w v u l f P = record { link = P; answer = λ x. omega (arith, x) }
call_good (set_address address) w v u l f P = record { link = P; answer = λ x. omega (arith, x) }

-- a possible link passes the test of 12
none_above : (i n h w : ℕ) → i ≤ n → n ≤ 255 → h ≤ 255 → w ≤ 10 → (((ltb n i || ltb 255 n) || ltb 255 h) || ltb 10 w) ≡ false
none_above i n h w p q r s = rw (le-ltb n i p, le-ltb 255 n q, le-ltb 255 h r, le-ltb 10 w s) refl

possible_lem : (l : Link) → Possible l → impossible l ≡ false
unfolding impossible
possible_lem l P = none_above l.index l.length l.length_write_read l.watchdog P.index P.length P.second P.watchdog

-- a step whose link is possible is refused with 9 or 10, or goes by its plan
step_good : (t enough fits : Bool) (p : Plan) (l : Link) → t ≡ false → Possible l → Good p →
    Possible (unless_refused t enough fits p l).link × ((unless_refused t enough fits p l).answer.number ≡ 12 → ⊥)
step_good true enough fits p l e P G = cc
step_good false false fits p l e P G = (P, λ x. omega (arith, x))
step_good false true false p l e P G = (P, λ x. omega (arith, x))
step_good false true true p l e P G = (G.link, G.answer)

outcome_good : (s : Step) (l : Link) → Fits s.call → Possible l → Possible (outcome s l).link × ((outcome s l).answer.number ≡ 12 → ⊥)
unfolding outcome
outcome_good s l f P =
    let p : Plan = plan_at s l in
    step_good (impossible l) (leb (reads p.accesses) (length s.words)) (leb (length (entries p.accesses)) s.places) p l (possible_lem l P) P
    (call_good s.call (get_or s.words 0 0) (get_or s.words 1 0) (get_or s.words 2 0) l f P)

ran_good : (l : Link) (steps : List Step) → AllFit steps → Possible l → Possible (ran l steps)
unfolding ran AllFit
ran_good l [] f P = P
ran_good l (s ∷ steps) f P = ran_good (outcome s l).link steps f.1 (outcome_good s l f.0 P).0

fresh_good : Possible fresh
fresh_good = record { index = omega arith; length = omega arith; second = omega arith; watchdog = omega arith }

pub never_impossible : NeverImpossible
never_impossible = record {
  possible = λ history f. possible_lem (ran fresh history) (ran_good fresh history f fresh_good);
  answers = λ history s f g e. (outcome_good s (ran fresh history) g (ran_good fresh history f fresh_good)).1 (ap (λ (x : Said). x.number) e);
}
