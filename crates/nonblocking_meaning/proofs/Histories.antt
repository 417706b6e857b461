-- A link holds 255 bytes, whatever its history.
use Prim.Native.Nat.{ℕ}
use mathlib.Core.Path.{◌≡◌, refl, ◌∙◌}
use mathlib.Core.Bool.{Bool, true, false}
use mathlib.Core.List.{List, [], ◌∷◌}
use lib.ListN.{length, get_or, length-replicate, length-set}
use lib.Dec.{eqb, ltb, leb}
use Rattle.registers.specs.declared.flag_order.Flag.{Flag}
use Rattle.registers.specs.declared.flag_order.Flag.TheVariants.{Berr, Arlo, Nackf, Txis, Rxne, Stopf, Tc, Tcr, Addr, Nothing}
use Rattle.registers.specs.Layout.{DIR, RXNE, ◌has◌}
use Rattle.registers.specs.Words.{starting, received}
use Rattle.registers.specs.FlagOrder.{taken_as}
use Rattle.registers.specs.CallLog.{Access, reads, entries}
use Rattle.registers.proofs.HandedOn.{over_length}
use Rattle.nonblocking_meaning.specs.Link.{Link}
use Rattle.nonblocking_meaning.specs.Link.{fresh, impossible}
use Rattle.nonblocking_meaning.specs.Call.{Call, Step, master_write, master_write_read, master_read, slave_write, check_isr_flags, execute_watchdog, get_errors_reset, master_get_data, slave_get_data, get_address, listen, unlisten, slave_sbc, set_address}
use Rattle.nonblocking_meaning.specs.Plan.{Plan, raised, on_txis, on_full, on_rxne, on_stopf, on_tc_at, on_addr, on_flag, on_start, good_length, on_slave_write, on_watchdog, plan_of}
use Rattle.nonblocking_meaning.specs.Outcome.{unless_refused, plan_at, outcome}
use Rattle.nonblocking_meaning.specs.EqualEnding.{ran}

-- how many bytes the link holds
abbrev size : Link → ℕ
size l = length l.«data»

-- the plan leaves as many bytes as there were
abbrev Keeps : Plan → Link → Type 0
Keeps p l = size p.link ≡ size l

-- what follows the ISR read of a check, by its flag: only RXNE stores a byte, in place
txis_keeps : (t : Bool) (l : Link) → Keeps (on_txis t l) l
txis_keeps true l = refl
txis_keeps false l = refl

full_keeps : (t : Bool) (v u : ℕ) (l : Link) → Keeps (on_full t v u l) l
full_keeps true v u l = refl
full_keeps false v u l = refl

rxne_keeps : (t : Bool) (v u : ℕ) (l : Link) → Keeps (on_rxne t v u l) l
rxne_keeps true v u l = length-set l.«data» l.index (received v)
rxne_keeps false v u l = full_keeps (v has RXNE) v u l

stopf_keeps : (t : Bool) (isr : ℕ) (l : Link) → Keeps (on_stopf t isr l) l
stopf_keeps true isr l = refl
stopf_keeps false isr l = refl

tc_keeps : (t : Bool) (i v : ℕ) (l : Link) → Keeps (on_tc_at t i v l) l
tc_keeps true i v l = refl
tc_keeps false i v l = refl

addr_keeps : (t : Bool) (isr v : ℕ) (l : Link) → Keeps (on_addr t isr v l) l
addr_keeps true isr v l = refl
addr_keeps false isr v l = refl

flag_keeps : (f : Flag) (isr v u : ℕ) (l : Link) → Keeps (on_flag f isr v u l) l
flag_keeps Berr isr v u l = refl
flag_keeps Arlo isr v u l = refl
flag_keeps Nackf isr v u l = refl
flag_keeps Txis isr v u l = txis_keeps (ltb l.index l.length) l
flag_keeps Rxne isr v u l = rxne_keeps (ltb l.index l.length) v u l
flag_keeps Stopf isr v u l = stopf_keeps (eqb l.index 0) isr l
flag_keeps Tc isr v u l =
    let i : ℕ = raised (ltb l.index l.length) l.index in
    tc_keeps (eqb i l.length) i v l
flag_keeps Tcr isr v u l = refl
flag_keeps Addr isr v u l = addr_keeps (isr has DIR) isr v l
flag_keeps Nothing isr v u l = refl

-- a start that finds START set or a bad length leaves the link; else its own bytes are laid over the front
start_keeps : (t s : Bool) (w : ℕ) (rest : List Access) (l l' : Link) → size l' ≡ size l → Keeps (on_start t s w rest l l') l
start_keeps true s w rest l l' e = refl
start_keeps false false w rest l l' e = refl
start_keeps false true w rest l l' e = e

-- so are those of a `slave_write`
slave_keeps : (s : Bool) (bytes : List ℕ) (w : ℕ) (l : Link) → Keeps (on_slave_write s bytes w l) l
slave_keeps true bytes w l = over_length bytes l.«data»
slave_keeps false bytes w l = refl

-- the watchdog touches no byte
watchdog_keeps : (s t : Bool) (w v u : ℕ) (l : Link) → Keeps (on_watchdog s t w v u l) l
watchdog_keeps true t w v u l = refl
watchdog_keeps false true w v u l = refl
watchdog_keeps false false w v u l = refl

-- every call
call_keeps : (call : Call) (w v u : ℕ) (l : Link) → Keeps (plan_of call w v u l) l
call_keeps (master_write address bytes) w v u l = start_keeps (starting w) (good_length bytes) w _ l _ (rw over_length)
call_keeps (master_write_read address bytes n) w v u l = start_keeps (starting w) (good_length bytes) w _ l _ (rw over_length)
call_keeps (master_read address n) w v u l = start_keeps (starting w) true w _ l _ (rw over_length)
call_keeps (slave_write bytes) w v u l = slave_keeps (good_length bytes) bytes w l
call_keeps check_isr_flags w v u l = flag_keeps (taken_as w) w v u l
call_keeps execute_watchdog w v u l = watchdog_keeps (eqb l.watchdog 0) (eqb l.watchdog 1) w v u l
call_keeps get_errors_reset w v u l = refl
call_keeps master_get_data w v u l = refl
call_keeps slave_get_data w v u l = refl
call_keeps get_address w v u l = refl
call_keeps listen w v u l = refl
call_keeps unlisten w v u l = refl
call_keeps (slave_sbc on) w v u l = refl
call_keeps (set_address address) w v u l = refl

-- a refusal leaves the link
refused_keeps : (t enough fits : Bool) (p : Plan) (l : Link) → Keeps p l → size (unless_refused t enough fits p l).link ≡ size l
refused_keeps true enough fits p l e = refl
refused_keeps false false fits p l e = refl
refused_keeps false true false p l e = refl
refused_keeps false true true p l e = e

-- one step, and a list of them
step_keeps : (s : Step) (l : Link) → size (outcome s l).link ≡ size l
unfolding outcome
step_keeps s l =
    let p : Plan = plan_at s l in
    refused_keeps (impossible l) (leb (reads p.accesses) (length s.words)) (leb (length (entries p.accesses)) s.places) p l
    (call_keeps s.call (get_or s.words 0 0) (get_or s.words 1 0) (get_or s.words 2 0) l)

ran_keeps : (l : Link) (steps : List Step) → size (ran l steps) ≡ size l
unfolding ran
ran_keeps l [] = refl
ran_keeps l (s ∷ steps) = ran_keeps (outcome s l).link steps ∙ step_keeps s l

-- the 255 bytes of construction
pub history_room : (history : List Step) → length (ran fresh history).«data» ≡ 255
history_room history = ran_keeps fresh history ∙ length-replicate {A = ℕ} 255 0
