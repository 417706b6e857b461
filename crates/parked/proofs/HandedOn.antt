-- The laws that the proofs over a parked call may use, and nothing else of this folder: its access and the call after it at a known phase, and the count
-- of a byte that is moved.
pub use Rattle.parked.proofs.PhaseLaws.{access_at_lem, at_phase, after_wait, after_byte}
pub use Rattle.parked.proofs.Counts.{moves_below, more_fits}
