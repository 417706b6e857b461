-- The laws that the driver's proofs may use, beside the cut law and the buffer law, and nothing else of this folder: one access of a run, a wait at a
-- known phase, the calls that are not wrong, and how many words a run takes.
pub use Rattle.blocking_meaning.proofs.OneAccess.{joined-none, joined_joined, run_over, run_out, run_read, run_write, full_read, full_write, outcome_right, outcome_wrong}
pub use Rattle.blocking_meaning.proofs.Phased.{next_wait, next_in, next_out, wanted_in, wanted_out, found_byte, met}
pub use Rattle.blocking_meaning.proofs.Sound.{right_begun}
pub use Rattle.blocking_meaning.proofs.Taken.{taken_within}
