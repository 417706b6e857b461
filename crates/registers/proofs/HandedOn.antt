-- The laws that the proofs of the drivers may use, and nothing else of this folder: of a field put and got, and of a list laid over the front of another.
pub use Rattle.registers.proofs.FieldLaws.{put_lt, get-put, get_other}
pub use Rattle.registers.proofs.Over.{over_front, over_length}
