pub mod BufferLaw
pub mod CutLaw
pub mod NextLaw
pub mod Run
