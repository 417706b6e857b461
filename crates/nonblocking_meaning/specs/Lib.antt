pub mod Book
pub mod Call
pub mod EqualEnding
pub mod Link
pub mod NeverImpossible
pub mod Outcome
pub mod Plan
