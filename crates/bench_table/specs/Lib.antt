pub mod BenchTable
pub mod Table
