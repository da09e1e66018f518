pub mod Accumulator
