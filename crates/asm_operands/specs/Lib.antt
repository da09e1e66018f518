pub mod LineCard
