pub mod Reference
pub mod OperandDecks
pub mod ShapeDecks
pub mod CountDecks
pub mod RealDecks
