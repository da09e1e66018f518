pub mod ListFaults
pub mod BodyFaults
pub mod LayoutFaults
pub mod Operations
pub mod Orders
pub mod RealSteps
pub mod RealPromises
