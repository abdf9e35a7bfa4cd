pub mod RealizedParts
pub mod Realized
pub mod RealizedSteps
pub mod Counted
pub mod Smaller
