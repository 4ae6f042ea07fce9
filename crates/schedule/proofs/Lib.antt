pub mod Told
pub mod Runs
pub mod AtDesk
pub mod Printed
pub mod WholeListing
