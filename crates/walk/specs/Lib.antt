pub mod Routes
pub mod Grounds
pub mod Trails
pub mod Tests
pub mod Ladders
