pub mod Tests
pub mod ByKind
