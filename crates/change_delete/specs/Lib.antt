pub mod Deletes
