pub mod Qualifying
