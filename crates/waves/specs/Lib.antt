pub mod Waves
