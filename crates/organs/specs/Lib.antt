pub mod Organs
