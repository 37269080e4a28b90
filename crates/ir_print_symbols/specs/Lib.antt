pub mod Printed
pub mod Spells
