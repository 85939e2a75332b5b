pub mod Masks
pub mod Picks
pub mod Rules
pub mod Turns
pub mod Bits
pub mod Lows
pub mod Below
