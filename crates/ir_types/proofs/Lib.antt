mod Joined
mod Looking
mod Spotted
mod EachItem
mod EachInst
mod Checked
pub mod NoFaults
mod NamesChecked
