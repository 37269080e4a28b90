mod Counted
mod SoFar
