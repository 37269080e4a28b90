mod Known
mod Tests
mod Walks
mod Alike
mod Callees
mod Switches
