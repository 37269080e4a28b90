mod Positions
mod ValueKinds
mod ConstantKinds
mod InstructionKinds
mod CalledKinds
mod TypedBodies
mod Bodies
pub mod TypedModules
pub mod WholeModules
mod Results
mod NeverCalled
