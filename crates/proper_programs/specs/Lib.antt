pub mod ModuleKinds
pub mod Results
pub mod NeverCalled
