pub mod AdditionWords
pub mod AdditionRun
pub mod ProgramWords
pub mod ProgramRun
