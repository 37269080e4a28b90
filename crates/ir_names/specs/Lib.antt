pub mod Numbers
pub mod Results
pub mod Tables
pub mod Scopes
