pub mod ProgramSteps
