pub mod Files
pub mod Options
pub mod Asking
pub mod Program
pub mod Saying
pub mod Restarting
