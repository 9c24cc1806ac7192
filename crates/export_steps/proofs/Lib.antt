-- What holds of the steps.
pub mod KindsOfForm
pub mod Driven
pub mod Told
pub mod Live
pub mod Forms
pub mod Looped
pub mod EveryLoop
