-- What holds of the steps on words.
pub mod Made
pub mod ReadBlocking
pub mod WriteBlocking
pub mod NoAbort
pub mod ReadAsync
pub mod WriteAsync
