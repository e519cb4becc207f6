-- What the program's own functions ask for and promise: a file whose run has begun, how a run ends and with which status, what is read and appended.
pub mod Begun
pub mod End
pub mod Known
