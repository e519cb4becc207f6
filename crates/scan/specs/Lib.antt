-- What a scan is: the blocks in order, the outputs returned as numbers; several scans; the cases P1 to P14; then what is
-- true of it.
pub mod Scan
pub mod Scans
pub mod Cases
pub mod Truths
pub mod Inner
