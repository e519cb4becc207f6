-- Demand 3: the round of a search and how far it goes, the visits of a compare block, the theorem; what other blocks leave alone; the calls of
-- the scan; when a compare finds nothing, and what it counts; the networks that show what each premise is for; MBIT's middle lamp.
pub mod Apart
pub mod Called
pub mod Chained
pub mod Climb
pub mod Counting
pub mod Demand3
pub mod Finding
pub mod Lamp
pub mod Marks
pub mod Printed
pub mod Reading
pub mod Spending
pub mod Visits
pub mod Witnesses
