-- Every setting against the table of refusals, its counts against the documents, its accesses against the table of
-- registers, and the rate that it gives the bus.
pub mod Table
pub mod Counted
pub mod Accesses
pub mod BusRate
