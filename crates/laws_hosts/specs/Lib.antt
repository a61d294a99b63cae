-- What a host in C holds, and what the export of each call promises it
pub mod Hosts
-- what it then holds as a host in Rattle does, and what comes back to it
pub mod Crossed
-- calls one after another
pub mod Chains
