pub mod Zones
mod Runs
