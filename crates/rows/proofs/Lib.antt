mod Walks
mod Lines
