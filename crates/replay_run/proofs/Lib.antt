pub mod Turning
pub mod Once
pub mod Replaying
pub mod OneOpen
