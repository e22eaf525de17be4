pub mod Calling
pub mod Opening
pub mod Setting
pub mod Giving
pub mod Placing
pub mod Granted
pub mod HavingRead
pub mod Accessing
