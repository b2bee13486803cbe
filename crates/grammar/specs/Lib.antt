pub mod Names
pub mod Grammar
pub mod Finding
pub mod Points
