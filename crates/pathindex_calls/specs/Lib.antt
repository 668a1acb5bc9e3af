pub mod Requests
pub mod Replies
pub mod Changes
pub mod Questions
pub mod Calls
