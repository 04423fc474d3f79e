pub mod Handle
pub mod Draft
pub mod Numbers
pub mod Wire
pub mod Calls
pub mod Judging
pub mod Text
