pub mod DayTexts
pub mod Lists
pub mod ReplyWhole
