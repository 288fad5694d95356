pub mod Common
pub mod BoxLemmas
pub mod DateLemmas
pub mod DayLemmas
pub mod PrintLemmas
pub mod TextLemmas
pub mod ValueLemmas
