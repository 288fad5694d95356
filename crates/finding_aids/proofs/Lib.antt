pub mod Common
pub mod PrintLemmas
pub mod PlaceLemmas
pub mod PlantLemmas
pub mod NumberLemmas
pub mod PreviewLemmas
