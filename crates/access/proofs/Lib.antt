pub mod Common
pub mod BranchesApart
mod AllPass
pub mod DiskBlames
pub mod Gates
pub mod DayRules
pub mod Standing
mod FewMarks
pub mod NamedContainers
pub mod NearRows
mod OpenByUnits
pub mod OpenByPermits
pub mod OpenElsewhere
pub mod OpenedUnits
pub mod Passing
mod ReadersMarks
pub mod Learned
mod MorePermits
mod Unpermitted
