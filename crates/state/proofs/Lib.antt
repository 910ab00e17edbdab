pub mod StoreLeads
pub mod ReadLaws
pub mod LeadsLaws
pub mod ArmLaws
pub mod OwnLaws
pub mod OverLaws
pub mod Stores
