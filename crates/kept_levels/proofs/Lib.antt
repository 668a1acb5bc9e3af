pub mod FamilyViews
pub mod Staged
