pub mod OrderLemmas
pub mod RowLemmas
pub mod IdLemmas
pub mod OwnLemmas
pub mod OwnerLemmas
pub mod GoneLemmas
