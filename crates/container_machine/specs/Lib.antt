pub mod Calls
pub mod DuePlans
pub mod Dues
pub mod Found
pub mod Listing
pub mod Views
