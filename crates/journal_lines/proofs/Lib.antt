pub mod JournalFacts
pub mod RoomFacts
pub mod VerdictFacts
mod TestLemmas
mod MemberLemmas
mod FieldLemmas
mod FloatLemmas
mod RisingLemmas
mod WordLemmas
mod ListLemmas
mod PartLemmas
mod SoundLemmas
mod CarriedLemmas
mod CallLemmas
pub mod EntryLemmas
pub mod HeaderLemmas
pub mod LineLemmas
mod JournalLemmas
