pub mod PowerLemmas
pub mod BoxLemmas
pub mod FamilyLemmas
pub mod OrderLemmas
