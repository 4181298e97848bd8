pub mod NameLemmas
pub mod PrintLemmas
pub mod FoundTreeLemmas
pub mod VersionLemmas
pub mod SerialLemmas
pub mod ReceiptLemmas
pub mod CountingLemmas
