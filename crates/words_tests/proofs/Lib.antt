pub mod TurnLemmas
pub mod ReceiptTurnLemmas
pub mod WorkLemmas
