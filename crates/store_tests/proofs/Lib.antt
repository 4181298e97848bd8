mod CarryingLemmas
mod BinLemmas
