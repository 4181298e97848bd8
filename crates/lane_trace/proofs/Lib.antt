pub mod StoredEventLemmas
pub mod RoomLemmas
