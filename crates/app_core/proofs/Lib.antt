pub mod CountLemmas
pub mod LabelLemmas
pub mod SpawnLemmas
pub mod InputLemmas
pub mod StoredEffectLemmas
