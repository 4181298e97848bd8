pub mod LonePartLemmas
