mod ResultLemmas
mod ShareLemmas
