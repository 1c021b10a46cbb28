mod KeyLemmas
mod LaneLemmas
mod OrderLemmas
